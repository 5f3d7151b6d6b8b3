-- From the clauses of a file's reader to those of its caller.
use Rattle.std.proofs.Common.{◌≡◌, ℕ, List, None, IfOk, IfErr, MatchResult, OnOk, Result, Ok, Err, IsErrAnd, sym, subst}
use Rattle.std.specs.Str.{IsUtf8}
use Rattle.lic_phrases.specs.Rewriting.{Phrase}
use Rattle.lic_phrases.specs.WordLists.{AreWords, first_fault, phrase_lines}
use Rattle.lic_load.specs.Loading.{IsListOfFile}

-- what holds of a value holds of it where only the fault is another
pub kept : {T D E : Type 0} (Q : D → E → Type 0) (r : Result T D) (s : Result T E) (P : T → Type 0)
    → MatchResult r (λ x. s ≡ Ok x) (λ e. IsErrAnd s (Q e)) → IfOk r P → IfOk s P
kept Q (Ok x) s P same p = subst (λ q. IfOk q P) (sym same) p
kept Q (Err e) (Ok x) P not p = absurd not
kept Q (Err e) (Err y) P is p = tt

-- what holds of a fault, as the other fault has it
pub turned : {T D E : Type 0} (Q : D → E → Type 0) (r : Result T D) (s : Result T E) (P : D → Type 0) (R : E → Type 0)
    → MatchResult r (λ x. s ≡ Ok x) (λ e. IsErrAnd s (Q e)) → ((e : D) (y : E) → Q e y → P e → R y) → IfErr r P → IfErr s R
turned Q (Ok x) s P R same turn p = subst (λ q. IfErr q R) (sym same) tt
turned Q (Err e) (Ok x) P R not turn p = absurd not
turned Q (Err e) (Err y) P R is turn p = turn e y is p

-- a list that these bytes say is what some bytes say
pub list_of_file : {E : Type 0} (bytes : List ℕ) (r : Result (List Phrase) E) → OnOk r (IsUtf8 bytes × (first_fault bytes ≡ None))
    → IfOk r (AreWords (phrase_lines bytes)) → IfOk r IsListOfFile
list_of_file bytes (Ok words) accepted are = (bytes, accepted.0, accepted.1, are)
list_of_file bytes (Err e) accepted are = tt
