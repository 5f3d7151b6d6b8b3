-- How the program ends on arguments that are written out, whatever else there is: so a body that ends in one way on any arguments, with
-- help or as if nothing were to be checked, has not done what it has to.
use Rattle.std.proofs.Common.{◌≡◌, ◌≢◌, ◌∙◌, ◌⊎◌, ◌++◌, ◌||◌, inl, inr, ap, rules, refl, sym, subst, ⊎_elim, ℕ, Bool, true, false, List, [], ◌∷◌, codes, Option, Some, None, Result, Ok, Err, IsErr, length, nat_lt, option_map, true≢false, append-nil, append_assoc}
use Rattle.std.proofs.lemmas.List.{append_cancel_left}
use Rattle.std.specs.Io.KnownBytes.{Appends}
use Rattle.clap.specs.Faults.{fault_of}
use Rattle.clap.specs.Kinds.{IsAmong}
use Rattle.clap.specs.Simple.{subcommand_of}
use Rattle.clap.specs.declared.error.kind.ErrorKind.{ErrorKind}
use Rattle.clap.specs.declared.error.kind.ErrorKind.TheVariants.{MissingSubcommand}
use Rattle.clap.specs.declared.parser.matches.Found.{Found}
use Rattle.clap.proofs.OnLiterals.{clap_on_literals}
use Rattle.lic_arguments.specs.CommandLine.{IsCall, IsNoCall, licscan}
use Rattle.lic_engine.specs.declared.fault.RunFault.{RunFault}
use Rattle.lic_command.specs.Commands.{HasEnded, HasScanned}
use Rattle.lic_command.specs.Commands.HasEnded.{scanned, checked, listed, helped, refused, stopped}
use Rattle.lic_command.specs.Lines.{AreWritten, Input}
use Rattle.lic_command.specs.Lines.AreWritten.{no_file, one_more}
use Rattle.lic_command.specs.Outcomes.{IsWithOneMore}
use Rattle.lic_command.specs.Statuses.{IsStatus}
use Rattle.lic_command.specs.Usage.{IsFault}
use Rattle.lic_command.specs.declared.files.Work.{Work}
use Rattle.lic_command.specs.declared.files.Work.TheVariants.{Scan}
use Rattle.lic_command.specs.declared.files.Written.{Written}
use Rattle.lic_command.specs.declared.progress.Progress.{Progress}

-- a call of `scan`
abbrev scan_of_a : List (List ℕ)
scan_of_a = codes "scan" ∷ codes "--templates" ∷ codes "T" ∷ codes "a" ∷ []

fault_of_none : fault_of licscan [] ≡ MissingSubcommand ∷ []
unfolding clap_on_literals
fault_of_none = refl

fault_of_scan : fault_of licscan scan_of_a ≡ []
unfolding clap_on_literals
fault_of_scan = refl

command_of_scan : option_map (λ p. p.0) (subcommand_of licscan scan_of_a) ≡ Some (codes "scan")
unfolding clap_on_literals
command_of_scan = refl

none_is_no_call : (name : List ℕ) (found : Found) → IsCall [] name found → ⊥
none_is_no_call name found call = let equal : MissingSubcommand ∷ [] ≡ [] = sym fault_of_none ∙ call.whole in cc

none_is_a_fault : (kind : ErrorKind) → IsNoCall [] kind → IsFault kind
none_is_a_fault kind no_call = subst IsFault (sym is) (search rules)
  where
    is : kind ≡ MissingSubcommand
    is = ⊎_elim (λ is. is) (λ none. absurd none) (subst (IsAmong kind) fault_of_none no_call.among)

name_of_scan : (name : List ℕ) (found : Found) → IsCall scan_of_a name found → name ≡ codes "scan"
name_of_scan name found call =
    let equal : Some name ≡ Some (codes "scan") = ap (option_map (λ p. p.0)) (sym call.command) ∙ command_of_scan in cc

check_is_another : codes "check" ≡ codes "scan" → ⊥
check_is_another equal = cc

tokens_is_another : codes "tokens" ≡ codes "scan" → ⊥
tokens_is_another equal = cc

scan_is_no_fault : (kind : ErrorKind) → IsNoCall scan_of_a kind → ⊥
scan_is_no_fault kind no_call = subst (IsAmong kind) fault_of_scan no_call.among

module _ (progress : Progress) (in_old in_new : Input) (out_old out_new err_old err_new : Option (List ℕ)) (failed_old failed_new status : ℕ) where
  -- without arguments the status is 2
  without_arguments : HasEnded [] progress in_old in_new out_old out_new err_old err_new failed_old failed_new status → status ≡ 2
  without_arguments (scanned found call done) = absurd (none_is_no_call _ found call)
  without_arguments (checked found call done unread) = absurd (none_is_no_call _ found call)
  without_arguments (listed found call done) = absurd (none_is_no_call _ found call)
  without_arguments (helped kind no_call asks text shown silent kept unread is) = absurd (asks (none_is_a_fault kind no_call))
  without_arguments (refused kind no_call fault text reported unwritten unread is) = is
  without_arguments (stopped reported is) = is

  -- a call of `scan` that ends with another status has scanned
  of_a_scan : HasEnded scan_of_a progress in_old in_new out_old out_new err_old err_new failed_old failed_new status
      → (status ≡ 2) ⊎ ((found : Found) × HasScanned found progress in_old in_new out_old out_new err_old err_new failed_old failed_new status)
  of_a_scan (scanned found call done) = inr (found, done)
  of_a_scan (checked found call done unread) = absurd (check_is_another (name_of_scan _ found call))
  of_a_scan (listed found call done) = absurd (tokens_is_another (name_of_scan _ found call))
  of_a_scan (helped kind no_call asks text shown silent kept unread is) = absurd (scan_is_no_fault kind no_call)
  of_a_scan (refused kind no_call fault text reported unwritten unread is) = inl is
  of_a_scan (stopped reported is) = inl is

-- ---- a scan that ends well has written something

-- so much more is known to be written
record IsMore (before : List ℕ) (new : Option (List ℕ)) (has_line : Bool) : Type 0 where
  more : List ℕ
  is : new ≡ Some (before ++ more)
  line : has_line ≡ true → more ≢ []

appended : (xs bs : List ℕ) (new : Option (List ℕ)) → Appends (Some xs) new bs → new ≡ Some (xs ++ bs)
appended xs bs None appends = absurd appends
appended xs bs (Some ys) appends = ap Some appends

first_of : (xs ys : List ℕ) → xs ++ ys ≡ [] → xs ≡ []
first_of [] ys is = refl
first_of (x ∷ xs) ys is = absurd (cons_is_not_nil is)
  where
    cons_is_not_nil : x ∷ (xs ++ ys) ≡ [] → ⊥
    cons_is_not_nil is = cc

second_of : (xs ys : List ℕ) → xs ++ ys ≡ [] → ys ≡ []
second_of [] ys is = is
second_of (x ∷ xs) ys is = absurd (cons_is_not_nil is)
  where
    cons_is_not_nil : x ∷ (xs ++ ys) ≡ [] → ⊥
    cons_is_not_nil is = cc

false_unless : (b : Bool) → (b ≡ true → ⊥) → b ≡ false
false_unless false not = refl
false_unless true not = absurd (not refl)

-- where nothing is refused afterwards, nothing was before, nor is this file
not_refused : (before after : Written) (answer : Result Bool RunFault) → IsWithOneMore before answer after → after.is_refused ≡ false
    → ((before.is_refused ≡ true) ⊎ IsErr answer) → ⊥
not_refused before after answer one sound is = true≢false (sym (one.refused.1 is) ∙ sound)

sound_before : (before after : Written) (answer : Result Bool RunFault) → IsWithOneMore before answer after → after.is_refused ≡ false
    → before.is_refused ≡ false
sound_before before after answer one sound = false_unless before.is_refused (λ was. not_refused before after answer one sound (inl was))

-- one file more
one_file : (before lines : List ℕ) {mid new : Option (List ℕ)} (mid_written written : Written) (some : Bool) → IsMore before mid mid_written.has_line
    → Appends mid new lines → some ≡ nat_lt 0 (length lines) → IsWithOneMore mid_written (Ok some) written → IsMore before new written.has_line
one_file before lines {mid} {new} mid_written written some prev appends some_is one = record {
  more = prev.more ++ lines;
  is = appended (before ++ prev.more) lines new (subst (λ m. Appends m new lines) prev.is appends) ∙ ap Some (append_assoc before prev.more lines);
  line = λ line none. ⊎_elim (λ was. prev.line was (first_of prev.more lines none))
      (λ is. let some_true : some ≡ true = cc in
      true≢false (sym some_true ∙ some_is ∙ ap (λ l. nat_lt 0 (length l)) (second_of prev.more lines none))) (one.line.0 line);
}

module _ (work : Work) (in_old : Input) where
  written_on : {old new : Option (List ℕ)} {names refused : List (List ℕ)} {in_new : Input} {written : Written} (before : List ℕ)
      → AreWritten work in_old old names refused in_new new written → old ≡ Some before → written.is_refused ≡ false
      → IsMore before new written.has_line
  written_on before no_file is sound = record { more = []; is = is ∙ ap Some (sym (append-nil before)); line = λ line. absurd (true≢false (sym line)) }
  written_on before (one_more name (Ok some) rest read wrote more) is sound =
      one_file before wrote.1 _ _ some (written_on before rest is (sound_before _ _ (Ok some) more sound)) wrote.4 wrote.5 more
  written_on before (one_more name (Err fault) rest read wrote more) is sound = absurd (not_refused _ _ (Err fault) more sound (inr refl))

-- one of two is refused where the first is
first_is : (a b : Bool) → a || b ≡ false → a ≡ false
first_is false b is = refl
first_is true b is = absurd (true≢false is)

ends_well : (is_refused has_line : Bool) → IsStatus is_refused has_line 0 → (is_refused ≡ false) × (has_line ≡ true)
ends_well true has_line ends = absurd (zero_is_not_two (ends.refused refl))
  where
    zero_is_not_two : (◌≡◌ {A = ℕ} 0 2) → ⊥
    zero_is_not_two is = cc
ends_well false true ends = (refl, refl)
ends_well false false ends = absurd (zero_is_not_one (ends.not_so refl refl))
  where
    zero_is_not_one : (◌≡◌ {A = ℕ} 0 1) → ⊥
    zero_is_not_one is = cc

has_written : (found : Found) (progress : Progress) (in_old in_new : Input) (before : List ℕ) (out_new err_old err_new : Option (List ℕ))
    (failed_old failed_new : ℕ) → HasScanned found progress in_old in_new (Some before) out_new err_old err_new failed_old failed_new 0
    → IsMore before out_new true
has_written found progress in_old in_new before out_new err_old err_new failed_old failed_new done =
    let ends = ends_well _ _ done.ends in
    subst (IsMore before out_new) ends.1
    (written_on (Scan done.search) in_old before done.lines refl (first_is done.written.is_refused done.is_left_out ends.0))

-- a call of `scan` that ends with 0 has written something, where it is known what is written
a_scan_that_ends_well : (progress : Progress) (in_old in_new : Input) (before : List ℕ) (out_new err_old err_new : Option (List ℕ))
    (failed_old failed_new : ℕ) → HasEnded scan_of_a progress in_old in_new (Some before) out_new err_old err_new failed_old failed_new 0
    → out_new ≢ Some before
a_scan_that_ends_well progress in_old in_new before out_new err_old err_new failed_old failed_new ended same =
    ⊎_elim zero_is_not_two (λ scan. nothing_more (has_written scan.0 progress in_old in_new before out_new err_old err_new failed_old failed_new scan.1))
    (of_a_scan progress in_old in_new (Some before) out_new err_old err_new failed_old failed_new 0 ended)
  where
    zero_is_not_two : (◌≡◌ {A = ℕ} 0 2) → ⊥
    zero_is_not_two is = cc

    nothing_more : IsMore before out_new true → ⊥
    nothing_more written = written.line refl (sym (append_cancel_left before [] written.more (append-nil before ∙ as_before)))
      where
        as_before : before ≡ before ++ written.more
        as_before = let equal : Some before ≡ Some (before ++ written.more) = sym same ∙ written.is in cc
