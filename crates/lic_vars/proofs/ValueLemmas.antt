-- The values of a derivation by its record.
use Rattle.std.proofs.Common.{◌≡◌, ℕ, suc, ◌+◌, ◌-◌, ◌==◌, Bool, true, false, List, [], ◌∷◌, ◌++◌, length, take, drop, Some, None, slice_get, refl, sym, ap, ◌∙◌, append_assoc, append-nil, arith, if◌then◌else◌}
use Rattle.std.proofs.lemmas.List.{drop-drop}
use Rattle.std.specs.Str.{chars}
use Rattle.lic_words.specs.Words.{Word, blank}
use Rattle.lic_words.specs.Letters.{letters_in}
use Rattle.lic_tokens.specs.declared.token.Span.{Span}
use Rattle.lic_markup.specs.Parts.{Nodes, no_node, one_more}
use Rattle.lic_markup.specs.Parts as parts
use Rattle.lic_vars.specs.Derivations.{Choice, word_of, record_of}
use Rattle.lic_vars.specs.Values.{Assigned, last_end, covered, absent_values, choice_values}
use Rattle.lic_vars.specs.Moves.{Move, text, variable, optional, moves}
use Rattle.lic_vars.specs.Recorded.{recorded}

in_cons : (b : Bool) (x y z : ℕ) → x ≡ y + z → (if b then x else suc x) ≡ (if b then y else suc y) + z
in_cons true x y z e = e
in_cons false x y z e = omega arith

pub letters_in-append : (u v : Word) → letters_in (u ++ v) ≡ letters_in u + letters_in v
letters_in-append [] v = omega arith
letters_in-append (c ∷ u) v = in_cons (c == blank) (letters_in (u ++ v)) (letters_in u) (letters_in v) (letters_in-append u v)

drop_words : (u v : Word) (spans : List Span) → drop (letters_in v) (drop (letters_in u) spans) ≡ drop (letters_in (u ++ v)) spans
drop_words u v spans = drop-drop (letters_in v) (letters_in u) spans ∙ ap (λ n. drop n spans) (sym (letters_in-append u v))

-- the variables among moves match nothing
abbrev absent : List Move → List Assigned
absent [] = []
absent (text w ∷ ms) = absent ms
absent (variable name re ∷ ms) = record { name = name; span = None } ∷ absent ms
absent (optional n ∷ ms) = absent ms

absent_append : (xs ys : List Move) → absent (xs ++ ys) ≡ absent xs ++ absent ys
absent_append [] ys = refl
absent_append (text w ∷ xs) ys = absent_append xs ys
absent_append (variable name re ∷ xs) ys = ap (λ s. record { name = name; span = None } ∷ s) (absent_append xs ys)
absent_append (optional n ∷ xs) ys = absent_append xs ys

absent_moves : (ns : Nodes) → absent (moves ns) ≡ absent_values ns
absent_moves no_node = refl
absent_moves (one_more (parts.letters txt) rest) = absent_moves rest
absent_moves (one_more (parts.variable name original pattern) rest) = ap (λ s. record { name = name; span = None } ∷ s) (absent_moves rest)
absent_moves (one_more (parts.optional body) rest) =
    absent_append (moves body) (moves rest) ∙ ap (λ s. s ++ absent (moves rest)) (absent_moves body)
    ∙ ap (λ s. absent_values body ++ s) (absent_moves rest)

recorded_absent : (xs ys : List Move) (r : List ℕ) (spans : List Span) → recorded (length xs) (xs ++ ys) r spans ≡ absent xs ++ recorded 0 ys r spans
recorded_absent [] ys r spans = refl
recorded_absent (text w ∷ xs) ys r spans = recorded_absent xs ys r spans
recorded_absent (variable name re ∷ xs) ys r spans = ap (λ s. record { name = name; span = None } ∷ s) (recorded_absent xs ys r spans)
recorded_absent (optional n ∷ xs) ys r spans = recorded_absent xs ys r spans

-- what comes after the nodes
abbrev Past : (ns : Nodes) → Choice ns → List Move → List ℕ → List Span → List Assigned
Past ns d ms r spans = choice_values ns d spans ++ recorded 0 ms r (drop (letters_in (word_of ns d)) spans)

recorded_choice : (ns : Nodes) (d : Choice ns) (ms : List Move) (r : List ℕ) (spans : List Span) →
    recorded 0 (moves ns ++ ms) (record_of ns d ++ r) spans ≡ Past ns d ms r spans
recorded_choice no_node d ms r spans = refl
recorded_choice (one_more (parts.letters txt) rest) d ms r spans =
    recorded_choice rest d ms r (drop (letters_in (chars txt)) spans)
    ∙ ap (λ s. choice_values rest d (drop (letters_in (chars txt)) spans) ++ recorded 0 ms r s) (drop_words (chars txt) (word_of rest d) spans)
recorded_choice (one_more (parts.variable name original pattern) rest) (u, d) ms r spans =
    ap (λ s. record { name = name; span = covered (take (letters_in u) spans) } ∷ s)
    (recorded_choice rest d ms r (drop (letters_in u) spans)
    ∙ ap (λ s. choice_values rest d (drop (letters_in u) spans) ++ recorded 0 ms r s) (drop_words u (word_of rest d) spans))
recorded_choice (one_more (parts.optional body) rest) (None, d) ms r spans =
    ap (λ s. recorded (length (moves body)) s (record_of rest d ++ r) spans) (append_assoc (moves body) (moves rest) ms)
    ∙ recorded_absent (moves body) (moves rest ++ ms) (record_of rest d ++ r) spans
    ∙ ap (λ s. s ++ recorded 0 (moves rest ++ ms) (record_of rest d ++ r) spans) (absent_moves body)
    ∙ ap (λ s. absent_values body ++ s) (recorded_choice rest d ms r spans)
    ∙ sym (append_assoc (absent_values body) (choice_values rest d spans) (recorded 0 ms r (drop (letters_in (word_of rest d)) spans)))
recorded_choice (one_more (parts.optional body) rest) (Some b, d) ms r spans =
    ap (λ s. recorded 0 s ((record_of body b ++ record_of rest d) ++ r) spans) (append_assoc (moves body) (moves rest) ms)
    ∙ ap (λ s. recorded 0 (moves body ++ (moves rest ++ ms)) s spans) (append_assoc (record_of body b) (record_of rest d) r)
    ∙ recorded_choice body b (moves rest ++ ms) (record_of rest d ++ r) spans
    ∙ ap (λ s. choice_values body b spans ++ s) (recorded_choice rest d ms r (drop (letters_in (word_of body b)) spans))
    ∙ ap (λ s. choice_values body b spans ++ (choice_values rest d (drop (letters_in (word_of body b)) spans) ++ recorded 0 ms r s))
    (drop_words (word_of body b) (word_of rest d) spans)
    ∙ sym (append_assoc (choice_values body b spans) (choice_values rest d (drop (letters_in (word_of body b)) spans))
    (recorded 0 ms r (drop (letters_in (word_of body b ++ word_of rest d)) spans)))

-- the record gives the values
pub choice-recorded : (ns : Nodes) (d : Choice ns) (spans : List Span) → choice_values ns d spans ≡ recorded 0 (moves ns) (record_of ns d) spans
choice-recorded ns d spans =
    sym (append-nil (choice_values ns d spans)) ∙ sym (recorded_choice ns d [] [] spans)
    ∙ ap (λ s. recorded 0 s (record_of ns d ++ []) spans) (append-nil (moves ns))
    ∙ ap (λ s. recorded 0 (moves ns) s spans) (append-nil (record_of ns d))

pub same-values : (ns : Nodes) (c d : Choice ns) (spans : List Span) → record_of ns c ≡ record_of ns d → choice_values ns c spans ≡ choice_values ns d spans
same-values ns c d spans e =
    choice-recorded ns c spans ∙ ap (λ r. recorded 0 (moves ns) r spans) e ∙ sym (choice-recorded ns d spans)

last_of_spans : (x y : Span) (rest : List Span) → Some y ≡ slice_get (x ∷ rest) (length rest) → last_end x rest ≡ y.end
last_of_spans x y [] e = let f : y ≡ x = cc in ap (λ (l : Span). l.end) (sym f)
last_of_spans x y (z ∷ rest) e = last_of_spans z y rest e

pub covered-ends : (letters : List Span) (a b : Span) → Some a ≡ slice_get letters 0 → Some b ≡ slice_get letters (length letters - 1) →
    Some (record { start = a.start; end = b.end }) ≡ covered letters
covered-ends [] a b e f = absurd cc
covered-ends (x ∷ rest) a b e f =
    let same : a ≡ x = cc in
    let n : suc (length rest) - 1 ≡ length rest = omega arith in
    let last : last_end x rest ≡ b.end = last_of_spans x b rest (f ∙ ap (λ k. slice_get (x ∷ rest) k) n) in
    rw (same, last) refl
