-- The last letters of the words of a pattern.
use Rattle.std.proofs.Common.{◌≡◌, ◌⊎◌, ℕ, suc, ◌+◌, ◌<◌, ◌≤◌, List, [], ◌∷◌, ◌++◌, length, map, take, drop, get_or, Option, None, Some, inl, inr, refl, sym, ap, arith, subst, ◌∙◌, append_assoc}
use Rattle.std.specs.Prelude.{Contains, IfSome}
use Rattle.std.proofs.Math.Seq.{drop-cons}
use Rattle.std.proofs.lemmas.Bool.{eqb-true}
use Rattle.std.proofs.lemmas.List.{drop_all, map-append, take-append-drop}
use Rattle.std.proofs.lemmas.List.Elements.{Contains-append_cases, Contains-push_cases}
use Rattle.lic_words.specs.Words.{Word, blank}
use Rattle.lic_words.specs.Expressions.{Language}
use Rattle.lic_ere.specs.declared.ere.Ere.{Ere}
use Rattle.lic_ere.specs.Trees.{Tree, char, sequence, tree_of}
use Rattle.lic_ere.specs.Meaning.{sequence_words, tree_words}
use Rattle.lic_reverse.specs.LetterGroups.{EndIn, hash_of, mixed}

-- the words of the patterns from one on are one sequence of letters
pub record AreLettersFrom (subs : List Ere) (number hash : ℕ) : Type 0 where
  pub within : number ≤ length subs
  pub dark : (w : Word) → Language (sequence_words (sequence (map tree_of (drop number subs)))) w → (c : ℕ) → Contains w c → ¬ (c ≡ blank)
  pub long : (w : Word) → Language (sequence_words (sequence (map tree_of (drop number subs)))) w → length w + number ≡ length subs
  pub is : (w : Word) → Language (sequence_words (sequence (map tree_of (drop number subs)))) w → hash_of w ≡ hash

pub letters-none : (subs : List Ere) (number : ℕ) → number ≡ length subs → AreLettersFrom subs number 0
letters-none subs number end = record {
  within = omega (arith, end);
  dark = λ w has c among. let none = empty w has in absurd (nil-none c (subst (λ x. Contains x c) none among));
  long = λ w has. let none = ap length (empty w has) in omega (arith, none, end);
  is = λ w has. ap hash_of (empty w has);
}
  where
    empty : (w : Word) → Language (sequence_words (sequence (map tree_of (drop number subs)))) w → w ≡ []
    empty w has = subst (λ xs. Language (sequence_words (sequence (map tree_of xs))) w) (drop_all number subs (omega (arith, end))) has

    nil-none : (c : ℕ) → Contains {X = ℕ} [] c → ⊥
    nil-none c (i, within, is) = omega (arith, within)

-- one letter more before them
pub letters-more : (subs : List Ere) (number next hash letter : ℕ) (e : Ere) → number ≡ next + 1 → AreLettersFrom subs number hash → e ≡ get_or subs next e →
    tree_of e ≡ char letter → ¬ (letter ≡ blank) → AreLettersFrom subs next (mixed hash letter)
letters-more subs number next hash letter e before are is letter-is dark = record {
  within = omega (arith, are.within, before);
  dark = λ w has c among. let split = parts w has in by_case split.0 split.2 c (subst (λ x. Contains x c) split.1 among);
  long = λ w has. let split = parts w has in let size = ap length split.1 in omega (arith, size, are.long split.0 split.2, before);
  is = λ w has. let split = parts w has in ap hash_of split.1 ∙ ap (λ h. mixed h letter) (are.is split.0 split.2);
}
  where
    below : next < length subs
    below = omega (arith, are.within, before)

    parted : drop next subs ≡ e ∷ drop number subs
    parted = let e-suc : suc next ≡ number = omega (arith, before) in
        drop-cons subs next e below ∙ ap (λ x. x ∷ drop (suc next) subs) (sym is) ∙ ap (λ k. e ∷ drop k subs) e-suc

    parts : (w : Word) → Language (sequence_words (sequence (map tree_of (drop next subs)))) w →
        (v : Word) × (w ≡ letter ∷ v) × Language (sequence_words (sequence (map tree_of (drop number subs)))) v
    parts w has =
        let cat = subst (λ xs. Language (sequence_words (sequence (map tree_of xs))) w) parted has in
        let one = subst (λ t. Language (tree_words t) cat.0) letter-is cat.2 in
        let same : one.0 ≡ letter = eqb-true one.0 letter one.1 in
        (cat.1, cat.4 ∙ ap (λ u. u ++ cat.1) (one.2 ∙ ap (λ d. d ∷ []) same), cat.3)

    by_case : (v : Word) → Language (sequence_words (sequence (map tree_of (drop number subs)))) v → (c : ℕ) → Contains (letter ∷ v) c → ¬ (c ≡ blank)
    by_case v has c among = elim (Contains-append_cases (letter ∷ []) v c among) [
      | inl first ↦ λ same. one-letter (Contains-push_cases [] letter c first) same
      | inr later ↦ are.dark v has c later
    ]
      where
        one-letter : Contains [] c ⊎ (letter ≡ c) → (c ≡ blank) → ⊥
        one-letter (inl none) same = absurd (omega (arith, none.1))
        one-letter (inr first) same = dark (first ∙ same)

-- a sequence ends with the words of its last patterns
sequence-suffix : (ts us : List Tree) (w : Word) → Language (sequence_words (sequence (ts ++ us))) w → (u v : Word) × (w ≡ u ++ v) × Language (sequence_words (sequence us)) v
sequence-suffix [] us w has = ([], w, refl, has)
sequence-suffix (t ∷ ts) us w has =
    let more = sequence-suffix ts us has.1 has.3 in
    (has.0 ++ more.0, more.1, has.4 ∙ ap (λ x. has.0 ++ x) more.2 ∙ sym (append_assoc has.0 more.0 more.1), more.3)

-- so the words end with these letters
pub letters-end : (subs : List Ere) (number hash : ℕ) → AreLettersFrom subs number hash → number < length subs → length subs ≤ number + 8 →
    EndIn (Language (sequence_words (sequence (map tree_of subs)))) hash
letters-end subs number hash are some few = λ w has.
    let whole : map tree_of subs ≡ map tree_of (take number subs) ++ map tree_of (drop number subs) =
    ap (map tree_of) (sym (take-append-drop number subs)) ∙ map-append tree_of (take number subs) (drop number subs) in
    let split = sequence-suffix (map tree_of (take number subs)) (map tree_of (drop number subs)) w (subst (λ ts. Language (sequence_words (sequence ts)) w) whole has) in
    let size = are.long split.1 split.3 in (
      split.0,
      split.1,
      split.2,
      record { dark = are.dark split.1 split.3; some = omega (arith, size, some); few = omega (arith, size, few) },
      are.is split.1 split.3,
    )

-- one letter alone
pub letter-end : (t : Tree) (letter : ℕ) → t ≡ char letter → ¬ (letter ≡ blank) → EndIn (Language (tree_words t)) (mixed 0 letter)
letter-end t letter is dark = subst (λ x. EndIn (Language (tree_words x)) (mixed 0 letter)) (sym is) (λ w has.
    let same : has.0 ≡ letter = eqb-true has.0 letter has.1 in
    let word : w ≡ letter ∷ [] = has.2 ∙ ap (λ d. d ∷ []) same in (
      [],
      letter ∷ [],
      word,
      record { dark = λ c among at. one c (Contains-push_cases [] letter c among) at; some = omega arith; few = omega arith },
      refl,
    ))
  where
    one : (c : ℕ) → Contains [] c ⊎ (letter ≡ c) → (c ≡ blank) → ⊥
    one c (inl none) at = absurd (omega (arith, none.1))
    one c (inr same) at = dark (same ∙ at)

-- what is known of a value that there is
pub some-changed : {A : Type 0} (P Q : A → Type 0) (o : Option A) → ((a : A) → P a → Q a) → IfSome o P → IfSome o Q
some-changed P Q None change is = tt
some-changed P Q (Some a) change is = change a is
