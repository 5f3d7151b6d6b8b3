-- What is known of the bytes of a text, and its tokens.
use Rattle.std.proofs.Common.{◌≡◌, ◌↔◌, ℕ, zero, suc, ◌+◌, ◌≤◌, Bool, true, false, not, ◌&&◌, ◌||◌, List, length, map, get_or, refl, ap, sym, ◌∙◌, inl, inr, ltb, arith, subst}
use Rattle.std.proofs.lemmas.Bool.{cases_lt, and_parts, and_from, or_cases, or_left, or_right}
use Rattle.std.proofs.lemmas.List.{get_or-map, get_or_past, length-map}
use Rattle.lic_kind.specs.declared.Kind.{Kind}
use Rattle.lic_kind.specs.declared.Kind.TheVariants as kind
use Rattle.lic_kind.specs.Kinds.{kind_of, is_word_kind, is_mark_kind}
use Rattle.lic_columns.specs.Cells.{AreCells, cells_of}
use Rattle.lic_letters.specs.Bytes.{is_word, is_mark}
use Rattle.lic_columns.specs.Masks.{flag_at, flag_before}
use Rattle.lic_columns.specs.Flags.{cleared, is_within}
use Rattle.lic_columns.specs.Known.{Known, IsText, known_of, blanked}
use Rattle.lic_columns.specs.Marks.{is_same_as_next, same_as_next, middles, is_in_separator, joined_marks, kept_in}
use Rattle.lic_columns.specs.Tokens.{kept_marks, text_cells}
use Rattle.lic_columns.proofs.FlagLemmas.{length-cleared, flag_at-cleared}
use Rattle.lic_columns.proofs.KnownLemmas.{HasLength-known_of}
use Rattle.lic_columns.proofs.MarkLemmas.{same_at, middle_at, kept_at, length-kept, joined_are_cells}

-- ---- words and marks are apart

pub apart_byte : (b : ℕ) → (is_word b && is_mark b) ≡ false
apart_byte b = go (kind_of b) (ltb b 128)
  where
    go : (k : Kind) (t : Bool) → ((not t || is_word_kind k) && (t && is_mark_kind k)) ≡ false
    go kind.Blank true = refl
    go kind.Dropped true = refl
    go kind.Mark true = refl
    go kind.Word true = refl
    go k false = refl

pub IsText-known_of : (bytes : List ℕ) → IsText (length bytes) (known_of bytes)
IsText-known_of bytes = record {
  whole = HasLength-known_of bytes;
  apart = λ k. elim (cases_lt k (length bytes)) [
    | inl inside ↦
        ap (λ t. t && flag_at (map is_mark bytes) k) (get_or-map is_word bytes k 0 false inside)
        ∙ ap (λ t. is_word (get_or bytes k 0) && t) (get_or-map is_mark bytes k 0 false inside) ∙ apart_byte (get_or bytes k 0)
    | inr past ↦ ap (λ t. t && flag_at (map is_mark bytes) k) (get_or_past (map is_word bytes) k false (omega (arith, length-map bytes is_word)))
  ];
}

still_apart : (t u v w : Bool) → (t && u) ≡ false → ((t && v) && (u && w)) ≡ false
still_apart true true v w e = absurd cc
still_apart true false true w e = refl
still_apart true false false w e = refl
still_apart false u v w e = refl

pub IsText-blanked : (from to n : ℕ) (known : Known) → IsText n known → IsText n (blanked from to known)
IsText-blanked from to n known is = record {
  whole = record {
    letters = is.whole.letters;
    word = length-cleared from to known.word ∙ is.whole.word;
    mark = length-cleared from to known.mark ∙ is.whole.mark;
    feed = is.whole.feed;
  };
  apart = λ k.
      ap (λ t. t && flag_at (cleared from to known.mark) k) (flag_at-cleared from to known.word k)
      ∙ ap (λ t. (flag_at known.word k && not (is_within from to k)) && t) (flag_at-cleared from to known.mark k)
      ∙ still_apart (flag_at known.word k) (flag_at known.mark k) (not (is_within from to k)) (not (is_within from to k)) (is.apart k);
}

-- ---- marks that are kept

kept_apart : (t u v : Bool) → (t && u) ≡ false → (t && (u && v)) ≡ false
kept_apart true true v e = absurd cc
kept_apart true false v e = refl
kept_apart false u v e = refl

module _ (n : ℕ) (known : Known) (is : IsText n known) (bytes : List ℕ) where
  pub kept_length : (separators : Bool) → length (kept_marks separators bytes known) ≡ length known.word
  kept_length separators = length-kept separators bytes known.mark ∙ is.whole.mark ∙ sym is.whole.word

  pub kept_are_apart : (separators : Bool) (k : ℕ) → (flag_at known.word k && flag_at (kept_marks separators bytes known) k) ≡ false
  kept_are_apart false k = is.apart k
  kept_are_apart true k =
      ap (λ t. flag_at known.word k && t) (kept_at (middles (same_as_next bytes known.mark)) known.mark k)
      ∙ kept_apart (flag_at known.word k) (flag_at known.mark k) (not (is_in_separator (middles (same_as_next bytes known.mark)) k)) (is.apart k)

-- ---- separators

module _ (bytes : List ℕ) (marks : List Bool) where
  middle_of : (k : ℕ) → flag_at (middles (same_as_next bytes marks)) (suc k) ≡ true
      → (is_same_as_next bytes marks k ≡ true) × (is_same_as_next bytes marks (suc k) ≡ true)
  middle_of k e =
      let parts = and_parts _ _ (sym (middle_at (same_as_next bytes marks) (suc k)) ∙ e) in
      (sym (same_at bytes marks k) ∙ parts.0, sym (same_at bytes marks (suc k)) ∙ parts.1)

  of_three : (k : ℕ) → is_same_as_next bytes marks k ≡ true → is_same_as_next bytes marks (suc k) ≡ true
      → flag_at (middles (same_as_next bytes marks)) (suc k) ≡ true
  of_three k one two = middle_at (same_as_next bytes marks) (suc k) ∙ and_from _ _ (same_at bytes marks k ∙ one) (same_at bytes marks (suc k) ∙ two)

  no_first : flag_at (middles (same_as_next bytes marks)) 0 ≡ true → ⊥
  no_first e = let f : false ≡ true = sym (middle_at (same_as_next bytes marks) 0) ∙ e in absurd cc

  three_from : (k : ℕ) → is_in_separator (middles (same_as_next bytes marks)) k ≡ true → (j : ℕ) × (j ≤ k) × (k ≤ j + 2)
      × (is_same_as_next bytes marks j ≡ true) × (is_same_as_next bytes marks (suc j) ≡ true)
  three_from zero e = elim (or_cases _ _ e) [
    | inl here ↦ absurd (no_first here)
    | inr beside ↦ elim (or_cases _ _ beside) [
      | inl before ↦ absurd (let f : false ≡ true = before in cc)
      | inr after ↦ let t = middle_of 0 after in (0, omega arith, omega arith, t.0, t.1)
    ]
  ]
  three_from (suc k) e = elim (or_cases _ _ e) [
    | inl here ↦ let t = middle_of k here in (k, omega arith, omega arith, t.0, t.1)
    | inr beside ↦ elim (or_cases _ _ beside) [
      | inl before ↦ before_is k before
      | inr after ↦ let t = middle_of (suc k) after in (suc k, omega arith, omega arith, t.0, t.1)
    ]
  ]
    where
      before_is : (k : ℕ) → flag_at (middles (same_as_next bytes marks)) k ≡ true → (j : ℕ) × (j ≤ suc k) × (suc k ≤ j + 2)
          × (is_same_as_next bytes marks j ≡ true) × (is_same_as_next bytes marks (suc j) ≡ true)
      before_is zero e = absurd (no_first e)
      before_is (suc k) e = let t = middle_of k e in (k, omega arith, omega arith, t.0, t.1)

  three_to : (k j : ℕ) → j ≤ k → k ≤ j + 2 → is_same_as_next bytes marks j ≡ true → is_same_as_next bytes marks (suc j) ≡ true
      → is_in_separator (middles (same_as_next bytes marks)) k ≡ true
  three_to k j low high one two = elim (cases_lt j k) [
    | inr first ↦
        let offset : suc j ≡ suc k = omega arith in
        or_right _ _ (or_right _ _ (ap (flag_at (middles (same_as_next bytes marks))) (sym offset) ∙ of_three j one two))
    | inl more ↦ elim (cases_lt (suc j) k) [
      | inr second ↦
          let offset : suc j ≡ k = omega arith in
          or_left _ _ (ap (flag_at (middles (same_as_next bytes marks))) (sym offset) ∙ of_three j one two)
      | inl last ↦
          let offset : suc (suc j) ≡ k = omega arith in
          or_right _ _ (or_left _ _ (ap (flag_before (middles (same_as_next bytes marks))) (sym offset) ∙ of_three j one two))
    ]
  ]

  pub in_separator : (k : ℕ) → (is_in_separator (middles (same_as_next bytes marks)) k ≡ true)
      ↔ ((j : ℕ) × (j ≤ k) × (k ≤ j + 2) × (is_same_as_next bytes marks j ≡ true) × (is_same_as_next bytes marks (suc j) ≡ true))
  in_separator k = (three_from k, λ t. three_to k t.0 t.1 t.2 t.3 t.4)

-- ---- the cells of a text

module _ (n : ℕ) (known : Known) (is : IsText n known) (separators : Bool) (bytes : List ℕ) (word mark : List Bool) (letters : List ℕ)
    (is_word : word ≡ known.word) (is_mark : mark ≡ known.mark) (is_letters : letters ≡ known.letters) where
  pub text_is : cells_of word (kept_in separators bytes mark) (joined_marks letters (kept_in separators bytes mark)) ≡ text_cells separators bytes known
  text_is =
      ap (λ w. cells_of w (kept_in separators bytes mark) (joined_marks letters (kept_in separators bytes mark))) is_word
      ∙ ap (λ m. cells_of known.word (kept_in separators bytes m) (joined_marks letters (kept_in separators bytes m))) is_mark
      ∙ ap (λ l. cells_of known.word (kept_marks separators bytes known) (joined_marks l (kept_marks separators bytes known))) is_letters

  pub text_has_cells : AreCells word (kept_in separators bytes mark) (joined_marks letters (kept_in separators bytes mark))
  text_has_cells =
      subst (λ w. AreCells w (kept_in separators bytes mark) (joined_marks letters (kept_in separators bytes mark))) (sym is_word)
      (subst (λ m. AreCells known.word (kept_in separators bytes m) (joined_marks letters (kept_in separators bytes m))) (sym is_mark)
      (joined_are_cells letters known.word (kept_marks separators bytes known) (kept_length n known is bytes separators) (kept_are_apart n known is bytes separators)))
