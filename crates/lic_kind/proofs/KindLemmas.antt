-- The tables have no character in common, so each alone decides its kind.
use Rattle.std.proofs.Common.{◌≡◌, ℕ, zero, suc, ◌+◌, ◌-◌, ◌<◌, ◌≤◌, Bool, true, false, not, ◌&&◌, ◌||◌, if◌then◌else◌, List, [], ◌∷◌, inl, inr, refl, sym, ap, ◌∙◌, arith}
use Rattle.std.proofs.lemmas.Bool.{true≢false, and_parts, or_cases, not-true, cases_eq, eqb-true, leb-true, cases_Bool}
use Rattle.std.specs.Char.{is_whitespace, is_ascii_alphanumeric}
use Rattle.lic_kind.specs.declared.Kind.{Kind}
use Rattle.lic_kind.specs.declared.Kind.TheVariants.{Blank, Dropped, Mark, Word}
use Rattle.lic_kind.specs.Kinds.{Entry, one, range, is_entry, is_listed, dropped, ascii_punctuation, dashes, quotes, bullets, box_drawing, other_marks, is_dropped, is_dash, is_quote, is_bullet, is_box_drawing, is_other_mark, is_mark, kind_of, is_word_kind, is_mark_kind}

-- ---- a test that fails on a whole table

-- p fails at n characters from the first on
abbrev pub fails_from : (ℕ → Bool) → ℕ → ℕ → Bool
fails_from p first zero = true
fails_from p first (suc n) = not (p first) && fails_from p (suc first) n

abbrev pub fails_at : (ℕ → Bool) → Entry → Bool
fails_at p (one d) = not (p d)
fails_at p (range first last) = fails_from p first (suc last - first)

abbrev pub fails_on : (ℕ → Bool) → List Entry → Bool
fails_on p [] = true
fails_on p (entry ∷ table) = fails_at p entry && fails_on p table

fails_from-within : (p : ℕ → Bool) (first n c : ℕ) → fails_from p first n ≡ true → first ≤ c → c < first + n → p c ≡ false
fails_from-within p first zero c fails low high = absurd (omega arith)
fails_from-within p first (suc n) c fails low high =
    let parts = and_parts (not (p first)) (fails_from p (suc first) n) fails in
    elim (cases_eq first c) [
      | inl same ↦ ap p (sym same) ∙ not-true (p first) parts.0
      | inr other ↦ fails_from-within p (suc first) n c parts.1 (omega arith) (omega arith)
    ]

fails_at-entry : (p : ℕ → Bool) (entry : Entry) (c : ℕ) → fails_at p entry ≡ true → is_entry entry c ≡ true → p c ≡ false
fails_at-entry p (one d) c fails is = ap p (eqb-true c d is) ∙ not-true (p d) fails
fails_at-entry p (range first last) c fails is =
    let parts = and_parts _ _ is in
    let low : first ≤ c = leb-true first c parts.0 in
    let high : c ≤ last = leb-true c last parts.1 in
    fails_from-within p first (suc last - first) c fails low (omega arith)

pub fails_on-listed : (p : ℕ → Bool) (table : List Entry) (c : ℕ) → fails_on p table ≡ true → is_listed table c ≡ true → p c ≡ false
fails_on-listed p [] c fails is = cc
fails_on-listed p (entry ∷ table) c fails is =
    let parts = and_parts (fails_at p entry) (fails_on p table) fails in
    elim (or_cases (is_entry entry c) (is_listed table c) is) [
      | inl here ↦ fails_at-entry p entry c parts.0 here
      | inr there ↦ fails_on-listed p table c parts.1 there
    ]

-- ---- no character is in two tables

dropped_is_not_white : (c : ℕ) → is_dropped c ≡ true → is_whitespace c ≡ false
dropped_is_not_white c = fails_on-listed is_whitespace dropped c refl

module _ (p : ℕ → Bool) (ascii : fails_on p ascii_punctuation ≡ true) (dash : fails_on p dashes ≡ true) (quote : fails_on p quotes ≡ true)
    (bullet : fails_on p bullets ≡ true) (box : fails_on p box_drawing ≡ true) (other : fails_on p other_marks ≡ true) where
  pub fails_on-marks : (c : ℕ) → is_mark c ≡ true → p c ≡ false
  unfolding is_dash is_quote is_bullet is_box_drawing is_other_mark
  fails_on-marks c is =
      elim (or_cases _ _ is) [
        | inr h ↦ fails_on-listed p other_marks c other h
        | inl is ↦
            elim (or_cases _ _ is) [
              | inr h ↦ fails_on-listed p box_drawing c box h
              | inl is ↦
                  elim (or_cases _ _ is) [
                    | inr h ↦ fails_on-listed p bullets c bullet h
                    | inl is ↦
                        elim (or_cases _ _ is) [
                          | inr h ↦ fails_on-listed p quotes c quote h
                          | inl is ↦
                              elim (or_cases _ _ is) [ inr h ↦ fails_on-listed p dashes c dash h | inl h ↦ fails_on-listed p ascii_punctuation c ascii h ]
                        ]
                  ]
            ]
      ]

mark_is_not_white : (c : ℕ) → is_mark c ≡ true → is_whitespace c ≡ false
mark_is_not_white = fails_on-marks is_whitespace refl refl refl refl refl refl

mark_is_not_dropped : (c : ℕ) → is_mark c ≡ true → is_dropped c ≡ false
mark_is_not_dropped = fails_on-marks is_dropped refl refl refl refl refl refl

-- ---- each table alone decides its kind

-- the kind that the three tests choose
abbrev choice : Bool → Bool → Bool → Kind
choice drops white mark = if drops then Dropped else (if white then Blank else (if mark then Mark else Word))

kind_of-choice : (c : ℕ) → kind_of c ≡ choice (is_dropped c) (is_whitespace c) (is_mark c)
unfolding kind_of
kind_of-choice c = refl

choice-white : (drops white mark : Bool) → drops ≡ false → white ≡ true → choice drops white mark ≡ Blank
choice-white false true mark d w = refl
choice-white true white mark d w = cc
choice-white false false mark d w = cc

choice-mark : (drops white mark : Bool) → drops ≡ false → white ≡ false → mark ≡ true → choice drops white mark ≡ Mark
choice-mark false false true d w m = refl
choice-mark true white mark d w m = cc
choice-mark false true mark d w m = cc
choice-mark false false false d w m = cc

choice-Dropped : (drops white mark : Bool) → choice drops white mark ≡ Dropped → drops ≡ true
choice-Dropped true white mark e = refl
choice-Dropped false true mark e = cc
choice-Dropped false false true e = cc
choice-Dropped false false false e = cc

choice-Blank : (drops white mark : Bool) → choice drops white mark ≡ Blank → white ≡ true
choice-Blank true white mark e = cc
choice-Blank false true mark e = refl
choice-Blank false false true e = cc
choice-Blank false false false e = cc

choice-Mark : (drops white mark : Bool) → choice drops white mark ≡ Mark → mark ≡ true
choice-Mark true white mark e = cc
choice-Mark false true mark e = cc
choice-Mark false false true e = refl
choice-Mark false false false e = cc

choice-Word : (drops white mark : Bool) → choice drops white mark ≡ Word → white ≡ false
choice-Word true white mark e = cc
choice-Word false true mark e = cc
choice-Word false false mark e = refl

white_is_not_dropped : (c : ℕ) → is_whitespace c ≡ true → is_dropped c ≡ false
white_is_not_dropped c white =
    elim (cases_Bool (is_dropped c)) [ inl drops ↦ absurd (true≢false (sym white ∙ dropped_is_not_white c drops)) | inr stays ↦ stays ]

pub kind_of-dropped : (c : ℕ) → is_dropped c ≡ true → kind_of c ≡ Dropped
kind_of-dropped c drops = kind_of-choice c ∙ ap (λ b. choice b (is_whitespace c) (is_mark c)) drops

pub kind_of-white : (c : ℕ) → is_whitespace c ≡ true → kind_of c ≡ Blank
kind_of-white c white = kind_of-choice c ∙ choice-white (is_dropped c) (is_whitespace c) (is_mark c) (white_is_not_dropped c white) white

pub kind_of-mark : (c : ℕ) → is_mark c ≡ true → kind_of c ≡ Mark
kind_of-mark c mark =
    kind_of-choice c ∙ choice-mark (is_dropped c) (is_whitespace c) (is_mark c) (mark_is_not_dropped c mark) (mark_is_not_white c mark) mark

choice-none : (drops white mark : Bool) → drops ≡ false → white ≡ false → mark ≡ false → choice drops white mark ≡ Word
choice-none false false false d w m = refl
choice-none true white mark d w m = cc
choice-none false true mark d w m = cc
choice-none false false true d w m = cc

-- of no table, so a word character
pub kind_of-none : (c : ℕ) → is_dropped c ≡ false → is_whitespace c ≡ false → is_mark c ≡ false → kind_of c ≡ Word
kind_of-none c stays dark other = kind_of-choice c ∙ choice-none (is_dropped c) (is_whitespace c) (is_mark c) stays dark other

pub is_dropped-Dropped : (c : ℕ) → kind_of c ≡ Dropped → is_dropped c ≡ true
is_dropped-Dropped c is = choice-Dropped (is_dropped c) (is_whitespace c) (is_mark c) (sym (kind_of-choice c) ∙ is)

pub is_whitespace-Blank : (c : ℕ) → kind_of c ≡ Blank → is_whitespace c ≡ true
is_whitespace-Blank c is = choice-Blank (is_dropped c) (is_whitespace c) (is_mark c) (sym (kind_of-choice c) ∙ is)

pub is_mark-Mark : (c : ℕ) → kind_of c ≡ Mark → is_mark c ≡ true
is_mark-Mark c is = choice-Mark (is_dropped c) (is_whitespace c) (is_mark c) (sym (kind_of-choice c) ∙ is)

pub is_whitespace-Word : (c : ℕ) → kind_of c ≡ Word → is_whitespace c ≡ false
is_whitespace-Word c is = choice-Word (is_dropped c) (is_whitespace c) (is_mark c) (sym (kind_of-choice c) ∙ is)

or_left : (a b : Bool) → a ≡ true → (a || b) ≡ true
or_left true b h = refl
or_left false b h = cc

or_right : (a b : Bool) → b ≡ true → (a || b) ≡ true
or_right true b h = refl
or_right false b h = h

pub kind_of-dash : (c : ℕ) → is_dash c ≡ true → kind_of c ≡ Mark
kind_of-dash c dash = kind_of-mark c (or_left _ _ (or_left _ _ (or_left _ _ (or_left _ _ (or_right _ _ dash)))))

pub kind_of-quote : (c : ℕ) → is_quote c ≡ true → kind_of c ≡ Mark
kind_of-quote c quote = kind_of-mark c (or_left _ _ (or_left _ _ (or_left _ _ (or_right _ _ quote))))

pub kind_of-bullet : (c : ℕ) → is_bullet c ≡ true → kind_of c ≡ Mark
kind_of-bullet c bullet = kind_of-mark c (or_left _ _ (or_left _ _ (or_right _ _ bullet)))

-- the three families of marks that a rule names have no character in common
pub is_dash-quote : (c : ℕ) → is_quote c ≡ true → is_dash c ≡ false
unfolding is_dash is_quote
is_dash-quote c = fails_on-listed is_dash quotes c refl

pub is_dash-bullet : (c : ℕ) → is_bullet c ≡ true → is_dash c ≡ false
unfolding is_dash is_bullet
is_dash-bullet c = fails_on-listed is_dash bullets c refl

pub is_quote-bullet : (c : ℕ) → is_bullet c ≡ true → is_quote c ≡ false
unfolding is_quote is_bullet
is_quote-bullet c = fails_on-listed is_quote bullets c refl

-- ---- kinds as tests

pub is_word_kind-true : (kind : Kind) → is_word_kind kind ≡ true → kind ≡ Word
is_word_kind-true Blank e = cc
is_word_kind-true Dropped e = cc
is_word_kind-true Mark e = cc
is_word_kind-true Word e = refl

-- ---- ASCII

pub is_mark_kind-true : (kind : Kind) → is_mark_kind kind ≡ true → kind ≡ Mark
is_mark_kind-true Blank e = cc
is_mark_kind-true Dropped e = cc
is_mark_kind-true Mark e = refl
is_mark_kind-true Word e = cc

-- a test that passes at each of n characters from the first on
pub each_below : (n : ℕ) (p : ℕ → Bool) (c : ℕ) → fails_from (λ d. not (p d)) 0 n ≡ true → c < n → p c ≡ true
each_below n p c each below = passes (p c) (fails_from-within (λ d. not (p d)) 0 n c each (omega arith) (omega arith))
  where
    passes : (b : Bool) → not b ≡ false → b ≡ true
    passes true e = refl
    passes false e = cc

implied : (a b : Bool) → (not a || b) ≡ true → a ≡ true → b ≡ true
implied true b e h = e
implied false b e h = cc

pub kind_of-alphanumeric : (c : ℕ) → c < 128 → is_ascii_alphanumeric c ≡ true → kind_of c ≡ Word
unfolding kind_of
kind_of-alphanumeric c ascii is =
    is_word_kind-true (kind_of c)
    (implied (is_ascii_alphanumeric c) _
    (each_below 128 (λ d. not (is_ascii_alphanumeric d) || is_word_kind (kind_of d)) c refl ascii) is)
