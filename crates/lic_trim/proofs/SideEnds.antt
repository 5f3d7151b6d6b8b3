-- Which kind of piece ends at an index of the way.
use Rattle.std.proofs.Common.{◌≡◌, ℕ, ◌+◌, ◌-◌, ◌<◌, ◌≤◌, Bool, true, false, ◌&&◌, ◌||◌, ◌==◌, List, [], ◌∷◌, ◌++◌, length, map, get_or, take, drop, reverse, ◌⊎◌, inl, inr, refl, sym, ap, ap₂, ◌∙◌, subst, ⊎_elim, arith}
use Rattle.std.specs.Prelude.{replicate, slice_range, slice_index, slice_index_or, bytes_eq}
use Rattle.std.specs.List.{list_any}
use Rattle.std.specs.Char.{is_whitespace}
use Rattle.std.proofs.lemmas.Bool.{false≢true, and_parts, and_from, or_cases, or_left, or_right, cases_lt, eqb-true, eq-eqb}
use Rattle.std.proofs.lemmas.List.{reverse-append, reverse-reverse, length-reverse, get_or-reverse, get_or_append_left, append-nil, drop_all, take_all}
use Rattle.std.proofs.lemmas.Slice.Eq.{bytes_eq-Decides}
use Rattle.lic_trim.specs.Texts.{ends_in}
use Rattle.lic_kind.specs.LineRules.{LineRules}
use Rattle.lic_trim.specs.Lines.{is_space, is_separator, is_one_of, is_after_space, repeats}
use Rattle.lic_trim.specs.Walks.{Side, Front, End, walked, is_walked_piece, side_texts, side_spaced, side_repeated, ends_piece, spaced_text_ends, repeat_ends}
use Rattle.lic_trim.proofs.TextLemmas.{same_truth, bytes_eq-reverses}
use Rattle.lic_trim.proofs.PieceEnds.{ends-true, ends-from, ends_piece-or, ends_piece-none, slice_snoc, length_part, separator_parts, separator_from}
use Rattle.lic_trim.proofs.KindEnds.{space_parts}

or_none : (b : Bool) → b ≡ (b || false)
or_none true = refl
or_none false = refl

-- ---- texts in reverse

-- a test that a text passes where its reverse does
same_reversed : (test : List ℕ → Bool) → ((text : List ℕ) → test text ≡ true → test (reverse text) ≡ true) → (text : List ℕ) → test (reverse text) ≡ test text
same_reversed test keeps text = same_truth _ _ (λ h. subst (λ l. test l ≡ true) (reverse-reverse text) (keeps (reverse text) h)) (keeps text)

is_space-reverse : (text : List ℕ) → is_space (reverse text) ≡ is_space text
is_space-reverse = same_reversed is_space (λ text h. let parts = space_parts text h in subst (λ l. is_space (reverse l) ≡ true) (sym parts.1) parts.2)

is_separator-reverse : (text : List ℕ) → is_separator (reverse text) ≡ is_separator text
is_separator-reverse = same_reversed is_separator (λ text h.
    let parts = separator_parts text h in
    let long = length-reverse text in
    separator_from (reverse text) parts.1 parts.2
    (omega (arith, parts.0)) (λ i lt. get_or-reverse text i 0 (omega arith)
    ∙ parts.3 (length text - 1 - i) (omega arith)))

-- ---- one of several texts
ends_in-any : (last : ℕ → Bool) (test : List ℕ → List ℕ → Bool) (ts : List (List ℕ)) (text : List ℕ)
    → ends_in last (λ front. list_any (λ t. test t front) ts) text ≡ list_any (λ t. ends_in last (test t) text) ts
ends_in-any last test ts text = at ts (reverse text)
  where
    -- whether the first element passes, and what is after it
    begins : (List ℕ → Bool) → List ℕ → Bool
    begins q backwards = elim backwards as (λ _. Bool) [ [] ↦ false | c ∷ rest ↦ last c && q (reverse rest) ]

    none : (backwards : List ℕ) → elim backwards as (λ _. Bool) [ [] ↦ false | c ∷ rest ↦ last c && false ] ≡ false
    none [] = refl
    none (c ∷ rest) = never (last c)
      where
        never : (a : Bool) → (a && false) ≡ false
        never true = refl
        never false = refl

    both : (a x y : Bool) → (a && (x || y)) ≡ ((a && x) || (a && y))
    both true x y = refl
    both false x y = refl

    more : (p q : List ℕ → Bool) (backwards : List ℕ)
        → elim backwards as (λ _. Bool) [ [] ↦ false | c ∷ rest ↦ last c && (p (reverse rest) || q (reverse rest)) ]
        ≡ (elim backwards as (λ _. Bool) [ [] ↦ false | c ∷ rest ↦ last c && p (reverse rest) ]
        || elim backwards as (λ _. Bool) [ [] ↦ false | c ∷ rest ↦ last c && q (reverse rest) ])
    more p q [] = refl
    more p q (c ∷ rest) = both (last c) (p (reverse rest)) (q (reverse rest))

    at : (ts : List (List ℕ)) (backwards : List ℕ)
        → elim backwards as (λ _. Bool) [ [] ↦ false | c ∷ rest ↦ last c && list_any (λ t. test t (reverse rest)) ts ]
        ≡ list_any (λ t. elim backwards as (λ _. Bool) [ [] ↦ false | c ∷ rest ↦ last c && test t (reverse rest) ]) ts
    at [] backwards = none backwards
    at (t ∷ ts) backwards = more (test t) (λ front. list_any (λ u. test u front) ts) backwards
        ∙ ap (λ b. (elim backwards as (λ _. Bool) [ [] ↦ false | c ∷ rest ↦ last c && test t (reverse rest) ]) || b)
        (at ts backwards)

list_any-same : {A : Type 0} (p q : A → Bool) → ((x : A) → p x ≡ q x) → (xs : List A) → list_any p xs ≡ list_any q xs
list_any-same p q same [] = refl
list_any-same p q same (x ∷ xs) = ap₂ (λ a b. a || b) (same x) (list_any-same p q same xs)

pub list_any-map : {A B : Type 0} (f : A → B) (test : B → Bool) (xs : List A) → list_any test (map f xs) ≡ list_any (λ x. test (f x)) xs
list_any-map f test [] = refl
list_any-map f test (x ∷ xs) = ap (λ b. test (f x) || b) (list_any-map f test xs)

-- a white space character and a text, met from the end
is_after_space-reverse : (ts : List (List ℕ)) (text : List ℕ)
    → is_after_space ts (reverse text) ≡ list_any (λ t. ends_in is_whitespace (bytes_eq (reverse t)) text) ts
is_after_space-reverse ts text =
    at (reverse text) ∙ ends_in-any is_whitespace (λ t front. bytes_eq (reverse t) front) ts text
  where
    at : (backwards : List ℕ) → is_after_space ts backwards
        ≡ elim backwards as (λ _. Bool) [
          | [] ↦ false
          | c ∷ rest ↦ is_whitespace c
              && list_any (λ t. bytes_eq (reverse t) (reverse rest)) ts
        ]
    at [] = refl
    at (c ∷ rest) = ap (λ b. is_whitespace c && b)
        (list_any-same (λ t. bytes_eq t rest) (λ t. bytes_eq (reverse t) (reverse rest)) (λ t.
        bytes_eq-reverses t rest) ts)

bytes_eq-reverse : (t text : List ℕ) → bytes_eq t (reverse text) ≡ bytes_eq (reverse t) text
bytes_eq-reverse t text = bytes_eq-reverses t (reverse text) ∙ ap (bytes_eq (reverse t)) (reverse-reverse text)

-- ---- a piece of either side, kind by kind
abbrev pub any_piece : Bool → Side → List (List ℕ) → List (List ℕ) → List (List ℕ) → List ℕ → Bool
any_piece separators side texts spaced repeated text =
    ((is_space text || (separators && is_separator text)) || list_any (λ t. bytes_eq (walked side t) text) texts)
    || (list_any (λ t. ends_in is_whitespace (bytes_eq (walked side t)) text) spaced || list_any (λ t. repeats t (reverse text)) repeated)

five : (a b c d e : Bool) → (a || b || c || d || e) ≡ (((a || b) || c) || (d || e))
five true b c d e = refl
five false true c d e = refl
five false false true d e = refl
five false false false true e = refl
five false false false false true = refl
five false false false false false = refl

four : (a b c d : Bool) → (a || b || c || d) ≡ (((a || b) || c) || (d || false))
four true b c d = refl
four false true c d = refl
four false false true d = refl
four false false false true = refl
four false false false false = refl

pub walked_piece : (rules : LineRules) (side : Side) (text : List ℕ)
    → is_walked_piece rules side text
    ≡ any_piece rules.separators side (side_texts rules side) (side_spaced rules side) (side_repeated rules side) text
walked_piece rules Front text =
    four (is_space text) (rules.separators && is_separator text) (is_one_of rules.lead text) (ends_in is_whitespace (is_one_of rules.lead_space) text)
    ∙ ap (λ d. ((is_space text || (rules.separators && is_separator text)) || is_one_of rules.lead text)
    || (d || false)) (ends_in-any is_whitespace (λ t front. bytes_eq t front) rules.lead_space text)
walked_piece rules End text =
    five (is_space (reverse text)) (rules.separators && is_separator (reverse text))
    (is_one_of rules.tail (reverse text)) (is_after_space rules.tail_space (reverse text))
    (list_any (λ t. repeats t (reverse text)) rules.tail_repeat)
    ∙ (λ i. ((is_space-reverse text i || (rules.separators && is_separator-reverse text i))
    || list_any-same (λ t. bytes_eq t (reverse text)) (λ t. bytes_eq (reverse t) text) (λ t. bytes_eq-reverse t text) rules.tail i)
    || (is_after_space-reverse rules.tail_space text i || list_any (λ t. repeats t (reverse text)) rules.tail_repeat))

module _ (flags : List Bool) (line : List ℕ) (end : ℕ) where
  -- two kinds with the same pieces
  ends_piece-same : (p q : List ℕ → Bool) → ((text : List ℕ) → p text ≡ q text) → ends_piece p flags line end ≡ ends_piece q flags line end
  ends_piece-same p q same = same_truth _ _
      (λ h. let e = ends-true flags line end p h in
      ends-from flags line end q
      (record { from = e.from; below = e.below; flagged = e.flagged; piece = sym (same _) ∙ e.piece }))
      (λ h. let e = ends-true flags line end q h in
      ends-from flags line end p
      (record { from = e.from; below = e.below; flagged = e.flagged; piece = same _ ∙ e.piece }))

  ends_piece-any : (test : List ℕ → List ℕ → Bool) (ts : List (List ℕ))
      → ends_piece (λ x. list_any (λ t. test t x) ts) flags line end
      ≡ list_any (λ t. ends_piece (test t) flags line end) ts
  ends_piece-any test [] = ends_piece-none flags line end
  ends_piece-any test (t ∷ ts) =
      ends_piece-or flags line end (test t) (λ x. list_any (λ u. test u x) ts)
      ∙ ap (λ b. ends_piece (test t) flags line end || b) (ends_piece-any test ts)

  where_on : (b : Bool) (q : List ℕ → Bool) → ends_piece (λ x. b && q x) flags line end ≡ (b && ends_piece q flags line end)
  where_on true q = refl
  where_on false q = ends_piece-none flags line end

  -- whether a piece ends here is decided kind by kind
  pub side_ends : (rules : LineRules) (side : Side) → ends_piece (is_walked_piece rules side) flags line end
      ≡ (((ends_piece is_space flags line end || (rules.separators && ends_piece is_separator flags line end))
      || list_any (λ t. ends_piece (bytes_eq (walked side t)) flags line end) (side_texts rules side))
      || (list_any (λ t. spaced_text_ends flags line end (walked side t)) (side_spaced rules side)
      || list_any (repeat_ends flags line end) (side_repeated rules side)))
  unfolding spaced_text_ends repeat_ends
  side_ends rules side =
      let texts = λ (x : List ℕ). list_any (λ t. bytes_eq (walked side t) x) (side_texts rules side) in
      let spaced = λ (x : List ℕ). list_any (λ t. ends_in is_whitespace (bytes_eq (walked side t)) x) (side_spaced rules side) in
      let repeated = λ (x : List ℕ). list_any (λ t. repeats t (reverse x)) (side_repeated rules side) in
      let marks = λ (x : List ℕ). rules.separators && is_separator x in
      ends_piece-same (is_walked_piece rules side)
      (any_piece rules.separators side (side_texts rules side) (side_spaced rules side) (side_repeated rules side))
      (walked_piece rules side)
      ∙ ends_piece-or flags line end (λ x. (is_space x || marks x) || texts x) (λ x. spaced x || repeated x)
      ∙ ap₂ (λ a b. a || b)
      (ends_piece-or flags line end (λ x. is_space x || marks x) texts
      ∙ ap₂ (λ a b. a || b)
      (ends_piece-or flags line end is_space marks ∙ ap (λ b. ends_piece is_space flags line end || b) (where_on rules.separators is_separator))
      (ends_piece-any (λ t x. bytes_eq (walked side t) x) (side_texts rules side)))
      (ends_piece-or flags line end spaced repeated
      ∙ ap₂ (λ a b. a || b)
      (ends_piece-any (λ t x. ends_in is_whitespace (bytes_eq (walked side t)) x) (side_spaced rules side))
      (ends_piece-any (λ t x. repeats t (reverse x)) (side_repeated rules side)))

  -- one more flag at or after this index changes nothing
  pub ends_piece-push : (p : List ℕ → Bool) (b : Bool) → end ≤ length flags → ends_piece p (flags ++ b ∷ []) line end ≡ ends_piece p flags line end
  ends_piece-push p b within = same_truth _ _
      (λ h.
      let e = ends-true (flags ++ b ∷ []) line end p h in
      let below : e.from < end = e.below in
      ends-from flags line end p (record {
        from = e.from;
        below = e.below;
        flagged =
            sym (get_or_append_left flags (b ∷ []) false e.from (omega arith)) ∙ e.flagged;
        piece = e.piece;
      }))
      (λ h.
      let e = ends-true flags line end p h in
      let below : e.from < end = e.below in
      ends-from (flags ++ b ∷ []) line end p
      (record {
        from = e.from;
        below = e.below;
        flagged =
            get_or_append_left flags (b ∷ []) false e.from (omega arith) ∙ e.flagged;
        piece = e.piece;
      }))

-- ---- texts that repeat

pub repeat_ends-push : (flags : List Bool) (line : List ℕ) (end : ℕ) (b : Bool) → end ≤ length flags → (t : List ℕ)
    → repeat_ends (flags ++ b ∷ []) line end t ≡ repeat_ends flags line end t
unfolding repeat_ends
repeat_ends-push flags line end b within t = ends_piece-push flags line end (λ part. repeats t (reverse part)) b within

pub repeat_ends-none : (flags : List Bool) (line : List ℕ) (end : ℕ) → repeat_ends flags line end [] ≡ false
unfolding repeat_ends
repeat_ends-none flags line end = ends_piece-none flags line end

pub repeat_ends-start : (flags : List Bool) (line : List ℕ) (t : List ℕ) → repeat_ends flags line 0 t ≡ false
unfolding repeat_ends
repeat_ends-start flags line t = refl

module _ (flags : List Bool) (line : List ℕ) (k c : ℕ) (rest : List ℕ) (within : k < length line) where
  -- the rest of the text ends here, after a sequence
  pub record RestEnds : Type 0 where
    pub fits : length rest ≤ k
    pub flagged : slice_index_or flags (k - length rest) false ≡ true
    pub text : rest ≡ reverse (slice_range line (k - length rest) k)

  pub part_more : (j : ℕ) → j ≤ k → reverse (slice_range line j (k + 1)) ≡ slice_index line k ∷ reverse (slice_range line j k)
  part_more j h = ap reverse (slice_snoc line j k h within) ∙ reverse-append (slice_range line j k) (slice_index line k ∷ [])

  pub repeats_more : (j : ℕ) → j ≤ k
      → repeats (c ∷ rest) (reverse (slice_range line j (k + 1)))
      ≡ ((slice_index line k == c)
      && (bytes_eq rest (reverse (slice_range line j k)) || repeats (c ∷ rest) (reverse (slice_range line j k))))
  repeats_more j h = ap (repeats (c ∷ rest)) (part_more j h)

  empty_part : slice_range line k k ≡ []
  empty_part = let none : k - k ≡ 0 = omega arith in ap (λ n. take n (drop k line)) none

  pub repeat_more : repeat_ends flags line (k + 1) (c ∷ rest) ≡ true → (slice_index line k ≡ c) × (RestEnds ⊎ (repeat_ends flags line k (c ∷ rest) ≡ true))
  unfolding repeat_ends
  repeat_more h =
      let test = λ (part : List ℕ). repeats (c ∷ rest) (reverse part) in
      let e = ends-true flags line (k + 1) test h in
      let below : e.from < k + 1 = e.below in
      let piece = and_parts (slice_index line k == c) _ (sym (repeats_more e.from (omega arith)) ∙ e.piece) in
      let part = reverse (slice_range line e.from k) in (
        eqb-true (slice_index line k) c piece.0,
        ⊎_elim
            (λ here.
            let text : rest ≡ part = (bytes_eq-Decides rest part).0 here in
            let long : length rest ≡ k - e.from = ap length text ∙ length-reverse (slice_range line e.from k) ∙ length_part flags line k e.from (omega arith) in
            let index : e.from ≡ k - length rest = omega arith in
            inl (record {
              fits = omega arith;
              flagged = subst (λ i. slice_index_or flags i false ≡ true) index e.flagged;
              text = text ∙ ap (λ i. reverse (slice_range line i k)) index;
            }))
            (λ before.
            ⊎_elim
            (λ lower. inr (ends-from flags line k test (record { from = e.from; below = lower; flagged = e.flagged; piece = before })))
            (λ high.
            let same : e.from ≡ k = omega arith in
            absurd (false≢true (sym (ap (λ l. repeats (c ∷ rest) (reverse l)) empty_part)
            ∙ subst (λ j. repeats (c ∷ rest) (reverse (slice_range line j k)) ≡ true) same before)))
            (cases_lt e.from k))
            (or_cases (bytes_eq rest part) (repeats (c ∷ rest) part) piece.1),
      )

  pub repeat_from_rest : slice_index line k ≡ c → RestEnds → repeat_ends flags line (k + 1) (c ∷ rest) ≡ true
  unfolding repeat_ends
  repeat_from_rest same occurs =
      let j = k - length rest in
      let fits : length rest ≤ k = occurs.fits in
      ends-from flags line (k + 1) (λ part. repeats (c ∷ rest) (reverse part)) (record {
        from = j;
        below = omega arith;
        flagged = occurs.flagged;
        piece = repeats_more j (omega arith)
            ∙ and_from _ _ (eq-eqb (slice_index line k) c same)
            (or_left (bytes_eq rest (reverse (slice_range line j k))) _ ((bytes_eq-Decides rest _).1 occurs.text));
      })

  pub repeat_from_repeat : slice_index line k ≡ c → repeat_ends flags line k (c ∷ rest) ≡ true → repeat_ends flags line (k + 1) (c ∷ rest) ≡ true
  unfolding repeat_ends
  repeat_from_repeat same before =
      let test = λ (part : List ℕ). repeats (c ∷ rest) (reverse part) in
      let e = ends-true flags line k test before in
      let below : e.from < k = e.below in
      ends-from flags line (k + 1) test (record {
        from = e.from;
        below = omega arith;
        flagged = e.flagged;
        piece = repeats_more e.from (omega arith)
            ∙ and_from _ _ (eq-eqb (slice_index line k) c same)
            (or_right (bytes_eq rest (reverse (slice_range line e.from k))) _ e.piece);
      })

-- ---- the same, for a text that is not taken apart
split_first : (t : List ℕ) (c : ℕ) → false ≡ (length t == 0) → c ≡ get_or t 0 c → t ≡ c ∷ drop 1 t
split_first [] c some first = absurd (false≢true some)
split_first (d ∷ t) c some first = ap (λ e. e ∷ t) (sym first)

module _ (flags : List Bool) (line : List ℕ) (k : ℕ) (within : k < length line) (t : List ℕ) where
  pub repeat_empty : length t ≡ 0 → false ≡ repeat_ends flags line (k + 1) t
  repeat_empty none = at t none
    where
      at : (t : List ℕ) → length t ≡ 0 → false ≡ repeat_ends flags line (k + 1) t
      at [] none = sym (repeat_ends-none flags line (k + 1))
      at (c ∷ t) none = absurd (omega arith)

  module _ (c : ℕ) (some : false ≡ (length t == 0)) (first : c ≡ get_or t 0 c) where
    whole : t ≡ c ∷ drop 1 t
    whole = split_first t c some first

    pub repeat_other : (slice_index line k ≡ c → ⊥) → false ≡ repeat_ends flags line (k + 1) t
    repeat_other other = same_truth _ _ (λ h. absurd (false≢true h)) (λ h.
        absurd (other (repeat_more flags line k c (drop 1 t) within
        (ap (repeat_ends flags line (k + 1)) (sym whole) ∙ h)).0))

    pub repeat_again : slice_index line k ≡ c → repeat_ends flags line k t ≡ true → true ≡ repeat_ends flags line (k + 1) t
    repeat_again same before =
        sym (ap (repeat_ends flags line (k + 1)) whole
        ∙ repeat_from_repeat flags line k c (drop 1 t) within same
        (ap (repeat_ends flags line k) (sym whole) ∙ before))

    -- the rest of the text must end here, after a sequence
    only_rest : repeat_ends flags line k t ≡ false → repeat_ends flags line (k + 1) t ≡ true → RestEnds flags line k c (drop 1 t) within
    only_rest before h =
        ⊎_elim
        (λ rest. rest)
        (λ again. absurd (false≢true (sym before ∙ ap (repeat_ends flags line k) whole ∙ again)))
        (repeat_more flags line k c (drop 1 t) within (ap (repeat_ends flags line (k + 1)) (sym whole) ∙ h)).1

    pub repeat_no_rest : repeat_ends flags line k t ≡ false
        → (length (drop 1 t) ≤ k → slice_index_or flags (k - length (drop 1 t)) false ≡ true → ⊥)
        → false ≡ repeat_ends flags line (k + 1) t
    repeat_no_rest before none = same_truth _ _ (λ h. absurd (false≢true h)) (λ h. let rest = only_rest before h in absurd (none rest.fits rest.flagged))

    pub repeat_rest : slice_index line k ≡ c → repeat_ends flags line k t ≡ false → length (drop 1 t) ≤ k
        → slice_index_or flags (k - length (drop 1 t)) false ≡ true
        → (b : Bool) → b ≡ bytes_eq (drop 1 t) (reverse (slice_range line (k - length (drop 1 t)) k)) → b ≡ repeat_ends flags line (k + 1) t
    repeat_rest same before fits flagged b value = same_truth _ _
        (λ h. ap (repeat_ends flags line (k + 1)) whole
        ∙ repeat_from_rest flags line k c (drop 1 t) within same
        (record { fits = fits; flagged = flagged; text = (bytes_eq-Decides _ _).0 (sym value ∙ h) }))
        (λ h. value ∙ (bytes_eq-Decides _ _).1 (only_rest before h).text)

-- what is known of the texts before the first index
pub repeats_start : (flags : List Bool) (line : List ℕ) (ts : List (List ℕ)) → replicate (length ts) false ≡ map (repeat_ends flags line 0) ts
repeats_start flags line [] = refl
repeats_start flags line (t ∷ ts) = ap₂ (λ b l. b ∷ l) (sym (repeat_ends-start flags line t)) (repeats_start flags line ts)

pub repeats_push : (flags : List Bool) (line : List ℕ) (end : ℕ) (b : Bool) → end ≤ length flags → (ts : List (List ℕ))
    → map (repeat_ends flags line end) ts ≡ map (repeat_ends (flags ++ b ∷ []) line end) ts
repeats_push flags line end b within [] = refl
repeats_push flags line end b within (t ∷ ts) = ap₂ (λ c l. c ∷ l) (sym (repeat_ends-push flags line end b within t)) (repeats_push flags line end b within ts)

-- a slice that a `Vec` lends, given back with other elements
pub put_back : {A : Type 0} (items new : List A) (len : ℕ) → len ≡ length items → length new ≡ length items → take len (new ++ drop (length new) items) ≡ new
put_back items new len whole same =
    ap (λ l. take len (new ++ l)) (drop_all (length new) items (omega arith)) ∙ ap (take len) (append-nil new) ∙ take_all len new (omega arith)
