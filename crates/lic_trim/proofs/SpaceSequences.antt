-- Where white space is at a side, and after it a character that no other piece begins in, the longest sequence is the white space.
use Rattle.std.proofs.Common.{◌≡◌, ◌≢◌, ℕ, zero, suc, ◌+◌, ◌-◌, ◌<◌, ◌≤◌, Bool, true, false, ◌&&◌, ◌||◌, ◌==◌, List, [], ◌∷◌, ◌++◌, ◌⊎◌, inl, inr, length, take, drop, get_or, reverse, refl, sym, ap, ap₂, ◌∙◌, append_assoc, append-nil, ⊎_elim, arith}
use Rattle.std.specs.Prelude.{slice_range, slice_index, slice_index_or, bytes_eq}
use Rattle.std.specs.List.{list_any}
use Rattle.std.specs.Char.{is_whitespace}
use Rattle.std.proofs.lemmas.Bool.{false≢true, and_parts, and_from, or_cases, or_left, or_right, cases_Bool, cases_lt, eqb-true, eq-eqb}
use Rattle.std.proofs.lemmas.List.{length-reverse, reverse-append, reverse-reverse, take-append-drop}
use Rattle.std.proofs.lemmas.Slice.Eq.{bytes_eq-Decides}
use Rattle.lic_kind.specs.Kinds.{kind_of, is_mark_kind}
use Rattle.lic_kind.proofs.KindLemmas.{kind_of-white}
use Rattle.lic_trim.specs.Texts.{is_sequence, ends_in, greatest, longest_front}
use Rattle.lic_kind.specs.LineRules.{LineRules}
use Rattle.lic_trim.specs.Lines.{is_space, is_separator, repeats}
use Rattle.lic_trim.specs.Spaces.{AreSpaces}
use Rattle.lic_trim.specs.Walks.{Side, Front, End, walked, is_walked_piece, side_texts, side_spaced, side_repeated, begins_with_text, may_begin_with, may_begin_with_any}
use Rattle.lic_trim.proofs.PieceEnds.{length_part, slice_at, separator_parts}
use Rattle.lic_trim.proofs.KindEnds.{space_parts, slice_one}
use Rattle.lic_trim.proofs.SideEnds.{walked_piece}
use Rattle.lic_trim.proofs.Stops.{any_some, any_from}
use Rattle.lic_trim.proofs.SequenceLemmas.{sequence_ends, sequence_continues}
use Rattle.lic_trim.proofs.TailSequences.{greatest_stays, greatest_ge, greatest_le}
use Rattle.lic_trim.proofs.TextLemmas.{same_truth}

pub or_none : (a b : Bool) → (a || b) ≡ false → (a ≡ false) × (b ≡ false)
or_none false b h = (refl, h)
or_none true b h = cc

pub or_off : (a b : Bool) → a ≡ false → b ≡ false → (a || b) ≡ false
or_off a b h k = ap₂ (λ x y. x || y) h k

eqb-sym : (a b : ℕ) → (a == b) ≡ (b == a)
eqb-sym a b = same_truth (a == b) (b == a) (λ h. eq-eqb b a (sym (eqb-true a b h))) (λ h. eq-eqb a b (sym (eqb-true b a h)))

-- ---- a text at the start of another

occurs_front : (t more : List ℕ) → begins_with_text (t ++ more) t ≡ true
occurs_front [] more = refl
occurs_front (c ∷ t) more = and_from (c == c) (begins_with_text (t ++ more) t) (eq-eqb c c refl) (occurs_front t more)

-- a text with a character may occur where it does, and where it begins in white space
may_be_there : (way t more : List ℕ) → 0 < length t → (is_whitespace (get_or t 0 0) ≡ true) ⊎ (way ≡ t ++ more) → may_begin_with way t ≡ true
may_be_there way [] more some how = absurd (omega arith)
may_be_there way (c ∷ t) more some (inl white) = or_left (is_whitespace c) (begins_with_text way (c ∷ t)) white
may_be_there way (c ∷ t) more some (inr is) =
    or_right (is_whitespace c) (begins_with_text way (c ∷ t)) (ap (λ l. begins_with_text l (c ∷ t)) is ∙ occurs_front (c ∷ t) more)

-- what is a text with its first character once or more ends in the text
repeats_end : (t x : List ℕ) → repeats t x ≡ true → (0 < length t) × ((front : List ℕ) × (x ≡ front ++ t))
repeats_end [] x h = absurd (false≢true h)
repeats_end (c ∷ rest) [] h = absurd (false≢true h)
repeats_end (c ∷ rest) (d ∷ x) h =
    let parts = and_parts (d == c) (bytes_eq rest x || repeats (c ∷ rest) x) h in
    let first : d ≡ c = eqb-true d c parts.0 in
    ⊎_elim
    (λ here. (omega arith, ([], ap₂ (λ a l. a ∷ l) first (sym ((bytes_eq-Decides rest x).0 here)))))
    (λ again. let known = repeats_end (c ∷ rest) x again in (omega arith, (d ∷ known.1.0, ap (λ l. d ∷ l) known.1.1)))
    (or_cases (bytes_eq rest x) (repeats (c ∷ rest) x) parts.1)

-- a white space character is a piece
space_is_piece : (rules : LineRules) (side : Side) (c : ℕ) → is_whitespace c ≡ true → is_walked_piece rules side (c ∷ []) ≡ true
space_is_piece rules side c white =
    let x = c ∷ [] in
    walked_piece rules side x
    ∙ or_left ((is_space x || (rules.separators && is_separator x)) || list_any (λ t. bytes_eq (walked side t) x) (side_texts rules side)) _
    (or_left (is_space x || (rules.separators && is_separator x)) _ (or_left (is_space x) _ white))

-- white space is a sequence
pub spaces_are_sequence : (rules : LineRules) (side : Side) (line : List ℕ) (n : ℕ) → n ≤ length line
    → ((i : ℕ) → i < n → is_whitespace (slice_index line i) ≡ true) → (m : ℕ) → m ≤ n → is_sequence (is_walked_piece rules side) (take m line) ≡ true
spaces_are_sequence rules side line n inside white zero le = refl
spaces_are_sequence rules side line n inside white (suc m) le =
    let p = is_walked_piece rules side in
    let next : m + 1 ≡ suc m = omega arith in
    let one : slice_range line m (suc m) ≡ slice_index line m ∷ [] = ap (slice_range line m) (sym next) ∙ slice_one line m (omega arith) in
    sequence_continues p line m (suc m) (omega arith) (spaces_are_sequence rules side line n inside white m (omega arith))
    (ap p one ∙ space_is_piece rules side (slice_index line m) (white m (omega arith)))

greatest_itself : (test : ℕ → Bool) (k : ℕ) → test k ≡ true → greatest test k ≡ k
greatest_itself test zero h = refl
greatest_itself test (suc k) h = search h

module _ (rules : LineRules) (side : Side) (line : List ℕ) (n : ℕ) (inside : n < length line)
    (white : (i : ℕ) → i < n → is_whitespace (slice_index line i) ≡ true) (dark : is_whitespace (slice_index line n) ≡ false)
    (closed : may_begin_with_any rules side (drop n line) ≡ false)
    (apart : (n + 2 < length line → slice_index line (n + 1) ≡ slice_index line n → slice_index line (n + 2) ≢ slice_index line n)
    ⊎ (is_mark_kind (kind_of (slice_index line n)) ≡ false)) where
  abbrev p : List ℕ → Bool
  p = is_walked_piece rules side

  abbrev c : ℕ
  c = slice_index line n

  no_texts : list_any (λ t. may_begin_with (drop n line) (walked side t)) (side_texts rules side) ≡ false
  no_texts = (or_none _ _ closed).0

  no_spaced : list_any (λ t. may_begin_with (drop n line) (walked side t)) (side_spaced rules side) ≡ false
  no_spaced = (or_none _ _ (or_none _ _ closed).1).0

  no_repeated : list_any (λ t. may_begin_with (drop n line) (walked side t)) (side_repeated rules side) ≡ false
  no_repeated = (or_none _ _ (or_none _ _ closed).1).1

  module _ (m j : ℕ) (low : j ≤ n) (high : n < m) (within : m ≤ length line) where
    abbrev x : List ℕ
    x = slice_range line j m

    size : length x ≡ m - j
    size = length_part [] line m j within

    at : (i : ℕ) → j + i < m → get_or x i 0 ≡ slice_index line (j + i)
    at i lt = slice_at line j m i lt

    first : (is_whitespace (get_or x 0 0) ≡ true) ⊎ (get_or x 0 0 ≡ c)
    first =
        let start : j + 0 ≡ j = omega arith in
        let is = at 0 (omega arith) ∙ ap (slice_index line) start in
        ⊎_elim
        (λ before. inl (ap is_whitespace is ∙ white j before))
        (λ past. let same : j ≡ n = omega arith in inr (is ∙ ap (slice_index line) same))
        (cases_lt j n)

    -- no part that begins in the white space, or after it, begins with a text of the side
    never_occurs : (ts : List (List ℕ)) (k : ℕ) (more : List ℕ)
        → list_any (λ t. may_begin_with (drop n line) (walked side t)) ts ≡ false → k < length ts
        → 0 < length (walked side (slice_index_or ts k [])) → x ≡ walked side (slice_index_or ts k []) ++ more → ⊥
    never_occurs ts k more none lt some is =
        let t = walked side (slice_index_or ts k []) in
        let begins : get_or x 0 0 ≡ get_or t 0 0 = ap (λ l. get_or l 0 0) is ∙ first_of t more some in
        false≢true (sym none ∙ any_from (λ u. may_begin_with (drop n line) (walked side u)) ts k [] lt
        (may_be_there (drop n line) t (more ++ drop (m - j) (drop j line)) some
        (⊎_elim
        (λ before. let start : j + 0 ≡ j = omega arith in
        inl (ap is_whitespace (sym begins ∙ at 0 (omega arith) ∙ ap (slice_index line) start) ∙ white j before))
        (λ past.
        let same : n ≡ j = omega arith in
        inr (ap (λ i. drop i line) same ∙ sym (take-append-drop (m - j) (drop j line))
        ∙ ap (λ l. l ++ drop (m - j) (drop j line)) is ∙ append_assoc t more (drop (m - j) (drop j line))))
        (cases_lt j n))))
      where
        first_of : (t more : List ℕ) → 0 < length t → get_or (t ++ more) 0 0 ≡ get_or t 0 0
        first_of [] more some = absurd (omega arith)
        first_of (d ∷ t) more some = refl

    -- a part of one character is the dark one
    no_one : length x ≡ 1 → is_whitespace (get_or x 0 0) ≡ true → ⊥
    no_one one light =
        let same : j ≡ n = omega (arith, size) in
        let start : j + 0 ≡ n = omega arith in
        false≢true (sym dark ∙ ap is_whitespace (sym (at 0 (omega arith) ∙ ap (slice_index line) start)) ∙ light)

    no_space : is_space x ≡ true → ⊥
    no_space h = let parts = space_parts x h in no_one (ap length parts.1) (ap (λ l. is_whitespace (get_or l 0 0)) parts.1 ∙ parts.2)

    no_separator : is_separator x ≡ true → ⊥
    no_separator h =
        let parts = separator_parts x h in
        let long : 3 ≤ length x = parts.0 in
        let mark = parts.1 in
        let each = parts.3 in
        ⊎_elim
        (λ light. false≢true (ap is_mark_kind (sym (kind_of-white (get_or x 0 0) light)) ∙ ap (λ d. is_mark_kind (kind_of d)) (each 0 (omega arith)) ∙ parts.2))
        (λ same. ⊎_elim
        (λ before.
        let start : j + 0 ≡ j = omega arith in
        let light = ap is_whitespace (at 0 (omega (arith, size)) ∙ ap (slice_index line) start) ∙ white j before in
        false≢true (ap is_mark_kind (sym (kind_of-white (get_or x 0 0) light)) ∙ ap (λ d. is_mark_kind (kind_of d)) (each 0 (omega arith)) ∙ parts.2))
        (λ past.
        let here : j ≡ n = omega arith in
        let one : j + 1 ≡ n + 1 = omega arith in
        let two : j + 2 ≡ n + 2 = omega arith in
        ⊎_elim
        (λ differ. differ (omega (arith, size))
        (sym (at 1 (omega (arith, size)) ∙ ap (slice_index line) one) ∙ each 1 (omega arith) ∙ sym (each 0 (omega arith)) ∙ same)
        (sym (at 2 (omega (arith, size)) ∙ ap (slice_index line) two) ∙ each 2 (omega arith) ∙ sym (each 0 (omega arith)) ∙ same))
        (λ no_mark. false≢true
        (sym no_mark ∙ ap (λ d. is_mark_kind (kind_of d)) (sym same ∙ each 0 (omega arith)) ∙ parts.2))
        apart)
        (cases_lt j n))
        first

    no_text : list_any (λ t. bytes_eq (walked side t) x) (side_texts rules side) ≡ true → ⊥
    no_text h =
        let found = any_some (λ t. bytes_eq (walked side t) x) (side_texts rules side) [] h in
        let same = (bytes_eq-Decides (walked side (slice_index_or (side_texts rules side) found.0 [])) x).0 found.2 in
        never_occurs (side_texts rules side) found.0 [] no_texts found.1 (omega (arith, ap length same, size))
        (sym same ∙ sym (append-nil (walked side (slice_index_or (side_texts rules side) found.0 []))))

    -- a text and a white space character
    spaced_parts : (t : List ℕ) → ends_in is_whitespace (bytes_eq t) x ≡ true → (w : ℕ) × (is_whitespace w ≡ true) × (x ≡ t ++ w ∷ [])
    spaced_parts t h = from (reverse x) refl h
      where
        from : (backwards : List ℕ) → reverse x ≡ backwards
            → elim backwards as (λ _. Bool) [ [] ↦ false | d ∷ rest ↦ is_whitespace d && bytes_eq t (reverse rest) ]
            ≡ true → (w : ℕ) × (is_whitespace w ≡ true) × (x ≡ t ++ w ∷ [])
        from [] same e = absurd (false≢true e)
        from (d ∷ rest) same e =
            let parts = and_parts (is_whitespace d) (bytes_eq t (reverse rest)) e in
            let text : t ≡ reverse rest = (bytes_eq-Decides t (reverse rest)).0 parts.1 in
            (d, parts.0, sym (reverse-reverse x) ∙ ap reverse same ∙ reverse-append (d ∷ []) rest ∙ ap (λ l. l ++ d ∷ []) (sym text))

    no_spaced_text : list_any (λ t. ends_in is_whitespace (bytes_eq (walked side t)) x) (side_spaced rules side) ≡ true → ⊥
    no_spaced_text h =
        let found = any_some (λ t. ends_in is_whitespace (bytes_eq (walked side t)) x) (side_spaced rules side) [] h in
        let t = walked side (slice_index_or (side_spaced rules side) found.0 []) in
        let parts = spaced_parts t found.2 in
        by t parts.0 parts.1 parts.2 (λ some. never_occurs (side_spaced rules side) found.0 (parts.0 ∷ []) no_spaced found.1 some parts.2)
      where
        by : (t : List ℕ) (w : ℕ) → is_whitespace w ≡ true → x ≡ t ++ w ∷ [] → (0 < length t → ⊥) → ⊥
        by [] w light same other = no_one (ap length same) (ap (λ l. is_whitespace (get_or l 0 0)) same ∙ light)
        by (d ∷ t) w light same other = other (omega arith)

    no_repeated_text : list_any (λ t. repeats t (reverse x)) (side_repeated rules side) ≡ true → ⊥
    no_repeated_text h = by side (λ ts k more. never_occurs ts k more) no_repeated h
      where
        by : (s : Side) → ((ts : List (List ℕ)) (k : ℕ) (more : List ℕ)
            → list_any (λ t. may_begin_with (drop n line) (walked s t)) ts ≡ false → k < length ts
            → 0 < length (walked s (slice_index_or ts k [])) → x ≡ walked s (slice_index_or ts k []) ++ more → ⊥)
            → list_any (λ t. may_begin_with (drop n line) (walked s t)) (side_repeated rules s) ≡ false
            → list_any (λ t. repeats t (reverse x)) (side_repeated rules s) ≡ true → ⊥
        by Front never none h = false≢true h
        by End never none h =
            let found = any_some (λ t. repeats t (reverse x)) rules.tail_repeat [] h in
            let t = slice_index_or rules.tail_repeat found.0 [] in
            let known = repeats_end t (reverse x) found.2 in
            never rules.tail_repeat found.0 (reverse known.1.0) none found.1 (omega (arith, known.0, length-reverse t))
            (sym (reverse-reverse x) ∙ ap reverse known.1.1 ∙ reverse-append known.1.0 t)

  beyond : (k m : ℕ) → m ≤ k → n < m → m ≤ length line → is_sequence p (take m line) ≡ false
  beyond zero m le more within = absurd (omega arith)
  beyond (suc k) m le more within =
      ⊎_elim
      (λ yes.
      let e = sequence_ends p line m (omega arith) within yes in
      let below : e.0 < m = e.1 in
      let low : e.0 ≤ n = ⊎_elim (λ high. absurd (false≢true (sym (beyond k e.0 (omega arith) high (omega arith)) ∙ e.2))) (λ fine. fine) (cases_lt n e.0) in
      let y = slice_range line e.0 m in
      absurd (⊎_elim
      (λ left. ⊎_elim
      (λ left'. ⊎_elim (no_space m e.0 low more within) (λ marks.
      no_separator m e.0 low more within (and_parts rules.separators (is_separator y) marks).1)
      (or_cases (is_space y) (rules.separators && is_separator y) left'))
      (no_text m e.0 low more within)
      (or_cases (is_space y || (rules.separators && is_separator y)) (list_any (λ t. bytes_eq (walked side t) y) (side_texts rules side)) left))
      (λ right. ⊎_elim (no_spaced_text m e.0 low more within) (no_repeated_text m e.0 low more within)
      (or_cases (list_any (λ t. ends_in is_whitespace (bytes_eq (walked side t)) y) (side_spaced rules side))
      (list_any (λ t. repeats t (reverse y)) (side_repeated rules side)) right))
      (or_cases ((is_space y || (rules.separators && is_separator y))
      || list_any (λ t. bytes_eq (walked side t) y) (side_texts rules side))
      (list_any (λ t. ends_in is_whitespace (bytes_eq (walked side t)) y) (side_spaced rules side)
      || list_any (λ t. repeats t (reverse y)) (side_repeated rules side))
      (sym (walked_piece rules side y) ∙ e.3))))
      (λ none. none)
      (cases_Bool (is_sequence p (take m line)))

  pub longest_standing : n ≡ longest_front (is_sequence p) line
  longest_standing =
      let test = λ (m : ℕ). is_sequence p (take m line) in
      sym (greatest_stays test n (length line) (omega arith) (λ m more le. beyond m m (omega arith) more le)
      ∙ greatest_itself test n (spaces_are_sequence rules side line n (omega arith) white n (omega arith)))

-- a line of white space alone is a sequence
module _ (rules : LineRules) (side : Side) (line : List ℕ) (white : (i : ℕ) → i < length line → is_whitespace (slice_index line i) ≡ true) where
  abbrev piece : List ℕ → Bool
  piece = is_walked_piece rules side

  pub longest_of_spaces : length line ≡ longest_front (is_sequence piece) line
  longest_of_spaces = sym (greatest_itself (λ m. is_sequence piece (take m line)) (length line)
      (spaces_are_sequence rules side line (length line) (omega arith) white (length line) (omega arith)))

-- the longest sequence has the white space that it begins with
pub has_spaces : (rules : LineRules) (side : Side) (way : List ℕ) (n m : ℕ) → AreSpaces way n
    → m ≡ longest_front (is_sequence (is_walked_piece rules side)) way → (n ≤ m) × (m ≤ length way)
has_spaces rules side way n m spaces is =
    let test = λ (k : ℕ). is_sequence (is_walked_piece rules side) (take k way) in (
      omega (arith, is, greatest_ge test (length way) n spaces.within (spaces_are_sequence rules side way n spaces.within spaces.all n (omega arith))),
      omega (arith, is, greatest_le test (length way)),
    )
