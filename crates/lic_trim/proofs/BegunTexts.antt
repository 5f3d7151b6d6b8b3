-- Which texts a way begins with, by its first two characters, and how long they are.
use Rattle.std.proofs.Common.{◌≡◌, ◌≢◌, ℕ, ◌^◌, ◌<◌, w64, true, false, ◌&&◌, ◌||◌, ◌==◌, ◌⊎◌, inl, inr, List, [], ◌∷◌, length, get_or, refl, sym, ap, ◌∙◌, ⊎_elim, arith}
use Rattle.std.specs.Prelude.{nat_lt}
use Rattle.std.specs.Char.{is_whitespace}
use Rattle.std.specs.List.{list_any}
use Rattle.std.specs.Int.{trailing_zeros}
use Rattle.std.proofs.lemmas.Bool.{false≢true, and_parts, and_from, or_cases, or_left, or_right, cases_Bool, cases_eq, eqb-true, ltb-true, lt-ltb}
use Rattle.lic_kind.proofs.BeginningLemmas.{some_bit}
use Rattle.lic_kind.specs.Beginnings.{may_be_next, may_begin}
use Rattle.lic_kind.specs.LineRules.{LineRules}
use Rattle.lic_trim.specs.Beginnings.{BeginsWithTwo, HasBits, HasBegun}
use Rattle.lic_trim.specs.PieceLengths.{has_bit, begins_with_length}
use Rattle.lic_trim.specs.Walks.{Side, walked, side_texts, side_spaced, side_repeated, begins_with_text, may_begin_with}
use Rattle.lic_trim.proofs.LowestBit.{without_lowest, others_stay}
use Rattle.lic_trim.proofs.PieceLengths.{has_bit_zero}
use Rattle.lic_trim.proofs.SpaceSequences.{or_none, or_off}
use Rattle.lic_trim.proofs.Stops.{any_some, any_from}
use Rattle.lic_trim.proofs.TextLemmas.{same_truth}

-- ---- a text that is there may begin as the way does

module _ (c d : ℕ) where
  begins_so : (way t : List ℕ) → BeginsWithTwo c d way → begins_with_text way t ≡ true → may_begin c d t ≡ true
  begins_so way [] two begins = refl
  begins_so [] (a ∷ t) two begins = absurd (false≢true begins)
  begins_so (x ∷ way) (a ∷ []) two begins = or_right (is_whitespace a) ((c == a) && true) (ap (λ y. (y == a) && true) two.first ∙ begins)
  begins_so (x ∷ []) (a ∷ b ∷ t) two begins = absurd (false≢true (and_parts (x == a) false begins).1)
  begins_so (x ∷ y ∷ way) (a ∷ b ∷ t) two begins =
      let parts = and_parts (x == a) ((y == b) && begins_with_text way t) begins in
      let next = and_parts (y == b) (begins_with_text way t) parts.1 in
      or_right (is_whitespace a) ((c == a) && (d == b))
      (and_from (c == a) (d == b) (ap (λ z. z == a) two.first ∙ parts.0) (ap (λ z. z == b) (two.second (omega arith)) ∙ next.0))

  occurs_so : (way t : List ℕ) → BeginsWithTwo c d way → may_begin_with way t ≡ true → may_begin c d t ≡ true
  occurs_so way [] two occurs = refl
  occurs_so way (a ∷ t) two occurs = elim (or_cases (is_whitespace a) (begins_with_text way (a ∷ t)) occurs) [
    | inl white ↦ or_left (is_whitespace a) ((c == a) && may_be_next d t) white
    | inr begins ↦ begins_so way (a ∷ t) two begins
  ]

  -- the mask has the texts that begin so, or a bit if one does
  abbrev pub Has : ℕ → Side → List (List ℕ) → Type 0
  Has mask side texts = (i : ℕ) → i < length texts → may_begin c d (walked side (get_or texts i [])) ≡ true → has_bit mask i ≡ true

  abbrev pub HasSome : ℕ → Side → List (List ℕ) → Type 0
  HasSome mask side texts = (i : ℕ) → i < length texts → may_begin c d (walked side (get_or texts i [])) ≡ true → mask ≢ 0

  module _ (mask : ℕ) (side : Side) (way : List ℕ) (two : BeginsWithTwo c d way) where
    has_bits : (texts : List (List ℕ)) → Has mask side texts → HasBits mask side way texts
    has_bits texts has = record { each = λ i lt begins. has i lt (begins_so way (walked side (get_or texts i [])) two begins) }

    no_bits : (texts : List (List ℕ)) → HasSome mask side texts → mask ≡ 0 → HasBits 0 side way texts
    no_bits texts has none = record { each = λ i lt begins. absurd (has i lt (begins_so way (walked side (get_or texts i [])) two begins) none) }

    none_occurs : (texts : List (List ℕ)) → HasSome mask side texts → mask ≡ 0 → list_any (λ t. may_begin_with way (walked side t)) texts ≡ false
    none_occurs texts has none = elim (cases_Bool (list_any (λ t. may_begin_with way (walked side t)) texts)) [
      | inl some ↦
          let found = any_some (λ t. may_begin_with way (walked side t)) texts [] some in
          absurd (has found.0 found.1 (occurs_so way (walked side (get_or texts found.0 [])) two found.2) none)
      | inr off ↦ off
    ]

    pub has_begun : (rules : LineRules) → Has mask side (side_texts rules side) → HasSome mask side (side_spaced rules side)
        → HasSome mask side (side_repeated rules side) → HasBegun rules side way mask
    has_begun rules texts spaced repeated = record {
      texts = has_bits (side_texts rules side) texts;
      spaced = no_bits (side_spaced rules side) spaced;
      repeated = no_bits (side_repeated rules side) repeated;
      closed = λ none.
          or_off _ _ (none_occurs (side_texts rules side) (λ i lt may. some_bit mask i (texts i lt may)) none)
          (or_off _ _ (none_occurs (side_spaced rules side) spaced none) (none_occurs (side_repeated rules side) repeated none));
    }

-- ---- where a way begins with no text, and none begins in white space, no other way does that begins in white space

module _ (rules : LineRules) (side : Side) (before way : List ℕ) (none : HasBegun rules side before 0) (white : is_whitespace (get_or way 0 0) ≡ true) where
  -- a text that begins so has no character, or begins in white space
  in_space : (t : List ℕ) → begins_with_text way t ≡ true → (begins_with_text before t ≡ true) ⊎ (may_begin_with before t ≡ true)
  in_space [] begins = inl refl
  in_space (a ∷ t) begins = inr (or_left (is_whitespace a) (begins_with_text before (a ∷ t)) (head way white begins))
    where
      head : (l : List ℕ) → is_whitespace (get_or l 0 0) ≡ true → begins_with_text l (a ∷ t) ≡ true → is_whitespace a ≡ true
      head [] light is = absurd (false≢true is)
      head (x ∷ l) light is =
          let same : x ≡ a = eqb-true x a (and_parts (x == a) (begins_with_text l t) is).0 in
          ap is_whitespace (sym same) ∙ light

  module _ (texts : List (List ℕ)) (bits : HasBits 0 side before texts) (off : list_any (λ t. may_begin_with before (walked side t)) texts ≡ false) where
    still_bits : HasBits 0 side way texts
    still_bits = record {
      each = λ i lt begins. elim (in_space (walked side (get_or texts i [])) begins) [
        | inl empty ↦ bits.each i lt empty
        | inr may ↦ absurd (false≢true (sym off ∙ any_from (λ t. may_begin_with before (walked side t)) texts i [] lt may))
      ];
    }

    still_off : list_any (λ t. may_begin_with way (walked side t)) texts ≡ false
    still_off = elim (cases_Bool (list_any (λ t. may_begin_with way (walked side t)) texts)) [
      | inl some ↦
          let found = any_some (λ t. may_begin_with way (walked side t)) texts [] some in
          absurd (false≢true (sym off ∙ any_from (λ t. may_begin_with before (walked side t)) texts found.0 [] found.1
          (no_more (walked side (get_or texts found.0 [])) found.2)))
      | inr none' ↦ none'
    ]
      where
        no_more : (t : List ℕ) → may_begin_with way t ≡ true → may_begin_with before t ≡ true
        no_more [] may = absurd (false≢true may)
        no_more (a ∷ t) may = elim (or_cases (is_whitespace a) (begins_with_text way (a ∷ t)) may) [
          | inl light ↦ or_left (is_whitespace a) (begins_with_text before (a ∷ t)) light
          | inr begins ↦ elim (in_space (a ∷ t) begins) [
            | inl here ↦ or_right (is_whitespace a) (begins_with_text before (a ∷ t)) here
            | inr may' ↦ may'
          ]
        ]

  pub begun_in_space : HasBegun rules side way 0
  begun_in_space =
      let off = none.closed refl in
      let texts = or_none _ _ off in
      let others = or_none _ _ texts.1 in
      record {
        texts = still_bits (side_texts rules side) none.texts texts.0;
        spaced = λ _. still_bits (side_spaced rules side) (none.spaced refl) others.0;
        repeated = λ _. still_bits (side_repeated rules side) (none.repeated refl) others.1;
        closed = λ _.
            or_off _ _ (still_off (side_texts rules side) none.texts texts.0)
            (or_off _ _ (still_off (side_spaced rules side) (none.spaced refl) others.0) (still_off (side_repeated rules side) (none.repeated refl) others.1));
      }

-- ---- the lengths of the texts whose bits were looked at

-- the mask has the lengths of the texts that come first on the way, but for some of those whose bit is left
pub record AreFound (side : Side) (texts : List (List ℕ)) (way : List ℕ) (mask left : ℕ) : Type 0 where
  pub sound : (n : ℕ) → has_bit mask n ≡ true → list_any (λ t. begins_with_length n way (walked side t)) texts ≡ true
  pub known : (i n : ℕ) → i < length texts → begins_with_length n way (walked side (get_or texts i [])) ≡ true → (has_bit mask n ≡ true) ⊎ (has_bit left i ≡ true)

pub none_found : (side : Side) (texts : List (List ℕ)) (way : List ℕ) (begun : ℕ) → HasBits begun side way texts → AreFound side texts way 0 begun
none_found side texts way begun bits = record {
  sound = λ n on. absurd (false≢true (sym (has_bit_zero n) ∙ on));
  known = λ i n lt begins.
      let text = walked side (get_or texts i []) in
      inr (bits.each i lt (and_parts (begins_with_text way text) (length text == n) begins).0);
}

module _ (side : Side) (texts : List (List ℕ)) (way : List ℕ) (mask left : ℕ) (are : AreFound side texts way mask left) where
  pub one_found : (some : 0 < left) (fits : left < 2 ^ 64) (i new : ℕ) → i ≡ trailing_zeros w64 left
      → ((n : ℕ) → has_bit new n ≡ (has_bit mask n || (nat_lt i (length texts) && begins_with_length n way (walked side (get_or texts i [])))))
      → AreFound side texts way new (without_lowest left)
  one_found some fits i new lowest is = record {
    sound = λ n on. ⊎_elim
        (are.sound n)
        (λ here.
        let parts = and_parts (nat_lt i (length texts)) (begins_with_length n way (walked side (get_or texts i []))) here in
        any_from (λ t. begins_with_length n way (walked side t)) texts i [] (ltb-true i (length texts) parts.0) parts.1)
        (or_cases (has_bit mask n) (nat_lt i (length texts) && begins_with_length n way (walked side (get_or texts i []))) (sym (is n) ∙ on));
    known = λ j n lt begins. ⊎_elim
        (λ old. inl (is n ∙ or_left (has_bit mask n) _ old))
        (λ on. ⊎_elim
        (λ same. inl (is n ∙ or_right (has_bit mask n) _
        (ap (λ k. nat_lt k (length texts) && begins_with_length n way (walked side (get_or texts k []))) (sym same)
        ∙ and_from (nat_lt j (length texts)) (begins_with_length n way (walked side (get_or texts j []))) (lt-ltb j (length texts) lt) begins)))
        (λ other. inr (ap (λ b. b == 1) (others_stay left some fits j (λ e. other (e ∙ sym lowest))) ∙ on))
        (cases_eq j i))
        (are.known j n lt begins);
  }

  pub all_found : left ≡ 0 → (n : ℕ) → has_bit mask n ≡ list_any (λ t. begins_with_length n way (walked side t)) texts
  all_found none n = same_truth (has_bit mask n) (list_any (λ t. begins_with_length n way (walked side t)) texts)
      (are.sound n)
      (λ any.
      let found = any_some (λ t. begins_with_length n way (walked side t)) texts [] any in
      ⊎_elim
      (λ on. on)
      (λ bit. absurd (false≢true (sym (has_bit_zero found.0) ∙ ap (λ l. has_bit l found.0) (sym none) ∙ bit)))
      (are.known found.0 n found.1 found.2))
