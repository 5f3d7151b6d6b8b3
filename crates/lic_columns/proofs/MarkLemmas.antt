-- Streaks of marks, bit by bit.
use Rattle.std.proofs.Common.{◌≡◌, ℕ, suc, ◌+◌, ◌*◌, ◌<◌, ◌≤◌, Bool, true, false, not, ◌&&◌, if◌then◌else◌, List, length, get_or, refl, ap, sym, ◌∙◌, inl, inr, arith}
use Rattle.std.proofs.lemmas.Bool.{cases_lt, and_parts}
use Rattle.std.proofs.lemmas.List.{get_or_past}
use Rattle.std.specs.Prelude.{◌==◌, bit_and}
use Rattle.lic_columns.specs.Masks.{flag_at, flag_before}
use Rattle.lic_columns.specs.Cells.{AreCells}
use Rattle.lic_columns.specs.Marks.{is_same_as_next, same_as_next, is_joined, joined_marks, kept_by, is_in_separator, is_joining, is_middle, middles, without_separators}
use Rattle.lic_letters.proofs.BitLemmas.{has_bit_and, has_bit_zero}
use Rattle.lic_columns.proofs.FlagLemmas.{length-listed, flag_at-listed}
use Rattle.lic_trim.specs.PieceLengths.{has_bit}

and_false : (t : Bool) → (t && false) ≡ false
and_false true = refl
and_false false = refl

-- flags of the marks of a column, and of the next offset of each
module _ (text : List ℕ) (marks : List Bool) (k here after i : ℕ) (small : i < 64)
    (bits : has_bit here i ≡ flag_at marks (k * 64 + i)) (next : has_bit after i ≡ flag_at marks (suc (k * 64 + i))) where
  both_bits : has_bit (bit_and here after) i ≡ (flag_at marks (k * 64 + i) && flag_at marks (suc (k * 64 + i)))
  both_bits = has_bit_and here after i ∙ ap (λ t. t && has_bit after i) bits ∙ ap (λ t. flag_at marks (k * 64 + i) && t) next

  pub none_same : bit_and here after ≡ 0 → has_bit 0 i ≡ is_same_as_next text marks (k * 64 + i)
  none_same none =
      ap (λ m. has_bit m i) (sym none) ∙ both_bits
      ∙ without (flag_at marks (k * 64 + i) && flag_at marks (suc (k * 64 + i))) (get_or text (k * 64 + i) 0 == get_or text (suc (k * 64 + i)) 0)
      (sym both_bits ∙ ap (λ m. has_bit m i) none ∙ has_bit_zero i)
    where
      without : (t u : Bool) → t ≡ false → t ≡ (t && u)
      without true u e = absurd cc
      without false u e = refl

  pub some_same : (same : ℕ) → length text ≡ length marks
      → (k * 64 + suc i < length text → has_bit same i ≡ (get_or text (k * 64 + i) 0 == get_or text (k * 64 + suc i) 0))
      → has_bit (bit_and (bit_and here after) same) i ≡ is_same_as_next text marks (k * 64 + i)
  some_same same long is =
      has_bit_and (bit_and here after) same i ∙ ap (λ t. t && has_bit same i) both_bits ∙ elim (cases_lt (k * 64 + suc i) (length text)) [
        | inl inside ↦ ap (λ t. (flag_at marks (k * 64 + i) && flag_at marks (suc (k * 64 + i))) && t)
            (is inside ∙ ap (λ n. get_or text (k * 64 + i) 0 == get_or text n 0) (let e : k * 64 + suc i ≡ suc (k * 64 + i) = omega arith in e))
        | inr past ↦
            let none : flag_at marks (suc (k * 64 + i)) ≡ false = get_or_past marks (suc (k * 64 + i)) false (omega arith) in
            ap (λ t. (flag_at marks (k * 64 + i) && t) && has_bit same i) none
            ∙ cut (flag_at marks (k * 64 + i)) (has_bit same i) (get_or text (k * 64 + i) 0 == get_or text (suc (k * 64 + i)) 0)
            ∙ sym (ap (λ t. (flag_at marks (k * 64 + i) && t) && (get_or text (k * 64 + i) 0 == get_or text (suc (k * 64 + i)) 0)) none)
      ]
    where
      cut : (t u v : Bool) → ((t && false) && u) ≡ ((t && false) && v)
      cut true u v = refl
      cut false u v = refl

-- ---- past the end

pub same_past : (text : List ℕ) (marks : List Bool) (n : ℕ) → length marks ≤ n → is_same_as_next text marks n ≡ false
same_past text marks n past =
    ap (λ t. (t && flag_at marks (suc n)) && (get_or text n 0 == get_or text (suc n) 0)) (get_or_past marks n false past)

pub joined_past : (letters : List ℕ) (same marks : List Bool) (n : ℕ) → length marks ≤ n → is_joined letters same marks n ≡ false
joined_past letters same marks n past =
    ap (λ t. (t && flag_before same n) && is_joining (get_or letters n 0)) (get_or_past marks n false past)

pub middle_past : (same : List Bool) (n : ℕ) → length same ≤ n → (flag_before same n && flag_at same n) ≡ false
middle_past same n past = ap (λ t. flag_before same n && t) (get_or_past same n false past) ∙ and_false (flag_before same n)

pub kept_past : (middle marks : List Bool) (n : ℕ) → length marks ≤ n → (flag_at marks n && not (is_in_separator middle n)) ≡ false
kept_past middle marks n past = ap (λ t. t && not (is_in_separator middle n)) (get_or_past marks n false past)

-- ---- offset by offset

pub same_at : (text : List ℕ) (marks : List Bool) (n : ℕ) → flag_at (same_as_next text marks) n ≡ is_same_as_next text marks n
same_at text marks n = elim (cases_lt n (length marks)) [
  | inl inside ↦ flag_at-listed (is_same_as_next text marks) (length marks) n inside
  | inr past ↦
      get_or_past (same_as_next text marks) n false (omega (arith, length-listed (is_same_as_next text marks) (length marks)))
      ∙ sym (same_past text marks n past)
]

pub middle_at : (same : List Bool) (n : ℕ) → flag_at (middles same) n ≡ is_middle same n
middle_at same n = elim (cases_lt n (length same)) [
  | inl inside ↦ flag_at-listed (is_middle same) (length same) n inside
  | inr past ↦
      get_or_past (middles same) n false (omega (arith, length-listed (is_middle same) (length same))) ∙ sym (middle_past same n past)
]

pub kept_at : (middle marks : List Bool) (n : ℕ) → flag_at (kept_by middle marks) n ≡ (flag_at marks n && not (is_in_separator middle n))
kept_at middle marks n = elim (cases_lt n (length marks)) [
  | inl inside ↦ flag_at-listed (λ k. flag_at marks k && not (is_in_separator middle k)) (length marks) n inside
  | inr past ↦
      get_or_past (kept_by middle marks) n false (omega (arith, length-listed (λ k. flag_at marks k && not (is_in_separator middle k)) (length marks)))
      ∙ sym (kept_past middle marks n past)
]

pub joined_at : (letters : List ℕ) (marks : List Bool) (n : ℕ) → flag_at (joined_marks letters marks) n ≡ is_joined letters (same_as_next letters marks) marks n
joined_at letters marks n = elim (cases_lt n (length marks)) [
  | inl inside ↦ flag_at-listed (is_joined letters (same_as_next letters marks) marks) (length marks) n inside
  | inr past ↦
      get_or_past (joined_marks letters marks) n false
      (omega (arith, length-listed (is_joined letters (same_as_next letters marks) marks) (length marks)))
      ∙ sym (joined_past letters (same_as_next letters marks) marks n past)
]

pub length-kept : (separators : Bool) (bytes : List ℕ) (marks : List Bool)
    → length (if separators then without_separators bytes marks else marks) ≡ length marks
length-kept true bytes marks = length-listed (λ k. flag_at marks k && not (is_in_separator (middles (same_as_next bytes marks)) k)) (length marks)
length-kept false bytes marks = refl

-- ---- marks that are joined are cells

module _ (letters : List ℕ) (word marks : List Bool) (long : length marks ≡ length word) (apart : (k : ℕ) → (flag_at word k && flag_at marks k) ≡ false) where
  pub joined_are_cells : AreCells word marks (joined_marks letters marks)
  joined_are_cells = record {
    within = long;
    apart = apart;
    none_first = joined_at letters marks 0 ∙ ap (λ t. t && is_joining (get_or letters 0 0)) (and_false (flag_at marks 0));
    is_mark = λ k set. (and_parts _ _ (and_parts _ _ (sym (joined_at letters marks k) ∙ set)).0).0;
    after_mark = λ k set.
        let same = (and_parts _ _ (and_parts _ _ (sym (joined_at letters marks (suc k)) ∙ set)).0).1 in
        (and_parts _ _ (and_parts _ _ (sym (same_at letters marks k) ∙ same)).0).0;
  }
