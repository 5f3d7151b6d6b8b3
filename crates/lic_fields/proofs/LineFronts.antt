-- The front of a line: four bytes written over those that end a field.
use Rattle.std.proofs.Common.{◌≡◌, ℕ, ◌+◌, ◌-◌, ◌≤◌, List, [], ◌∷◌, ◌++◌, length, take, drop, sym, ap, ap₂, ◌∙◌, arith, append_assoc, drop-drop, length-append}
use Rattle.std.proofs.Math.Seq.{take-append_seam, drop-append_seam}
use Rattle.std.proofs.lemmas.List.{length-take-le, take-take, take_at}
use Rattle.std.proofs.lemmas.Simd.{put_chunk_is}
use Rattle.std.specs.Prelude.{decimal}
use Rattle.std.specs.Simd.Lanes.{put_chunk}
use Rattle.lic_fields.specs.Fields.{field}
use Rattle.lic_fields.specs.Fronts.{EndsField, IsKept}

-- four bytes written so that they end at `end`
pub four_put : (bytes four : List ℕ) (end : ℕ) → length four ≡ 4 → 4 ≤ end → end ≤ length bytes
    → put_chunk (end - 4) bytes four ≡ take (end - 4) bytes ++ (four ++ drop end bytes)
four_put bytes four end long low fits =
    put_chunk_is (end - 4) bytes four (omega (arith, long, low, fits))
    ∙ ap (λ l. take (end - 4) bytes ++ (four ++ l))
    (drop-drop (length four) (end - 4) bytes ∙ ap (λ n. drop n bytes) (omega (arith, long, low)))

-- four bytes in place of others
four_changed : (front old new after bytes : List ℕ) (end : ℕ) → length old ≡ 4 → bytes ≡ front ++ (old ++ after) → end ≡ length front + 4
    → take (end - 4) bytes ++ (new ++ drop end bytes) ≡ front ++ (new ++ after)
four_changed front old new after bytes end four is at =
    let before : end - 4 ≡ length front = omega (arith, at) in
    let past : end ≡ length (front ++ old) = at ∙ sym (length-append front old ∙ ap (λ n. length front + n) four) in
    ap₂ (λ x y. x ++ (new ++ y))
    (ap₂ take before is ∙ take-append_seam front (old ++ after))
    (ap₂ drop past (is ∙ sym (append_assoc front old after)) ∙ drop-append_seam (front ++ old) after)

-- a line's front, with what ends the fields of its numbers
module _ (line same first second : List ℕ) where
  abbrev pub fronted : List ℕ → List ℕ → List ℕ
  fronted a b = line ++ (same ++ ((first ++ a) ++ (second ++ b)))

  first_apart : (a b after : List ℕ) → fronted a b ++ after ≡ ((line ++ same) ++ first) ++ (a ++ ((second ++ b) ++ after))
  first_apart a b after =
      ap (λ l. l ++ after) (sym (append_assoc line same ((first ++ a) ++ (second ++ b))))
      ∙ (append_assoc (line ++ same) ((first ++ a) ++ (second ++ b)) after
      ∙ (ap (λ l. (line ++ same) ++ l) (append_assoc (first ++ a) (second ++ b) after ∙ append_assoc first a ((second ++ b) ++ after))
      ∙ sym (append_assoc (line ++ same) first (a ++ ((second ++ b) ++ after)))))

  second_apart : (a b after : List ℕ) → fronted a b ++ after ≡ (((line ++ same) ++ (first ++ a)) ++ second) ++ (b ++ after)
  second_apart a b after =
      ap (λ l. l ++ after) (sym (append_assoc line same ((first ++ a) ++ (second ++ b))) ∙ sym (append_assoc (line ++ same) (first ++ a) (second ++ b)))
      ∙ (append_assoc ((line ++ same) ++ (first ++ a)) (second ++ b) after
      ∙ (ap (λ l. ((line ++ same) ++ (first ++ a)) ++ l) (append_assoc second b after)
      ∙ sym (append_assoc ((line ++ same) ++ (first ++ a)) second (b ++ after))))

  pub first_changed : (old new b after bytes : List ℕ) (end : ℕ) → length old ≡ 4 → bytes ≡ fronted old b ++ after
      → end ≡ length line + (length same + (length first + 4)) → take (end - 4) bytes ++ (new ++ drop end bytes) ≡ fronted new b ++ after
  first_changed old new b after bytes end four is at =
      let one = length-append (line ++ same) first in
      let two = length-append line same in
      four_changed ((line ++ same) ++ first) old new ((second ++ b) ++ after) bytes end four (is ∙ first_apart old b after) (omega (arith, one, two, at))
      ∙ sym (first_apart new b after)

  pub second_changed : (a old new after bytes : List ℕ) (end : ℕ) → length a ≡ 4 → length old ≡ 4 → bytes ≡ fronted a old ++ after
      → end ≡ length line + (length same + (length first + 4 + (length second + 4)))
      → take (end - 4) bytes ++ (new ++ drop end bytes) ≡ fronted a new ++ after
  second_changed a old new after bytes end long four is at =
      let one = length-append ((line ++ same) ++ (first ++ a)) second in
      let two = length-append (line ++ same) (first ++ a) in
      let three = length-append line same in
      let last = length-append first a in
      four_changed (((line ++ same) ++ (first ++ a)) ++ second) old new after bytes end four (is ∙ second_apart a old after)
      (omega (arith, one, two, three, last, long, at))
      ∙ sym (second_apart a new after)

  pub fronted_long : (a b : List ℕ) → length a ≡ 4 → length b ≡ 4
      → length (fronted a b) ≡ length line + (length same + (length first + 4 + (length second + 4)))
  fronted_long a b one two =
      let all = length-append line (same ++ ((first ++ a) ++ (second ++ b))) in
      let rest = length-append same ((first ++ a) ++ (second ++ b)) in
      let both = length-append (first ++ a) (second ++ b) in
      let x = length-append first a in
      let y = length-append second b in
      omega (arith, all, rest, both, x, y, one, two)

-- two numbers as fields
pub numbers_long : (a b : List ℕ) → length (field a 0x09 ++ field b 0x09) ≡ length a + 1 + (length b + 1)
numbers_long a b =
    length-append (field a 0x09) (field b 0x09)
    ∙ ap₂ (λ x y. x + y) (length-append a (0x09 ∷ [])) (length-append b (0x09 ∷ []))

-- the bytes that are the same in all stay where numbers are written after them
module _ (old bytes : List ℕ) (same len one two : ℕ) (within : same ≤ length old) (fits : len ≤ length bytes)
    (written : take len bytes ≡ take same old ++ (field (decimal one) 0x09 ++ field (decimal two) 0x09)) where
  written_long : len ≡ same + (length (decimal one) + 1 + (length (decimal two) + 1))
  written_long =
      sym (length-take-le len bytes fits) ∙ (ap length written
      ∙ (length-append (take same old) (field (decimal one) 0x09 ++ field (decimal two) 0x09)
      ∙ ap₂ (λ x y. x + y) (length-take-le same old within) (numbers_long (decimal one) (decimal two))))

  pub same_stays : take same bytes ≡ take same old
  same_stays =
      sym (take-take same len bytes (omega (arith, written_long))) ∙ (ap (take same) written
      ∙ take_at (take same old) (field (decimal one) 0x09 ++ field (decimal two) 0x09) same (length-take-le same old within))

  pub kept_of : (first_end : ℕ) (first first_four second_four : List ℕ) → EndsField first first_four one → EndsField first second_four two
      → first_end ≡ same + (length (decimal one) + 1) → len ≤ same + 42 → same + 170 ≤ length bytes → IsKept bytes same first_end len first
  kept_of first_end first first_four second_four first_is second_is end_is end_fits enough =
      let long : length (decimal one) + 1 ≡ length first + 4 =
      sym (length-append (decimal one) (0x09 ∷ [])) ∙ (ap length first_is.1
      ∙ (length-append first first_four ∙ ap (λ n. length first + n) first_is.0)) in
      record {
        first_four = first_four;
        second_four = second_four;
        first_long = first_is.0;
        second_long = second_is.0;
        bytes_are = written ∙ ap₂ (λ s n. s ++ n) (sym same_stays) (ap₂ (λ x y. x ++ y) first_is.1 second_is.1);
        end_is = omega (arith, end_is, long);
        end_fits = end_fits;
        enough = enough;
      }

-- where the two numbers that are kept end
pub kept_end : (bytes : List ℕ) (same first_end len : ℕ) (first : List ℕ) → IsKept bytes same first_end len first
    → len ≡ first_end + (length first + 4)
kept_end bytes same first_end len first kept =
    let all = sym (length-take-le len bytes (omega (arith, kept.end_fits, kept.enough))) ∙ ap length kept.bytes_are in
    let start = length-take-le same bytes (omega (arith, kept.enough)) in
    let whole = fronted_long [] (take same bytes) first first kept.first_four kept.second_four kept.first_long kept.second_long in
    omega (arith, all, start, whole, kept.end_is)
