-- Bytes that a field has as they are.
use Rattle.std.proofs.Common.{◌≡◌, ℕ, zero, ◌+◌, ◌-◌, ◌<◌, ◌≤◌, Bool, true, false, ◌||◌, List, [], ◌∷◌, ◌++◌, length, take, drop, get_or, refl, sym, subst, ap, ◌∙◌, true≢false, arith, drop-drop, length-drop}
use Rattle.std.proofs.lemmas.List.Elements.{All-append, All-more, All-tail}
use Rattle.std.proofs.Math.Seq.{take-add}
use Rattle.std.proofs.lemmas.List.{get_or-drop}
use Rattle.std.specs.List.{slice_range}
use Rattle.lic_fields.specs.Fields.{ArePlain, escaped_byte, escaped}

pub first-false : (a b : Bool) → (a || b) ≡ false → a ≡ false
first-false false b none = refl
first-false true b none = none

pub second-false : (a b : Bool) → (a || b) ≡ false → b ≡ false
second-false false b none = none
second-false true b none = absurd (true≢false none)

pub plain-stay : (bytes : List ℕ) → ArePlain bytes → escaped bytes ≡ bytes
plain-stay [] plain = refl
plain-stay (b ∷ bytes) plain =
    ap (λ l. l ++ escaped bytes) (plain zero 0 (omega arith))
    ∙ ap (λ l. b ∷ l) (plain-stay bytes (All-tail (λ x. escaped_byte x ≡ x ∷ []) b bytes plain))

-- a range, and what comes after it
pub range_more : (bytes : List ℕ) (from at more : ℕ) → from ≤ at
    → slice_range bytes from (at + more) ≡ slice_range bytes from at ++ take more (drop at bytes)
range_more bytes from at more order =
    let long : at + more - from ≡ at - from + more = omega (arith, order) in
    let start : from + (at - from) ≡ at = omega (arith, order) in
    ap (λ n. take n (drop from bytes)) long
    ∙ (take-add (at - from) more (drop from bytes)
    ∙ ap (λ l. slice_range bytes from at ++ take more l) (drop-drop (at - from) from bytes ∙ ap (λ n. drop n bytes) start))

-- a range of plain bytes, and some more
pub plain_more : (bytes : List ℕ) (from at more : ℕ) → from ≤ at → ArePlain (slice_range bytes from at) → ArePlain (take more (drop at bytes))
    → ArePlain (slice_range bytes from (at + more))
plain_more bytes from at more order plain next =
    subst ArePlain (sym (range_more bytes from at more order))
    (All-append (λ b. escaped_byte b ≡ b ∷ []) (slice_range bytes from at) (take more (drop at bytes)) plain next)

-- and one more
pub plain_one : (bytes : List ℕ) (from at : ℕ) → from ≤ at → at < length bytes → ArePlain (slice_range bytes from at)
    → escaped_byte (get_or bytes at 0) ≡ get_or bytes at 0 ∷ [] → ArePlain (slice_range bytes from (at + 1))
plain_one bytes from at order within plain next =
    let start : from + (at - from) ≡ at = omega (arith, order) in
    let long : at - from + 1 ≡ at + 1 - from = omega (arith, order) in
    let one : get_or (drop from bytes) (at - from) 0 ≡ get_or bytes at 0 = get_or-drop from bytes (at - from) 0 ∙ ap (λ n. get_or bytes n 0) start in
    let few : length (drop from bytes) ≡ length bytes - from = length-drop from bytes in
    subst (λ n. ArePlain (take n (drop from bytes))) long
    (All-more (λ b. escaped_byte b ≡ b ∷ []) (drop from bytes) (at - from) 0 (omega (arith, few, order, within)) plain
    (subst (λ b. escaped_byte b ≡ b ∷ []) (sym one) next))
