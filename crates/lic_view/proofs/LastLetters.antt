-- The letter that comes before a place of a text.
use Rattle.std.proofs.Common.{◌≡◌, ◌⊎◌, ℕ, ◌+◌, ◌-◌, ◌<◌, ◌≤◌, List, [], ◌∷◌, ◌++◌, length, take, drop, get_or, inl, inr, refl, sym, ap, ap₂, arith, subst, ◌∙◌, append_assoc, length-append}
use Rattle.std.specs.Char.{IsScalar}
use Rattle.std.specs.Str.{IsCharBoundary, IsUtf8}
use Rattle.std.proofs.Math.Utf8.{encode, encodes}
use Rattle.std.proofs.lemmas.Bool.{cases_lt}
use Rattle.std.proofs.lemmas.List.{take-append-drop, take_at, drop_at, drop-drop, length-take, length-drop}
use Rattle.std.proofs.lemmas.List.Edits.{get_or-between}
use Rattle.std.proofs.lemmas.Str.{IsCharBoundary-past_char, IsCharBoundary-start, IsUtf8-between, IsUtf8-drop, IsUtf8-encode, encode_same, length-encode, len_utf8_bounds}
use Rattle.lic_places.specs.Places.{Occurs}
use Rattle.lic_view.specs.LettersBefore.{IsLetterBefore}

letter-long : (c : ℕ) → 0 < length (encode c)
letter-long c = omega (arith, length-encode c, (len_utf8_bounds c).0)

-- what follows a place where bytes occur begins with them
pub occurs-drop : (bytes : List ℕ) (p : ℕ) (text : List ℕ) (q : ℕ) → Occurs bytes p text q → drop p bytes ≡ text ++ drop q bytes
occurs-drop bytes p text q occurs =
    let end : p + (q - p) ≡ q = omega (arith, occurs.0) in
    sym (take-append-drop (q - p) (drop p bytes))
    ∙ ap₂ (λ x y. x ++ y) occurs.1 (drop-drop (q - p) p bytes ∙ ap (λ n. drop n bytes) end)

-- letters that occur lie in the text
pub letter-within : (bytes : List ℕ) (place p c : ℕ) → IsLetterBefore bytes place p c → place ≤ length bytes
letter-within bytes place p c is =
    let long = letter-long c in
    let from = ap length (occurs-drop bytes p (encode c) place is.occurs) in
    let parts = length-append (encode c) (drop place bytes) in
    let first = length-drop p bytes in
    let second = length-drop place bytes in
    omega (arith, is.occurs.0)

-- a character begins where a letter is
pub letter-whole : (bytes : List ℕ) (place p c : ℕ) → IsLetterBefore bytes place p c → IsCharBoundary bytes p
letter-whole bytes place p c is = (
  omega (arith, is.occurs.0, within),
  λ below big. lead big,
)
  where
    within : place ≤ length bytes
    within = letter-within bytes place p c is

    first : get_or (encode c) 0 0 ≡ get_or bytes p 0
    first = let long = letter-long c in
        sym (ap (λ x. get_or x 0 0) is.occurs.1) ∙ (get_or-between bytes p place 0 0 (omega (arith, is.occurs.0)) ∙ ap (λ i. get_or bytes i 0) (omega arith))

    lead : 128 ≤ get_or bytes p 0 → 192 ≤ get_or bytes p 0
    lead big = let front = (IsCharBoundary-start (encode c) (IsUtf8-encode c is.scalar)).1 (letter-long c) (omega (arith, big, first)) in omega (arith, front, first)

-- and where it ends
pub letter-end : (bytes : List ℕ) (place p c : ℕ) → IsUtf8 bytes → IsLetterBefore bytes place p c → IsCharBoundary bytes place
letter-end bytes place p c utf8 is =
    let whole = letter-whole bytes place p c is in
    let end = IsCharBoundary-past_char bytes (drop place bytes) p c whole.0 (IsUtf8-drop bytes p utf8 whole) (occurs-drop bytes p (encode c) place is.occurs) in
    subst (λ x. IsCharBoundary bytes x) (ap (λ n. p + n) (sym (length-encode c)) ∙ sym is.occurs.0) end

-- one letter at most comes before a place
pub letter-one : (bytes : List ℕ) (place p c r d : ℕ) → IsUtf8 bytes → IsLetterBefore bytes place p c → IsLetterBefore bytes place r d → (p ≡ r) × (c ≡ d)
letter-one bytes place p c r d utf8 one other = by_order (cases_lt p r) (cases_lt r p)
  where
    -- the one that begins first is no longer than the other
    longer : (p c r d : ℕ) → IsLetterBefore bytes place p c → IsLetterBefore bytes place r d → p < r → ⊥
    longer p c r d one other below = by_chars between.0 between.1.1
      where
        between : IsUtf8 (take (r - p) (drop p bytes))
        between = IsUtf8-between bytes p r utf8 (omega arith) (letter-whole bytes place p c one) (letter-whole bytes place r d other)

        parts : encode c ++ drop place bytes ≡ take (r - p) (drop p bytes) ++ (encode d ++ drop place bytes)
        parts =
            let end : p + (r - p) ≡ r = omega arith in
            sym (occurs-drop bytes p (encode c) place one.occurs)
            ∙ sym (take-append-drop (r - p) (drop p bytes))
            ∙ ap (λ x. take (r - p) (drop p bytes) ++ x) (drop-drop (r - p) p bytes ∙ ap (λ n. drop n bytes) end ∙ occurs-drop bytes r (encode d) place other.occurs)

        long : 0 < length (take (r - p) (drop p bytes))
        long = let within = (letter-whole bytes place r d other).0 in
            let first = length-take (r - p) (drop p bytes) in
            let second = length-drop p bytes in
            omega arith

        by_chars : (cs : List ℕ) → encodes cs ≡ take (r - p) (drop p bytes) → ⊥
        by_chars [] is = let none = ap length is in omega (arith, long)
        by_chars (e ∷ es) is =
            let whole : encode c ++ drop place bytes ≡ encode e ++ (encodes es ++ (encode d ++ drop place bytes)) =
            parts ∙ ap (λ x. x ++ (encode d ++ drop place bytes)) (sym is) ∙ append_assoc (encode e) (encodes es) (encode d ++ drop place bytes) in
            let same = encode_same c e (drop place bytes) (encodes es ++ (encode d ++ drop place bytes)) whole in
            let lengths = ap length same.1 in
            let one_part = length-append (encodes es) (encode d ++ drop place bytes) in
            let other_part = length-append (encode d) (drop place bytes) in
            let some = letter-long d in
            omega arith

    by_order : (p < r) ⊎ (r ≤ p) → (r < p) ⊎ (p ≤ r) → (p ≡ r) × (c ≡ d)
    by_order (inl below) other_case = absurd (longer p c r d one other below)
    by_order (inr not) (inl below) = absurd (longer r d p c other one below)
    by_order (inr not) (inr none) =
        let same : p ≡ r = omega arith in
        let letters : encode c ++ drop place bytes ≡ encode d ++ drop place bytes =
        sym (occurs-drop bytes p (encode c) place one.occurs) ∙ ap (λ n. drop n bytes) same ∙ occurs-drop bytes r (encode d) place other.occurs in
        let letter = encode_same c d (drop place bytes) (drop place bytes) letters in
        (same, letter.0)

-- the last letter of what comes before a place
pub letter-found : (bytes front : List ℕ) (place c : ℕ) → place ≤ length bytes → IsScalar c → take place bytes ≡ front ++ encode c → IsLetterBefore bytes place (length front) c
letter-found bytes front place c within scalar came = record {
  scalar = scalar;
  occurs = (end, ap₂ take (omega (arith, end)) from ∙ take_at (encode c) (drop place bytes) (length (encode c)) refl);
}
  where
    end : place ≡ length front + length (encode c)
    end = let long = ap length came in let parts = length-append front (encode c) in let whole = length-take place bytes in omega arith

    from : drop (length front) bytes ≡ encode c ++ drop place bytes
    from = ap (drop (length front)) (sym (take-append-drop place bytes) ∙ ap (λ x. x ++ drop place bytes) came ∙ append_assoc front (encode c) (drop place bytes))
        ∙ drop_at front (encode c ++ drop place bytes) (length front) refl

-- none comes before the first one
pub letter-none : (bytes : List ℕ) (place p c : ℕ) → length (take place bytes) ≡ 0 → IsLetterBefore bytes place p c → ⊥
letter-none bytes place p c none is =
    let within = letter-within bytes place p c is in
    let whole = length-take place bytes in
    let long = letter-long c in
    omega (arith, is.occurs.0)
