-- A character as it is in a field.
use Rattle.std.proofs.Common.{◌≡◌, ℕ, suc, ◌<◌, ◌≤◌, List, [], ◌∷◌, ◌++◌, length, get_or, encode_utf8, refl, sym, ap, ◌∙◌, append-nil, ⊎_elim, arith}
use Rattle.std.proofs.lemmas.Grind.{flat_map-append}
use Rattle.std.proofs.Math.Utf8.{encodes}
use Rattle.std.proofs.lemmas.Str.{encode_ascii, encodes-append, inside_one}
use Rattle.std.proofs.lemmas.Bool.{cases_lt}
use Rattle.std.proofs.lemmas.Bool.Decides.{nat_tests}
use Rattle.lic_fields.specs.Fields.{escaped_byte, escaped}

-- an ASCII character is one byte
pub escaped-ascii : (c : ℕ) → c < 128 → escaped (encode_utf8 c) ≡ escaped_byte c
escaped-ascii c small = ap escaped (encode_ascii c small) ∙ append-nil (escaped_byte c)

byte-other : (b : ℕ) → 128 ≤ b → escaped_byte b ≡ b ∷ []
byte-other b large = grind (arith, nat_tests)

-- bytes beyond ASCII stay as they are
bytes-other : (bytes : List ℕ) → ((k : ℕ) → k < length bytes → 128 ≤ get_or bytes k 0) → escaped bytes ≡ bytes
bytes-other [] large = refl
bytes-other (b ∷ bytes) large =
    let first : escaped_byte b ≡ b ∷ [] = byte-other b (large 0 (omega arith)) in
    let others : escaped bytes ≡ bytes = bytes-other bytes (λ k within. large (suc k) (omega arith)) in
    ap (λ l. l ++ escaped bytes) first ∙ ap (λ l. b ∷ l) others

-- no byte of a character beyond ASCII is one of ASCII
bytes-large : (c k : ℕ) → 128 ≤ c → k < length (encode_utf8 c) → 128 ≤ get_or (encode_utf8 c) k 0
bytes-large c k large within = ⊎_elim
    (λ small.
    let same : c ≡ get_or (encode_utf8 c) k 0 = inside_one c [] (encode_utf8 c) k (sym (append-nil (encode_utf8 c))) within small in
    omega arith)
    (λ here. here)
    (cases_lt (get_or (encode_utf8 c) k 0) 128)

pub escaped-other : (c : ℕ) → 128 ≤ c → escaped (encode_utf8 c) ≡ encode_utf8 c
escaped-other c large = bytes-other (encode_utf8 c) (λ k within. bytes-large c k large within)

-- one character more
pub escaped-push : (cs : List ℕ) (c : ℕ) (text : List ℕ) → escaped (encode_utf8 c) ≡ text
    → escaped (encodes cs) ++ text ≡ escaped (encodes (cs ++ c ∷ []))
escaped-push cs c text is =
    ap (λ l. escaped (encodes cs) ++ l) (sym is)
    ∙ sym (flat_map-append escaped_byte (encodes cs) (encode_utf8 c))
    ∙ ap (λ l. escaped (encodes cs ++ l)) (sym (append-nil (encode_utf8 c)))
    ∙ ap escaped (sym (encodes-append cs (c ∷ [])))
