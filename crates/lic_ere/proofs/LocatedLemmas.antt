-- One character more of a pattern is read.
use Rattle.std.proofs.Common.{◌≡◌, ℕ, ◌+◌, List, [], ◌∷◌, ◌++◌, length, ap, sym, ◌∙◌, arith}
use Rattle.std.specs.Prelude.{chars}
use Rattle.std.specs.Str.{IsUtf8}
use Rattle.std.specs.Char.{encode_utf8, len_utf8}
use Rattle.std.proofs.lemmas.Str.{chars_past_char, chars-nil}
use Rattle.lic_ere.specs.Located.{located_from}

-- nothing is left
pub none_left : (offset : ℕ) (bs : List ℕ) → length bs ≡ 0 → length (located_from offset (chars bs)) ≡ 0
none_left offset [] none = ap (λ (cs : List ℕ). length (located_from offset cs)) chars-nil
none_left offset (b ∷ bs) none = absurd (omega (arith, none))

-- a character, and those after it
pub one_left : (offset next : ℕ) (bs rest : List ℕ) (c : ℕ) → IsUtf8 bs → bs ≡ encode_utf8 c ++ rest
    → next ≡ offset + len_utf8 c → located_from offset (chars bs) ≡ (offset, c) ∷ located_from next (chars rest)
one_left offset next bs rest c text came is =
    ap (located_from offset) (chars_past_char bs rest c text came) ∙ ap (λ (n : ℕ). (offset, c) ∷ located_from n (chars rest)) (sym is)
