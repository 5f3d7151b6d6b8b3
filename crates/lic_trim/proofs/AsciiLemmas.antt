-- The source characters of bytes of ASCII.
use Rattle.std.proofs.Common.{◌≡◌, ℕ, suc, ◌+◌, List, [], ◌∷◌, length, refl, ap}
use Rattle.std.specs.Char.{len_utf8}
use Rattle.lic_trim.specs.Sources.{chars_of, placed}

pub length-placed : (at : ℕ) (bs : List ℕ) → length (placed at bs) ≡ length bs
length-placed at [] = refl
length-placed at (b ∷ bs) = ap suc (length-placed (at + len_utf8 b) bs)

pub chars_of-placed : (at : ℕ) (bs : List ℕ) → chars_of (placed at bs) ≡ bs
chars_of-placed at [] = refl
chars_of-placed at (b ∷ bs) = ap (λ l. b ∷ l) (chars_of-placed (at + len_utf8 b) bs)
