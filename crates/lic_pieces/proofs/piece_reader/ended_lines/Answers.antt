use Rattle.std.proofs.Common.{◌≡◌, ℕ, zero, suc, List, [], ◌∷◌, refl, ap, sym, take, length, ◌∙◌}
use Rattle.std.proofs.lemmas.Str.{IsUtf8-from_ascii}
use Rattle.lic_pieces.proofs.piece_reader.ended_lines.Goals as goal

pub returns-then-is_ascii-clause-utf8 : goal.returns-then-is_ascii-clause-utf8
returns-then-is_ascii-clause-utf8 c = IsUtf8-from_ascii _ c.if-is_ascii.ensures.cases

start_of : (n : ℕ) (xs lines : List ℕ) → lines ≡ take n xs → lines ≡ take (length lines) xs
start_of n xs lines is = is ∙ by n xs ∙ ap (λ l. take (length l) xs) (sym is)
  where
    by : (n : ℕ) (xs : List ℕ) → take n xs ≡ take (length (take n xs)) xs
    by zero xs = refl
    by (suc n) [] = refl
    by (suc n) (x ∷ xs) = ap (λ l. x ∷ l) (by n xs)
