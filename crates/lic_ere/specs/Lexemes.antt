-- What a pattern is made of, read from left to right.
use Rattle.std.specs.Prelude.{ℕ, zero, suc, Bool, ◌&&◌, ◌||◌, ◌==◌, List, [], ◌∷◌, length, Option, Some, None, Result, Ok, Err, if◌then◌else◌}
use Rattle.std.specs.Char.{is_ascii_punctuation}
use Rattle.lic_ere.specs.declared.lexeme.bounds.Bounds.{Bounds}
use Rattle.lic_ere.specs.declared.fault.EreFault.{EreFault}
use Rattle.lic_ere.specs.declared.fault.EreCause.TheVariants.{UnknownEscape, EndsInBackslash, AnchorInside}
use Rattle.lic_ere.specs.Signs.{dollar, open_paren, close_paren, star, plus, dot, question_mark, open_bracket, backslash, caret, open_brace, vertical_bar}
use Rattle.lic_ere.specs.Trees.{Tree, any, set, letters_tree}
use Rattle.lic_ere.specs.Faults.{fault_at, ◌>>=◌}
use Rattle.lic_ere.specs.Located.{Located}
use Rattle.lic_ere.specs.Brackets.{bracket_at}
use Rattle.lic_ere.specs.Bounds.{bounds_at}

pub data Lexeme : Type 0 where
  -- a unit that is no group: `.`, a bracket, or a character
  unit : Tree → Lexeme
  -- a repetition sign, with its bounds where they can be read
  sign : Option Bounds → Lexeme
  opening : Lexeme
  closing : Lexeme
  bar : Lexeme
  -- the first `^` or the last `$`, which mean nothing
  anchor : Lexeme

abbrev pub bounds : ℕ → Option ℕ → Bounds
bounds min max = record { min = min; max = max }

-- `{` with its bounds, or without where they cannot be read
abbrev pub counted_sign : Option (Bounds × ℕ) → Lexeme × ℕ
counted_sign None = (sign None, 0)
counted_sign (Some b) = (sign (Some b.0), b.1)

-- `^` comes first or `$` last
abbrev pub means_nothing : Located → List Located → Bool
means_nothing x rest = (x.1 == caret && x.0 == 0) || (x.1 == dollar && length rest == 0)

abbrev pub anchor_at : Located → List Located → Result (Lexeme × ℕ) EreFault
anchor_at x rest = if means_nothing x rest then Ok (anchor, 0) else Err (fault_at x.0 AnchorInside)

-- after a `\`
abbrev pub escaped_at : ℕ → List Located → Result (Lexeme × ℕ) EreFault
escaped_at offset [] = Err (fault_at offset EndsInBackslash)
escaped_at offset (x ∷ rest) =
    if is_ascii_punctuation x.1 then Ok (unit (letters_tree x.1), 1) else Err (fault_at offset UnknownEscape)

-- the lexeme that begins with a character, and how many further characters it takes
unfoldable pub lexeme_at : Located → List Located → Result (Lexeme × ℕ) EreFault
lexeme_at x rest =
    if x.1 == dot then Ok (unit any, 0)
    else (if x.1 == star then Ok (sign (Some (bounds 0 None)), 0)
    else (if x.1 == plus then Ok (sign (Some (bounds 1 None)), 0)
    else (if x.1 == question_mark then Ok (sign (Some (bounds 0 (Some 1))), 0)
    else (if x.1 == open_brace then Ok (counted_sign (bounds_at rest))
    else (if x.1 == open_paren then Ok (opening, 0)
    else (if x.1 == close_paren then Ok (closing, 0)
    else (if x.1 == vertical_bar then Ok (bar, 0)
    else (if x.1 == open_bracket then (bracket_at x.0 rest >>= λ b. Ok (unit (set b.0), b.1))
    else (if x.1 == backslash then escaped_at x.0 rest
    else (if x.1 == caret || x.1 == dollar then anchor_at x rest
    else Ok (unit (letters_tree x.1), 0)))))))))))

-- lexemes with their offsets, up to the first offset at which none can be read, and the fault there
pub record Lexemes : Type 0 where
  pub found : List (ℕ × Lexeme)
  pub fault : Option EreFault

-- one lexeme, and those after the characters that it takes
abbrev pub and_then : ℕ → Result (Lexeme × ℕ) EreFault → (ℕ → Lexemes) → Lexemes
and_then offset (Ok l) others = let rest = others l.1 in record { found = (offset, l.0) ∷ rest.found; fault = rest.fault }
and_then offset (Err e) others = record { found = []; fault = Some e }

-- the lexemes of characters; those that the last lexeme takes are skipped
unfoldable pub lexemes : ℕ → List Located → Lexemes
lexemes skip [] = record { found = []; fault = None }
lexemes (suc skip) (x ∷ rest) = lexemes skip rest
lexemes zero (x ∷ rest) = and_then x.0 (lexeme_at x rest) (λ taken. lexemes taken rest)
