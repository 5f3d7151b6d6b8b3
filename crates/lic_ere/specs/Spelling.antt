-- How bounds, brackets and lexemes are spelled, apart from how they are read: `.. cs rest ..` says that the characters cs begin so and
-- continue with rest.
use Rattle.std.specs.Prelude.{◌≡◌, ◌≢◌, ℕ, ◌<◌, ◌≤◌, Bool, true, false, ◌&&◌, not, ◌==◌, List, [], ◌∷◌, ◌++◌, ◌⊎◌, length, map, Some, None}
use Rattle.std.specs.List.{AllByRecursion}
use Rattle.std.specs.Char.{is_ascii_digit, is_ascii_punctuation}
use Rattle.std.specs.Str.Parse.{digits_value}
use Rattle.lic_ere.specs.declared.lexeme.bounds.Bounds.{Bounds}
use Rattle.lic_ere.specs.Signs.{dollar, open_paren, close_paren, star, plus, comma, dash, dot, colon, equals, question_mark, open_bracket, backslash, close_bracket, caret, open_brace, vertical_bar, close_brace}
use Rattle.lic_ere.specs.declared.class.Member.{Member}
use Rattle.lic_ere.specs.Sets.{Brackets}
use Rattle.lic_ere.specs.Located.{Located}
use Rattle.lic_ere.specs.Bounds.{max_bound}
use Rattle.lic_ere.specs.Trees.{any, set, letters_tree}
use Rattle.lic_ere.specs.Lexemes.{bounds, Lexeme, unit, sign, opening, closing, bar, anchor}

-- one decimal digit or more, which write a number that is a bound
pub record IsNumber (cs rest : List Located) (m : ℕ) : Type 0 where
  pub text : List Located
  pub parts : cs ≡ text ++ rest
  pub some : 0 < length text
  pub digits : AllByRecursion (λ d. is_ascii_digit d.1 ≡ true) text
  pub value : m ≡ digits_value 10 (map (λ d. d.1) text)
  pub small : m ≤ max_bound

-- `m}`, `m,}` or `m,n}`
pub data IsBounds : List Located → List Located → Bounds → Type 0 where
  exactly : {cs rest : List Located} {end : Located} {m : ℕ} → IsNumber cs (end ∷ rest) m → end.1 ≡ close_brace
      → IsBounds cs rest (bounds m (Some m))
  at_least : {cs rest : List Located} {sep end : Located} {m : ℕ} → IsNumber cs (sep ∷ end ∷ rest) m → sep.1 ≡ comma
      → end.1 ≡ close_brace → IsBounds cs rest (bounds m None)
  between : {cs more rest : List Located} {sep end : Located} {m n : ℕ} → IsNumber cs (sep ∷ more) m → sep.1 ≡ comma
      → IsNumber more (end ∷ rest) n → m ≤ n → end.1 ≡ close_brace → IsBounds cs rest (bounds m (Some n))

-- `-`, and then a character that is no `]`
abbrev pub continues_as_range : List Located → Bool
continues_as_range [] = false
continues_as_range (hyphen ∷ []) = false
continues_as_range (hyphen ∷ y ∷ rest) = hyphen.1 == dash && not (y.1 == close_bracket)

-- `[` directly before `:`, `.` or `=`
pub data IsExtension : ℕ → List Located → Type 0 where
  extension : {c : ℕ} {next : Located} {rest : List Located} → c ≡ open_bracket
      → (next.1 ≡ colon) ⊎ ((next.1 ≡ dot) ⊎ (next.1 ≡ equals)) → IsExtension c (next ∷ rest)

-- a member is one character, or a range from one to another
pub data IsMember : List Located → List Located → Member → Type 0 where
  alone : {x : Located} {rest : List Located} → continues_as_range rest ≡ false → ¬ (IsExtension x.1 rest)
      → IsMember (x ∷ rest) rest (record { first = x.1; last = x.1 })
  range : {x hyphen y : Located} {rest : List Located} → hyphen.1 ≡ dash → y.1 ≢ close_bracket → x.1 ≤ y.1
      → ¬ (IsExtension y.1 rest) → IsMember (x ∷ hyphen ∷ y ∷ rest) rest (record { first = x.1; last = y.1 })

-- members up to the next `]`; a `]` that comes first is a member
pub data IsMembers : List Located → List Located → List Member → Type 0 where
  closed : {x : Located} {rest : List Located} → x.1 ≡ close_bracket → IsMembers (x ∷ rest) rest []
  further : {x : Located} {after more rest : List Located} {m : Member} {ms : List Member} → x.1 ≢ close_bracket
      → IsMember (x ∷ after) more m → IsMembers more rest ms → IsMembers (x ∷ after) rest (m ∷ ms)

pub data IsFirstMembers : List Located → List Located → List Member → Type 0 where
  members : {cs more rest : List Located} {m : Member} {ms : List Member} → IsMember cs more m → IsMembers more rest ms
      → IsFirstMembers cs rest (m ∷ ms)

-- what comes after a `[`
pub data IsBracket : List Located → List Located → Brackets → Type 0 where
  plain : {x : Located} {cs rest : List Located} {ms : List Member} → x.1 ≢ caret → IsFirstMembers (x ∷ cs) rest ms
      → IsBracket (x ∷ cs) rest (record { members = ms; complement = false })
  complement : {x : Located} {cs rest : List Located} {ms : List Member} → x.1 ≡ caret → IsFirstMembers cs rest ms
      → IsBracket (x ∷ cs) rest (record { members = ms; complement = true })

-- the signs that mean something outside of brackets
abbrev pub signs : List ℕ
signs = dot ∷ star ∷ plus ∷ question_mark ∷ open_brace ∷ open_paren ∷ close_paren ∷ vertical_bar ∷ open_bracket
    ∷ backslash ∷ caret ∷ dollar ∷ []

-- the lexeme that begins with a character: the characters after that one, and those after the lexeme
pub data IsLexeme : Located → List Located → List Located → Lexeme → Type 0 where
  any_letter : {x : Located} {rest : List Located} → x.1 ≡ dot → IsLexeme x rest rest (unit any)
  any_number : {x : Located} {rest : List Located} → x.1 ≡ star → IsLexeme x rest rest (sign (Some (bounds 0 None)))
  one_or_more : {x : Located} {rest : List Located} → x.1 ≡ plus → IsLexeme x rest rest (sign (Some (bounds 1 None)))
  one_or_none : {x : Located} {rest : List Located} → x.1 ≡ question_mark
      → IsLexeme x rest rest (sign (Some (bounds 0 (Some 1))))
  counted : {x : Located} {after rest : List Located} {b : Bounds} → x.1 ≡ open_brace → IsBounds after rest b
      → IsLexeme x after rest (sign (Some b))
  -- no pattern has a `{` without bounds
  uncounted : {x : Located} {rest : List Located} → x.1 ≡ open_brace
      → ((more : List Located) (b : Bounds) → IsBounds rest more b → ⊥) → IsLexeme x rest rest (sign None)
  opens : {x : Located} {rest : List Located} → x.1 ≡ open_paren → IsLexeme x rest rest opening
  closes : {x : Located} {rest : List Located} → x.1 ≡ close_paren → IsLexeme x rest rest closing
  divides : {x : Located} {rest : List Located} → x.1 ≡ vertical_bar → IsLexeme x rest rest bar
  bracket : {x : Located} {after rest : List Located} {b : Brackets} → x.1 ≡ open_bracket → IsBracket after rest b
      → IsLexeme x after rest (unit (set b))
  escaped : {x y : Located} {rest : List Located} → x.1 ≡ backslash → is_ascii_punctuation y.1 ≡ true
      → IsLexeme x (y ∷ rest) rest (unit (letters_tree y.1))
  -- a `^` that comes first
  begins : {x : Located} {rest : List Located} → x.1 ≡ caret → x.0 ≡ 0 → IsLexeme x rest rest anchor
  -- a `$` that comes last
  ends : {x : Located} → x.1 ≡ dollar → IsLexeme x [] [] anchor
  ordinary : {x : Located} {rest : List Located} → AllByRecursion (λ s. x.1 ≢ s) signs
      → IsLexeme x rest rest (unit (letters_tree x.1))

-- characters are lexemes one after another, each with the offset of its first character
pub data AreLexemes : List Located → List (ℕ × Lexeme) → Type 0 where
  no_lexeme : AreLexemes [] []
  one_lexeme : {x : Located} {after rest : List Located} {l : Lexeme} {ls : List (ℕ × Lexeme)}
      → IsLexeme x after rest l → AreLexemes rest ls → AreLexemes (x ∷ after) ((x.0, l) ∷ ls)
