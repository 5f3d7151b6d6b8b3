-- How the pieces of a template lie in its lines. A U+000A inside a rule neither ends nor begins a line.
use Rattle.std.specs.Prelude.{ℕ, ◌==◌, ◌&&◌, ◌||◌, Bool, true, false, List, [], ◌∷◌, if◌then◌else◌}
use Rattle.std.specs.Char.{is_whitespace}
use Rattle.lic_kind.specs.Kinds.{is_dropped}
use Rattle.lic_pieces.specs.declared.pieces.Next.{Next}
use Rattle.lic_pieces.specs.declared.pieces.Next.TheVariants as next
use Rattle.lic_ere.specs.Located.{Located}
use Rattle.lic_elements.specs.Signs.{new_line}
use Rattle.lic_elements.specs.Rules.{variable, begin, finish}
use Rattle.lic_elements.specs.Elements.{Element, text, rule, refused}

-- white space, or a dropped character, which counts as such here
abbrev pub is_space : ℕ → Bool
is_space c = is_whitespace c || is_dropped c

-- Only white space is between the start of a line and the end of these characters, where `so_far` says so of
-- what is before them.
abbrev pub at_line_start : Bool → List Located → Bool
at_line_start so_far [] = so_far
at_line_start so_far (x ∷ rest) = at_line_start (x.1 == new_line || (so_far && is_space x.1)) rest

-- Only white space is from here to the end of the line, where `following` says so of what follows the characters.
abbrev pub line_ends : Bool → List Located → Bool
line_ends following [] = following
line_ends following (x ∷ rest) = x.1 == new_line || (is_space x.1 && line_ends following rest)

-- the same across a piece, or an optional rule; a variable is no white space, and after a refused rule is nothing
abbrev pub line_ends_at : Bool → Element → Bool
line_ends_at following (text piece) = line_ends following piece
line_ends_at following (rule (variable name original offset pattern)) = false
line_ends_at following (rule (begin offset)) = following
line_ends_at following (rule (finish offset)) = following
line_ends_at following (refused e) = following

-- from these elements on only white space and optional rules are to the end of the line
abbrev pub line_ends_in : List Element → Bool
line_ends_in [] = true
line_ends_in (e ∷ rest) = line_ends_at (line_ends_in rest) e

-- what an element counts as, if the line continues from it
abbrev pub counts_as : Element → Next
counts_as (rule (variable name original offset pattern)) = next.Var
counts_as _ = next.Optional

-- what follows in the line before these elements
abbrev pub next_of : List Element → Next
next_of [] = next.LineEnd
next_of (e ∷ rest) = if line_ends_at (line_ends_in rest) e then next.LineEnd else counts_as e

-- each element with what follows it in its line
abbrev pub with_next : List Element → List (Element × Next)
with_next [] = []
with_next (e ∷ rest) = (e, next_of rest) ∷ with_next rest

-- the last character is a U+000A
abbrev pub ends_line : List Located → Bool
ends_line [] = false
ends_line (x ∷ []) = x.1 == new_line
ends_line (x ∷ y ∷ rest) = ends_line (y ∷ rest)

-- what follows a piece in its last line: nothing where the piece ends that line
abbrev pub next_after : List Located → Next → Next
next_after piece follows = if ends_line piece then next.LineEnd else follows
