-- The characters that mean something in a pattern.
use Rattle.std.specs.Prelude.{ℕ}

abbrev pub dollar : ℕ
dollar = 0x24

abbrev pub open_paren : ℕ
open_paren = 0x28

abbrev pub close_paren : ℕ
close_paren = 0x29

abbrev pub star : ℕ
star = 0x2A

abbrev pub plus : ℕ
plus = 0x2B

abbrev pub comma : ℕ
comma = 0x2C

abbrev pub dash : ℕ
dash = 0x2D

abbrev pub dot : ℕ
dot = 0x2E

abbrev pub colon : ℕ
colon = 0x3A

abbrev pub equals : ℕ
equals = 0x3D

abbrev pub question_mark : ℕ
question_mark = 0x3F

abbrev pub open_bracket : ℕ
open_bracket = 0x5B

abbrev pub backslash : ℕ
backslash = 0x5C

abbrev pub close_bracket : ℕ
close_bracket = 0x5D

abbrev pub caret : ℕ
caret = 0x5E

abbrev pub open_brace : ℕ
open_brace = 0x7B

abbrev pub vertical_bar : ℕ
vertical_bar = 0x7C

abbrev pub close_brace : ℕ
close_brace = 0x7D
