-- The characters that mean something in markup.
use Rattle.std.specs.Prelude.{ℕ}

abbrev pub new_line : ℕ
new_line = 0x0A

abbrev pub blank : ℕ
blank = 0x20

abbrev pub double_quote : ℕ
double_quote = 0x22

abbrev pub semicolon : ℕ
semicolon = 0x3B

abbrev pub less : ℕ
less = 0x3C

abbrev pub equals : ℕ
equals = 0x3D

abbrev pub greater : ℕ
greater = 0x3E

abbrev pub backslash : ℕ
backslash = 0x5C
