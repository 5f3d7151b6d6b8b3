-- Lines and what is left of them: the cases of the line rules' table, and cases with expected values from an
-- independent program.
use Rattle.std.specs.Prelude.{◌≡◌, ℕ, List, [], ◌∷◌, ◌++◌, map, codes, refl}
use Rattle.lic_kind.specs.Kinds.{kind_of}
use Rattle.lic_trim.specs.Sources.{placed}
use Rattle.lic_kind.specs.LineRules.{profile}
use Rattle.lic_lines.specs.Cells.{Cell, Blank, Mark, Word, cells_of}

abbrev shown_cell : Cell → ℕ
shown_cell Blank = 0x20
shown_cell (Mark s) = s.char
shown_cell (Word s) = s.char

-- what is left of a text, each part that is taken as one blank
abbrev left : List ℕ → List ℕ
left text = map shown_cell (cells_of profile (placed 0 text))

comment_and_item : left (codes "// 1. Foo") ≡ codes "   Foo"
unfolding kind_of
comment_and_item = refl

box_edge : left (codes "/****") ≡ codes " "
unfolding kind_of
box_edge = refl

closer : left (codes "foo ***/") ≡ codes "foo "
unfolding kind_of
closer = refl

two_numbers : left (codes "1.2. Foo") ≡ codes "  Foo"
unfolding kind_of
two_numbers = refl

number_without_end : left (codes "1.2 Foo") ≡ codes "1.2 Foo"
unfolding kind_of
number_without_end = refl

four_digits : left (codes "1996. Foo") ≡ codes "1996. Foo"
unfolding kind_of
four_digits = refl

roman : left (codes "(iv) Foo") ≡ codes "  Foo"
unfolding kind_of
roman = refl

letter_alone : left (codes "a.") ≡ codes "a."
unfolding kind_of
letter_alone = refl

sign_without_space : left (codes "(c)2012") ≡ codes "(c)2012"
unfolding kind_of
sign_without_space = refl

markup_comment : left (codes "-- foo -->") ≡ codes " foo "
unfolding kind_of
markup_comment = refl

edge_without_space : left (codes "foo*") ≡ codes "foo*"
unfolding kind_of
edge_without_space = refl

sign_of_a_year : left (codes "(c) 2012 X") ≡ codes "(c) 2012 X"
unfolding kind_of
sign_of_a_year = refl

sign_as_item : left (codes "(c) the licensee") ≡ codes "  the licensee"
unfolding kind_of
sign_as_item = refl

item_before_a_tail : left (codes "1. */") ≡ codes "  "
unfolding kind_of
item_before_a_tail = refl

macro_comment_at_the_end : left (codes "REM\n") ≡ codes " "
unfolding kind_of
macro_comment_at_the_end = refl

line_1 : left (codes "1.2.3)  12) " ++ (0xD ∷ []) ++ codes "\n") ≡ codes "   12) "
unfolding kind_of
line_1 = refl

line_2 : left (codes "(1) 1.2345. (iv) rem *//*\n") ≡ codes "  1.2345. (iv) rem *//* "
unfolding kind_of
line_2 = refl

line_3 : left (codes "- a. <!--123: iv.   " ++ (0xD ∷ []) ++ codes "\n") ≡ codes "  a. <!--123: iv. "
unfolding kind_of
line_3 = refl

line_4 : left (codes "| (*viiiiii. (12) - foo***\n") ≡ codes " viiiiii. (12) - foo "
unfolding kind_of
line_4 = refl

line_5 : left (codes "%(c) >rem ") ≡ codes "   >rem "
unfolding kind_of
line_5 = refl

line_6 : left (codes "--REM/*#;**") ≡ codes " REM/*#;**"
unfolding kind_of
line_6 = refl

line_7 : left (codes "|<!-----(c) //\n") ≡ codes "   // "
unfolding kind_of
line_7 = refl

line_8 : left (codes " # " ++ (0x2500 ∷ []) ++ (0x2500 ∷ []) ++ (0x2500 ∷ []) ++ codes "\n") ≡ codes " "
unfolding kind_of
line_8 = refl

line_9 : left (codes "REM" ++ (0x9 ∷ []) ++ codes "\n") ≡ codes " "
unfolding kind_of
line_9 = refl

line_10 : left (codes "***dnl #- - '\\\"foofoo- \n") ≡ codes "   - '\\\"foofoo- "
unfolding kind_of
line_10 = refl

line_11 : left (codes "%*)/*(c) " ++ (0xD ∷ []) ++ codes "\n") ≡ codes " (c) "
unfolding kind_of
line_11 = refl

line_12 : left (codes "#1.  (c)" ++ (0x9 ∷ []) ++ codes " ####***---" ++ (0xD ∷ []) ++ codes "\n") ≡ codes "    (c) "
unfolding kind_of
line_12 = refl

line_13 : left (codes "123: " ++ (0x2022 ∷ []) ++ codes "  ///\n") ≡ codes "  " ++ (0x2022 ∷ []) ++ codes " "
unfolding kind_of
line_13 = refl

line_14 : left (codes "   12) (c) ##" ++ (0xD ∷ []) ++ codes "\n") ≡ codes "   (c) ## "
unfolding kind_of
line_14 = refl

line_15 : left (codes " */-**** * *\n") ≡ codes " - "
unfolding kind_of
line_15 = refl

line_16 : left ((0x2022 ∷ []) ++ codes " |/*%" ++ (0x2502 ∷ []) ++ codes "-->\n") ≡ codes "  |/*%" ++ (0x2502 ∷ []) ++ codes " "
unfolding kind_of
line_16 = refl

line_17 : left (codes "REMdnl.**/\n") ≡ codes "REMdnl. "
unfolding kind_of
line_17 = refl

line_18 : left (codes "- - |!(iv) --***12) | \n") ≡ codes "  - |!(iv) --***12) "
unfolding kind_of
line_18 = refl
