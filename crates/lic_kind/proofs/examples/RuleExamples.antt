-- Rules files: the profile as a file, and known lines with what they say or what is wrong with them.
use Rattle.std.specs.Prelude.{◌≡◌, ℕ, false, List, [], ◌∷◌, ◌++◌, codes, refl, Some, None}
use Rattle.std.specs.Str.{chars}
use Rattle.lic_kind.specs.LineRules.{profile, Lead, LeadSpace, TailSpace}
use Rattle.lic_kind.specs.RuleFiles.{comment, text, items, unknown, line_of, lines_of, rules_in, cause_at}
use Rattle.lic_kind.specs.declared.rules_fault.RulesCause.TheVariants.{BadText}

-- the file of the profile gives the profile
profile_file : List ℕ
profile_file =
    codes "# The line rules that licscan follows where it is given no file. A file takes the place of all of them.\n"
    ++ codes "\n"
    ++ codes "# Comment marks at the beginning of a line.\n"
    ++ codes "lead //\n"
    ++ codes "lead ///\n"
    ++ codes "lead /*\n"
    ++ codes "lead */\n"
    ++ codes "lead *\n"
    ++ codes "lead #\n"
    ++ codes "lead %\n"
    ++ codes "lead ;\n"
    ++ codes "lead !\n"
    ++ codes "lead |\n"
    ++ codes "lead >\n"
    ++ codes "lead --\n"
    ++ codes "lead ::\n"
    ++ codes "lead <!--\n"
    ++ codes "lead {-\n"
    ++ codes "lead -}\n"
    ++ codes "lead (*\n"
    ++ codes "lead *)\n"
    ++ codes "lead .\\\"\n"
    ++ codes "lead '\\\"\n"
    ++ codes "\n"
    ++ codes "# Words at the beginning of a line that mark a comment, with white space following them.\n"
    ++ codes "lead-space dnl\n"
    ++ codes "lead-space REM\n"
    ++ codes "\n"
    ++ codes "# The end of a comment, with one star or more.\n"
    ++ codes "tail-repeat */\n"
    ++ codes "\n"
    ++ codes "# Other ends of comments.\n"
    ++ codes "tail -->\n"
    ++ codes "tail *)\n"
    ++ codes "tail -}\n"
    ++ codes "\n"
    ++ codes "# Edges of boxes at a line's end, with white space before them.\n"
    ++ codes "tail-space *\n"
    ++ codes "tail-space #\n"
    ++ codes "tail-space |\n"
    ++ codes "\n"
    ++ codes "# List items are taken, and rows of one mark are separators.\n"
    ++ codes "items on\n"
    ++ codes "separators on\n"

profile_as_file : rules_in (lines_of profile_file) ≡ profile
unfolding chars profile_file
profile_as_file = refl

blank_line : line_of (codes " \t") ≡ comment
unfolding chars
blank_line = refl

comment_line : line_of (codes "  # lead //") ≡ comment
unfolding chars
comment_line = refl

text_line : line_of (codes "  lead   @@ \r") ≡ text Lead (Some (codes "@@"))
unfolding chars
text_line = refl

hash_text : line_of (codes "tail-space #") ≡ text TailSpace (Some (codes "#"))
unfolding chars
hash_text = refl

missing_text : line_of (codes "lead-space") ≡ text LeadSpace None
unfolding chars
missing_text = refl

two_words : line_of (codes "lead a b") ≡ text Lead None
unfolding chars
two_words = refl

items_off : line_of (codes "items off") ≡ items false
unfolding chars
items_off = refl

other_switch : line_of (codes "items maybe") ≡ unknown
unfolding chars
other_switch = refl

switch_of_two_words : line_of (codes "separators off off") ≡ unknown
unfolding chars
switch_of_two_words = refl

other_case : line_of (codes "Lead //") ≡ unknown
unfolding chars
other_case = refl

last_switch_counts : (rules_in (lines_of (codes "items off\nitems on\nitems off\nlead x"))).items ≡ false
unfolding chars
last_switch_counts = refl

-- a soft hyphen within a text
dropped_character : cause_at (lines_of (codes "items on\nlead a" ++ 0xC2 ∷ 0xAD ∷ [])) 1 ≡ Some BadText
unfolding chars
dropped_character = refl

sixteen : cause_at (lines_of (codes "lead 0123456789abcdef")) 0 ≡ None
unfolding chars
sixteen = refl

seventeen : cause_at (lines_of (codes "lead 0123456789abcdefg")) 0 ≡ Some BadText
unfolding chars
seventeen = refl
