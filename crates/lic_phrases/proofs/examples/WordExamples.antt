-- Lists of equivalent words, computed: the expected values are those of an independent program.
use Rattle.std.specs.Prelude.{◌≡◌, ℕ, List, [], ◌∷◌, ◌++◌, codes, encode_utf8_all, refl, Some, None}
use Rattle.std.specs.Char.{encode_utf8}
use Rattle.std.specs.Str.{chars, is_utf8}
use Rattle.caseless.proofs.Computing.{caseless}
use Rattle.lic_kind.specs.Kinds.{kind_of, spell}
use Rattle.lic_phrases.specs.declared.fault.WordsCause.TheVariants.{EmptyPhrase, PhraseTooLong}
use Rattle.lic_phrases.specs.Rewriting.{Phrase}
use Rattle.lic_phrases.specs.WordLists.{first_fault, phrase_lines}
use Rattle.lic_phrases.proofs.WordsComputed.{words_computed}

-- a phrase with the spelling of its class
abbrev written : List (List ℕ) → List ℕ → Phrase
written texts spelling = record { texts = texts; spelling = spelling }

more_than_256_bytes : first_fault (codes "percent\nsublicense\nxxxxxxxxxxxxxxxxxxxxxxxxxxxxxxxxxxxxxxxxxxxxxxxxxxxxxxxxxxxxxxxxxxxxxxxxxxxxxxxxxxxxxxxxxxxxxxxxxxxxxxxxxxxxxxxxxxxxxxxxxxxxxxxxxx yyyyyyyyyyyyyyyyyyyyyyyyyyyyyyyyyyyyyyyyyyyyyyyyyyyyyyyyyyyyyyyyyyyyyyyyyyyyyyyyyyyyyyyyyyyyyyyyyyyyyyyyyyyyyyyyyyyyyyyyyyyyyy\n # a,b") ≡ Some (record { line = 3; cause = PhraseTooLong })
unfolding spell kind_of caseless encode_utf8 chars is_utf8
more_than_256_bytes = refl

nine_tokens : first_fault (codes "b c\nsublicense\nsub-license\nfoo bar,(c) b c d e f g h i,percent\n") ≡ Some (record { line = 4; cause = PhraseTooLong })
unfolding spell kind_of caseless encode_utf8 chars is_utf8
nine_tokens = refl

nine_tokens_after_an_address : first_fault (codes "per cent,per cent\nper cent,a-b,https://x\ncolor\n(c) b c d e f g h i,b c\n") ≡ Some (record { line = 4; cause = PhraseTooLong })
unfolding spell kind_of caseless encode_utf8 chars is_utf8
nine_tokens_after_an_address = refl

nothing_before_a_comma : first_fault (codes "a b,a b c,b c\n,a-b\npercent,sublicense,percent\n") ≡ Some (record { line = 2; cause = EmptyPhrase })
unfolding spell kind_of caseless encode_utf8 chars is_utf8
nothing_before_a_comma = refl

nothing_after_a_comma : first_fault (codes "sub license,colour\nb c,colour,\nsub license,a-b\nsub-license,colour\n") ≡ Some (record { line = 2; cause = EmptyPhrase })
unfolding spell kind_of caseless encode_utf8 chars is_utf8
nothing_after_a_comma = refl

nothing_between_commas : first_fault (codes "sub license\nb c,a b c\nsublicense,a b c,a b c\na b c,,a-b") ≡ Some (record { line = 4; cause = EmptyPhrase })
unfolding spell kind_of caseless encode_utf8 chars is_utf8
nothing_between_commas = refl

nine_tokens_with_a_sign : first_fault (codes "(c) b c d e f g h i\n") ≡ Some (record { line = 1; cause = PhraseTooLong })
unfolding spell kind_of caseless encode_utf8 chars is_utf8
nine_tokens_with_a_sign = refl

repeats_quotes_and_an_empty_line : words_computed (phrase_lines (codes "b c,b c,''\nsublicense,percent,percent\n\nsublicense,sub license\n")) ≡ (written (codes "b" ∷ codes "c" ∷ []) (codes "b c") ∷ written (codes "'" ∷ []) (codes "b c") ∷ written (codes "sublicense" ∷ []) (codes "sublicense") ∷ written (codes "percent" ∷ []) (codes "sublicense") ∷ written (codes "sub" ∷ codes "license" ∷ []) (codes "sublicense") ∷ [])
unfolding spell kind_of caseless encode_utf8 chars is_utf8
repeats_quotes_and_an_empty_line = refl

line_of_dropped_characters_first : words_computed (phrase_lines (encode_utf8_all (0x200B ∷ []) ++ codes "\npercent\n\ncolor,sub license")) ≡ (written (codes "percent" ∷ []) (codes "percent") ∷ written (codes "color" ∷ []) (codes "color") ∷ written (codes "sub" ∷ codes "license" ∷ []) (codes "color") ∷ [])
unfolding spell kind_of caseless encode_utf8 chars is_utf8
line_of_dropped_characters_first = refl

comment_after_a_dropped_character : words_computed (phrase_lines (codes "sublicense,foo bar\ncolor,color,a b\n" ++ encode_utf8_all (0xAD ∷ []) ++ codes "#x\nfoo - bar,b c\npercent,color\n")) ≡ (written (codes "sublicense" ∷ []) (codes "sublicense") ∷ written (codes "foo" ∷ codes "bar" ∷ []) (codes "sublicense") ∷ written (codes "color" ∷ []) (codes "color") ∷ written (codes "a" ∷ codes "b" ∷ []) (codes "color") ∷ written (codes "foo" ∷ codes "-" ∷ codes "bar" ∷ []) (codes "foo-bar") ∷ written (codes "b" ∷ codes "c" ∷ []) (codes "foo-bar") ∷ written (codes "percent" ∷ []) (codes "color") ∷ [])
unfolding spell kind_of caseless encode_utf8 chars is_utf8
comment_after_a_dropped_character = refl

unbroken_dashes_alone_are_one : words_computed (phrase_lines (codes "-- -,sublicense\nb c,sublicense\nsub license,sub-license\na b\nSS\n")) ≡ (written (codes "-" ∷ codes "-" ∷ []) (codes "--") ∷ written (codes "sublicense" ∷ []) (codes "--") ∷ written (codes "b" ∷ codes "c" ∷ []) (codes "--") ∷ written (codes "sub" ∷ codes "license" ∷ []) (codes "sub license") ∷ written (codes "sub" ∷ codes "-" ∷ codes "license" ∷ []) (codes "sub license") ∷ written (codes "a" ∷ codes "b" ∷ []) (codes "a b") ∷ written (codes "ss" ∷ []) (codes "ss") ∷ [])
unfolding spell kind_of caseless encode_utf8 chars is_utf8
unbroken_dashes_alone_are_one = refl

comment_and_blank_line : words_computed (phrase_lines (encode_utf8_all (0xAD ∷ []) ++ codes "#x\npercent\n  \npercent,sublicense,b c")) ≡ (written (codes "percent" ∷ []) (codes "percent") ∷ written (codes "sublicense" ∷ []) (codes "percent") ∷ written (codes "b" ∷ codes "c" ∷ []) (codes "percent") ∷ [])
unfolding spell kind_of caseless encode_utf8 chars is_utf8
comment_and_blank_line = refl

dropped_character_before_a_phrase : words_computed (phrase_lines (codes "sub license," ++ encode_utf8_all (0xAD ∷ []) ++ codes "of")) ≡ (written (codes "sub" ∷ codes "license" ∷ []) (codes "sub license") ∷ written (codes "of" ∷ []) (codes "sub license") ∷ [])
unfolding spell kind_of caseless encode_utf8 chars is_utf8
dropped_character_before_a_phrase = refl

case_and_white_space : words_computed (phrase_lines (codes "a-b,per cent,(c)\nfoo bar\na b\na b,a b,a  b\nFoo Bar,sub-license")) ≡ (written (codes "a" ∷ codes "-" ∷ codes "b" ∷ []) (codes "a-b") ∷ written (codes "per" ∷ codes "cent" ∷ []) (codes "a-b") ∷ written (codes "copyright" ∷ []) (codes "a-b") ∷ written (codes "foo" ∷ codes "bar" ∷ []) (codes "foo bar") ∷ written (codes "a" ∷ codes "b" ∷ []) (codes "a b") ∷ written (codes "sub" ∷ codes "-" ∷ codes "license" ∷ []) (codes "foo bar") ∷ [])
unfolding spell kind_of caseless encode_utf8 chars is_utf8
case_and_white_space = refl

sign_before_a_word : words_computed (phrase_lines (codes "a b c\n(c) x\nb c\npercent,a b")) ≡ (written (codes "a" ∷ codes "b" ∷ codes "c" ∷ []) (codes "a b c") ∷ written (codes "copyright" ∷ codes "x" ∷ []) (codes "copyright x") ∷ written (codes "b" ∷ codes "c" ∷ []) (codes "b c") ∷ written (codes "percent" ∷ []) (codes "percent") ∷ written (codes "a" ∷ codes "b" ∷ []) (codes "percent") ∷ [])
unfolding spell kind_of caseless encode_utf8 chars is_utf8
sign_before_a_word = refl

sequence_of_signs : words_computed (phrase_lines (codes "(c) (c),colour\na-b,a b\na b c,of")) ≡ (written (codes "copyright" ∷ []) (codes "copyright") ∷ written (codes "colour" ∷ []) (codes "copyright") ∷ written (codes "a" ∷ codes "-" ∷ codes "b" ∷ []) (codes "a-b") ∷ written (codes "a" ∷ codes "b" ∷ []) (codes "a-b") ∷ written (codes "a" ∷ codes "b" ∷ codes "c" ∷ []) (codes "a b c") ∷ written (codes "of" ∷ []) (codes "a b c") ∷ [])
unfolding spell kind_of caseless encode_utf8 chars is_utf8
sequence_of_signs = refl

address : words_computed (phrase_lines (codes "https://x,color,a b c\n")) ≡ (written (codes "http" ∷ codes ":" ∷ codes "/" ∷ codes "/" ∷ codes "x" ∷ []) (codes "http://x") ∷ written (codes "color" ∷ []) (codes "http://x") ∷ written (codes "a" ∷ codes "b" ∷ codes "c" ∷ []) (codes "http://x") ∷ [])
unfolding spell kind_of caseless encode_utf8 chars is_utf8
address = refl

line_of_a_tab : words_computed (phrase_lines (codes "per cent,per cent\n" ++ encode_utf8_all (0x9 ∷ []) ++ codes "\na-b,https://x,sub license\na b\na-b,foo bar\n")) ≡ (written (codes "per" ∷ codes "cent" ∷ []) (codes "per cent") ∷ written (codes "a" ∷ codes "-" ∷ codes "b" ∷ []) (codes "a-b") ∷ written (codes "http" ∷ codes ":" ∷ codes "/" ∷ codes "/" ∷ codes "x" ∷ []) (codes "a-b") ∷ written (codes "sub" ∷ codes "license" ∷ []) (codes "a-b") ∷ written (codes "a" ∷ codes "b" ∷ []) (codes "a b") ∷ written (codes "foo" ∷ codes "bar" ∷ []) (codes "a-b") ∷ [])
unfolding spell kind_of caseless encode_utf8 chars is_utf8
line_of_a_tab = refl

two_quotes : words_computed (phrase_lines (codes "'',a b,sub license\na b\na-b,a b")) ≡ (written (codes "'" ∷ []) (codes "'") ∷ written (codes "a" ∷ codes "b" ∷ []) (codes "'") ∷ written (codes "sub" ∷ codes "license" ∷ []) (codes "'") ∷ written (codes "a" ∷ codes "-" ∷ codes "b" ∷ []) (codes "'") ∷ [])
unfolding spell kind_of caseless encode_utf8 chars is_utf8
two_quotes = refl

comment_after_lines : words_computed (phrase_lines (codes "color,b c\nb c\n# c,sublicense,percent\na b c")) ≡ (written (codes "color" ∷ []) (codes "color") ∷ written (codes "b" ∷ codes "c" ∷ []) (codes "color") ∷ written (codes "a" ∷ codes "b" ∷ codes "c" ∷ []) (codes "a b c") ∷ [])
unfolding spell kind_of caseless encode_utf8 chars is_utf8
comment_after_lines = refl

folded_letters : words_computed (phrase_lines (codes "sublicense,sub license\nper cent,color,percent\nper cent,SS,(c)")) ≡ (written (codes "sublicense" ∷ []) (codes "sublicense") ∷ written (codes "sub" ∷ codes "license" ∷ []) (codes "sublicense") ∷ written (codes "per" ∷ codes "cent" ∷ []) (codes "per cent") ∷ written (codes "color" ∷ []) (codes "per cent") ∷ written (codes "percent" ∷ []) (codes "per cent") ∷ written (codes "ss" ∷ []) (codes "per cent") ∷ written (codes "copyright" ∷ []) (codes "per cent") ∷ [])
unfolding spell kind_of caseless encode_utf8 chars is_utf8
folded_letters = refl

capitals_join_lines : words_computed (phrase_lines (codes "a-b,colour\npercent,colour,sub license\n" ++ encode_utf8_all (0x200B ∷ []) ++ codes "\na b,Foo Bar,b c\n\n")) ≡ (written (codes "a" ∷ codes "-" ∷ codes "b" ∷ []) (codes "a-b") ∷ written (codes "colour" ∷ []) (codes "a-b") ∷ written (codes "percent" ∷ []) (codes "a-b") ∷ written (codes "sub" ∷ codes "license" ∷ []) (codes "a-b") ∷ written (codes "a" ∷ codes "b" ∷ []) (codes "a b") ∷ written (codes "foo" ∷ codes "bar" ∷ []) (codes "a b") ∷ written (codes "b" ∷ codes "c" ∷ []) (codes "a b") ∷ [])
unfolding spell kind_of caseless encode_utf8 chars is_utf8
capitals_join_lines = refl

comment_alone : words_computed (phrase_lines (codes "# c,a-b")) ≡ []
unfolding spell kind_of caseless encode_utf8 chars is_utf8
comment_alone = refl

address_with_blanks : words_computed (phrase_lines (codes "a b c,https :/ /,per cent\na b c d e f g h\nb c,a-b")) ≡ (written (codes "a" ∷ codes "b" ∷ codes "c" ∷ []) (codes "a b c") ∷ written (codes "http" ∷ codes ":" ∷ codes "/" ∷ codes "/" ∷ []) (codes "a b c") ∷ written (codes "per" ∷ codes "cent" ∷ []) (codes "a b c") ∷ written (codes "a" ∷ codes "b" ∷ codes "c" ∷ codes "d" ∷ codes "e" ∷ codes "f" ∷ codes "g" ∷ codes "h" ∷ []) (codes "a b c d e f g h") ∷ written (codes "b" ∷ codes "c" ∷ []) (codes "b c") ∷ written (codes "a" ∷ codes "-" ∷ codes "b" ∷ []) (codes "b c") ∷ [])
unfolding spell kind_of caseless encode_utf8 chars is_utf8
address_with_blanks = refl

eight_phrases : words_computed (phrase_lines (codes "a b c,foo bar\nSS\na-b,sub-license,per cent\na-b\nhttps :/ /,foo bar,b c")) ≡ (written (codes "a" ∷ codes "b" ∷ codes "c" ∷ []) (codes "a b c") ∷ written (codes "foo" ∷ codes "bar" ∷ []) (codes "a b c") ∷ written (codes "ss" ∷ []) (codes "ss") ∷ written (codes "a" ∷ codes "-" ∷ codes "b" ∷ []) (codes "a-b") ∷ written (codes "sub" ∷ codes "-" ∷ codes "license" ∷ []) (codes "a-b") ∷ written (codes "per" ∷ codes "cent" ∷ []) (codes "a-b") ∷ written (codes "http" ∷ codes ":" ∷ codes "/" ∷ codes "/" ∷ []) (codes "a b c") ∷ written (codes "b" ∷ codes "c" ∷ []) (codes "a b c") ∷ [])
unfolding spell kind_of caseless encode_utf8 chars is_utf8
eight_phrases = refl

comment_after_a_blank : words_computed (phrase_lines (codes " # a,b\na-b,colour\nsublicense,a b c,b c\n")) ≡ (written (codes "a" ∷ codes "-" ∷ codes "b" ∷ []) (codes "a-b") ∷ written (codes "colour" ∷ []) (codes "a-b") ∷ written (codes "sublicense" ∷ []) (codes "sublicense") ∷ written (codes "a" ∷ codes "b" ∷ codes "c" ∷ []) (codes "sublicense") ∷ written (codes "b" ∷ codes "c" ∷ []) (codes "sublicense") ∷ [])
unfolding spell kind_of caseless encode_utf8 chars is_utf8
comment_after_a_blank = refl

sharp_s_and_number_sign : words_computed (phrase_lines (encode_utf8_all (0xDF ∷ []) ++ codes ",#\ncolour\ncolour,colour,sub license\nfoo bar\n")) ≡ (written (codes "ss" ∷ []) (codes "ss") ∷ written (codes "#" ∷ []) (codes "ss") ∷ written (codes "colour" ∷ []) (codes "colour") ∷ written (codes "sub" ∷ codes "license" ∷ []) (codes "colour") ∷ written (codes "foo" ∷ codes "bar" ∷ []) (codes "foo bar") ∷ [])
unfolding spell kind_of caseless encode_utf8 chars is_utf8
sharp_s_and_number_sign = refl

number_sign_inside : words_computed (phrase_lines (codes "per cent,# c,per cent\n")) ≡ (written (codes "per" ∷ codes "cent" ∷ []) (codes "per cent") ∷ written (codes "#" ∷ codes "c" ∷ []) (codes "per cent") ∷ [])
unfolding spell kind_of caseless encode_utf8 chars is_utf8
number_sign_inside = refl

dash_between_blanks : words_computed (phrase_lines (codes "a-b,foo bar\ncolour,b c,per cent\nsub license,foo - bar\na b,colour\n # a,b\n")) ≡ (written (codes "a" ∷ codes "-" ∷ codes "b" ∷ []) (codes "a-b") ∷ written (codes "foo" ∷ codes "bar" ∷ []) (codes "a-b") ∷ written (codes "colour" ∷ []) (codes "colour") ∷ written (codes "b" ∷ codes "c" ∷ []) (codes "colour") ∷ written (codes "per" ∷ codes "cent" ∷ []) (codes "colour") ∷ written (codes "sub" ∷ codes "license" ∷ []) (codes "sub license") ∷ written (codes "foo" ∷ codes "-" ∷ codes "bar" ∷ []) (codes "sub license") ∷ written (codes "a" ∷ codes "b" ∷ []) (codes "colour") ∷ [])
unfolding spell kind_of caseless encode_utf8 chars is_utf8
dash_between_blanks = refl

only_a_comment : words_computed (phrase_lines (codes " # a,b\n")) ≡ []
unfolding spell kind_of caseless encode_utf8 chars is_utf8
only_a_comment = refl

only_dropped_characters : words_computed (phrase_lines (encode_utf8_all (0x200B ∷ []) ++ codes "\n")) ≡ []
unfolding spell kind_of caseless encode_utf8 chars is_utf8
only_dropped_characters = refl

two_lines_through_one_phrase : words_computed (phrase_lines (codes "d,d\nb,e\ng,of,d\ng,x\ne")) ≡ (written (codes "d" ∷ []) (codes "d") ∷ written (codes "b" ∷ []) (codes "b") ∷ written (codes "e" ∷ []) (codes "b") ∷ written (codes "g" ∷ []) (codes "d") ∷ written (codes "of" ∷ []) (codes "d") ∷ written (codes "x" ∷ []) (codes "d") ∷ [])
unfolding spell kind_of caseless encode_utf8 chars is_utf8
two_lines_through_one_phrase = refl

later_line_joins : words_computed (phrase_lines (codes "g,f\nd,d\nb\ng,f\nb\na b,b\nof")) ≡ (written (codes "g" ∷ []) (codes "g") ∷ written (codes "f" ∷ []) (codes "g") ∷ written (codes "d" ∷ []) (codes "d") ∷ written (codes "b" ∷ []) (codes "b") ∷ written (codes "a" ∷ codes "b" ∷ []) (codes "b") ∷ written (codes "of" ∷ []) (codes "of") ∷ [])
unfolding spell kind_of caseless encode_utf8 chars is_utf8
later_line_joins = refl

three_lines_to_the_first : words_computed (phrase_lines (codes "c,a-b,a\na\nx,a,a b\nb,e,g\na,x,f\nc")) ≡ (written (codes "c" ∷ []) (codes "c") ∷ written (codes "a" ∷ codes "-" ∷ codes "b" ∷ []) (codes "c") ∷ written (codes "a" ∷ []) (codes "c") ∷ written (codes "x" ∷ []) (codes "c") ∷ written (codes "a" ∷ codes "b" ∷ []) (codes "c") ∷ written (codes "b" ∷ []) (codes "b") ∷ written (codes "e" ∷ []) (codes "b") ∷ written (codes "g" ∷ []) (codes "b") ∷ written (codes "f" ∷ []) (codes "c") ∷ [])
unfolding spell kind_of caseless encode_utf8 chars is_utf8
three_lines_to_the_first = refl

first_phrase_of_the_file : words_computed (phrase_lines (codes "a\na b,a-b,of\na\nc,a,a\nb,x")) ≡ (written (codes "a" ∷ []) (codes "a") ∷ written (codes "a" ∷ codes "b" ∷ []) (codes "a b") ∷ written (codes "a" ∷ codes "-" ∷ codes "b" ∷ []) (codes "a b") ∷ written (codes "of" ∷ []) (codes "a b") ∷ written (codes "c" ∷ []) (codes "a") ∷ written (codes "b" ∷ []) (codes "b") ∷ written (codes "x" ∷ []) (codes "b") ∷ [])
unfolding spell kind_of caseless encode_utf8 chars is_utf8
first_phrase_of_the_file = refl

longer_chain : words_computed (phrase_lines (codes "f,g,e\nf\ne,g,e\nf,d\nof\nb,a,a")) ≡ (written (codes "f" ∷ []) (codes "f") ∷ written (codes "g" ∷ []) (codes "f") ∷ written (codes "e" ∷ []) (codes "f") ∷ written (codes "d" ∷ []) (codes "f") ∷ written (codes "of" ∷ []) (codes "of") ∷ written (codes "b" ∷ []) (codes "b") ∷ written (codes "a" ∷ []) (codes "b") ∷ [])
unfolding spell kind_of caseless encode_utf8 chars is_utf8
longer_chain = refl

lines_in_turn : words_computed (phrase_lines (codes "f,f\nd,x,a-b\ne,b\na b,d\na b,x\nx,g,a-b")) ≡ (written (codes "f" ∷ []) (codes "f") ∷ written (codes "d" ∷ []) (codes "d") ∷ written (codes "x" ∷ []) (codes "d") ∷ written (codes "a" ∷ codes "-" ∷ codes "b" ∷ []) (codes "d") ∷ written (codes "e" ∷ []) (codes "e") ∷ written (codes "b" ∷ []) (codes "e") ∷ written (codes "a" ∷ codes "b" ∷ []) (codes "d") ∷ written (codes "g" ∷ []) (codes "d") ∷ [])
unfolding spell kind_of caseless encode_utf8 chars is_utf8
lines_in_turn = refl

class_of_the_first_line : words_computed (phrase_lines (codes "e,a-b,g\nb,e\nc\na b,a\nof,of\ng\nof")) ≡ (written (codes "e" ∷ []) (codes "e") ∷ written (codes "a" ∷ codes "-" ∷ codes "b" ∷ []) (codes "e") ∷ written (codes "g" ∷ []) (codes "e") ∷ written (codes "b" ∷ []) (codes "e") ∷ written (codes "c" ∷ []) (codes "c") ∷ written (codes "a" ∷ codes "b" ∷ []) (codes "a b") ∷ written (codes "a" ∷ []) (codes "a b") ∷ written (codes "of" ∷ []) (codes "of") ∷ [])
unfolding spell kind_of caseless encode_utf8 chars is_utf8
class_of_the_first_line = refl

repeat_in_a_line : words_computed (phrase_lines (codes "e,c\na,x\nb,e,b")) ≡ (written (codes "e" ∷ []) (codes "e") ∷ written (codes "c" ∷ []) (codes "e") ∷ written (codes "a" ∷ []) (codes "a") ∷ written (codes "x" ∷ []) (codes "a") ∷ written (codes "b" ∷ []) (codes "e") ∷ [])
unfolding spell kind_of caseless encode_utf8 chars is_utf8
repeat_in_a_line = refl

line_of_one : words_computed (phrase_lines (codes "x,of,a\nf\nf,a-b\na-b\nb")) ≡ (written (codes "x" ∷ []) (codes "x") ∷ written (codes "of" ∷ []) (codes "x") ∷ written (codes "a" ∷ []) (codes "x") ∷ written (codes "f" ∷ []) (codes "f") ∷ written (codes "a" ∷ codes "-" ∷ codes "b" ∷ []) (codes "f") ∷ written (codes "b" ∷ []) (codes "b") ∷ [])
unfolding spell kind_of caseless encode_utf8 chars is_utf8
line_of_one = refl

chain_15 : words_computed (phrase_lines (codes "f,d\nf,of\nof,a-b,x\na-b,b\nof,x")) ≡ (written (codes "f" ∷ []) (codes "f") ∷ written (codes "d" ∷ []) (codes "f") ∷ written (codes "of" ∷ []) (codes "f") ∷ written (codes "a" ∷ codes "-" ∷ codes "b" ∷ []) (codes "f") ∷ written (codes "x" ∷ []) (codes "f") ∷ written (codes "b" ∷ []) (codes "f") ∷ [])
unfolding spell kind_of caseless encode_utf8 chars is_utf8
chain_15 = refl

chain_20 : words_computed (phrase_lines (codes "c,b\nc,c,a\nof,e,a b\nb,x\nc,c")) ≡ (written (codes "c" ∷ []) (codes "c") ∷ written (codes "b" ∷ []) (codes "c") ∷ written (codes "a" ∷ []) (codes "c") ∷ written (codes "of" ∷ []) (codes "of") ∷ written (codes "e" ∷ []) (codes "of") ∷ written (codes "a" ∷ codes "b" ∷ []) (codes "of") ∷ written (codes "x" ∷ []) (codes "c") ∷ [])
unfolding spell kind_of caseless encode_utf8 chars is_utf8
chain_20 = refl

chain_25 : words_computed (phrase_lines (codes "e,g\ne,a b\na b,a b,d\na\ng\nof,a")) ≡ (written (codes "e" ∷ []) (codes "e") ∷ written (codes "g" ∷ []) (codes "e") ∷ written (codes "a" ∷ codes "b" ∷ []) (codes "e") ∷ written (codes "d" ∷ []) (codes "e") ∷ written (codes "a" ∷ []) (codes "a") ∷ written (codes "of" ∷ []) (codes "a") ∷ [])
unfolding spell kind_of caseless encode_utf8 chars is_utf8
chain_25 = refl

line_of_dropped_characters_first-fine : first_fault (encode_utf8_all (0x200B ∷ []) ++ codes "\npercent\n\ncolor,sub license") ≡ None
unfolding spell kind_of caseless encode_utf8 chars is_utf8
line_of_dropped_characters_first-fine = refl

sequence_of_signs-fine : first_fault (codes "(c) (c),colour\na-b,a b\na b c,of") ≡ None
unfolding spell kind_of caseless encode_utf8 chars is_utf8
sequence_of_signs-fine = refl

address_with_blanks-fine : first_fault (codes "a b c,https :/ /,per cent\na b c d e f g h\nb c,a-b") ≡ None
unfolding spell kind_of caseless encode_utf8 chars is_utf8
address_with_blanks-fine = refl

eight_phrases-fine : first_fault (codes "a b c,foo bar\nSS\na-b,sub-license,per cent\na-b\nhttps :/ /,foo bar,b c") ≡ None
unfolding spell kind_of caseless encode_utf8 chars is_utf8
eight_phrases-fine = refl

sharp_s_and_number_sign-fine : first_fault (encode_utf8_all (0xDF ∷ []) ++ codes ",#\ncolour\ncolour,colour,sub license\nfoo bar\n") ≡ None
unfolding spell kind_of caseless encode_utf8 chars is_utf8
sharp_s_and_number_sign-fine = refl

only_a_comment-fine : first_fault (codes " # a,b\n") ≡ None
unfolding spell kind_of caseless encode_utf8 chars is_utf8
only_a_comment-fine = refl
