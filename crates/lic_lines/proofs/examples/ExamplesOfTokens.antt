-- Texts and their tokens before signs in a row are joined: known texts, and
-- cases with expected values from an independent program.
use Rattle.std.specs.Prelude.{◌≡◌, ℕ, List, [], ◌∷◌, ◌++◌, map, codes, refl}
use Rattle.std.specs.Char.{encode_utf8}
use Rattle.caseless.proofs.Computing.{caseless}
use Rattle.lic_kind.specs.Kinds.{kind_of, spell}
use Rattle.lic_trim.specs.Sources.{placed}
use Rattle.lic_kind.specs.LineRules.{profile}
use Rattle.lic_lines.specs.Tokens.{text_tokens}

-- each token's text and span
abbrev tokens : List ℕ → List (List ℕ × ℕ × ℕ)
tokens text = map (λ t. (t.text, t.start, t.end)) (text_tokens profile (placed 0 text))

in_a_comment : tokens (codes "/* Foo\n * bar\n */\n") ≡ (codes "foo", 3, 6) ∷ (codes "bar", 10, 13) ∷ []
unfolding spell kind_of caseless encode_utf8
in_a_comment = refl

sign_and_item : tokens (codes "(c) 2012 X\n(c) the licensee\n") ≡ (codes "copyright", 0, 3) ∷ (codes "2012", 4, 8) ∷ (codes "x", 9, 10) ∷ (codes "the", 15, 18) ∷ (codes "licensee", 19, 27) ∷ []
unfolding spell kind_of caseless encode_utf8
sign_and_item = refl

quotes : tokens (codes "``AS IS''") ≡ (codes "'", 0, 2) ∷ (codes "as", 2, 4) ∷ (codes "is", 5, 7) ∷ (codes "'", 7, 9) ∷ []
unfolding spell kind_of caseless encode_utf8
quotes = refl

folded : tokens (0xFB01 ∷ codes "le STRASSE stra" ++ 0xDF ∷ codes "e") ≡ (codes "file", 0, 5) ∷ (codes "strasse", 6, 13) ∷ (codes "strasse", 14, 21) ∷ []
unfolding spell kind_of caseless encode_utf8
folded = refl

two_marks : tokens (codes "ab==cd") ≡ (codes "ab", 0, 2) ∷ (codes "=", 2, 3) ∷ (codes "=", 3, 4) ∷ (codes "cd", 4, 6) ∷ []
unfolding spell kind_of caseless encode_utf8
two_marks = refl

separator : tokens (codes "ab===cd") ≡ (codes "ab", 0, 2) ∷ (codes "cd", 5, 7) ∷ []
unfolding spell kind_of caseless encode_utf8
separator = refl

longer_separator : tokens (codes "ab====cd") ≡ (codes "ab", 0, 2) ∷ (codes "cd", 6, 8) ∷ []
unfolding spell kind_of caseless encode_utf8
longer_separator = refl

single_signs_each : tokens (codes "Copyright (C) " ++ 0xA9 ∷ codes " 2001") ≡ (codes "copyright", 0, 9) ∷ (codes "copyright", 10, 13) ∷ (codes "copyright", 14, 16) ∷ (codes "2001", 17, 21) ∷ []
unfolding spell kind_of caseless encode_utf8
single_signs_each = refl

url : tokens (codes "HTTPS://x.org") ≡ (codes "https", 0, 5) ∷ (codes ":", 5, 6) ∷ (codes "/", 6, 7) ∷ (codes "/", 7, 8) ∷ (codes "x", 8, 9) ∷ (codes ".", 9, 10) ∷ (codes "org", 10, 13) ∷ []
unfolding spell kind_of caseless encode_utf8
url = refl

box : tokens (codes "| foo bar |\n") ≡ (codes "foo", 2, 5) ∷ (codes "bar", 6, 9) ∷ []
unfolding spell kind_of caseless encode_utf8
box = refl

box_with_return : tokens (codes "| foo bar |\r\n") ≡ (codes "foo", 2, 5) ∷ (codes "bar", 6, 9) ∷ []
unfolding spell kind_of caseless encode_utf8
box_with_return = refl

dropped : tokens (codes "so" ++ 0xAD ∷ codes "ft") ≡ (codes "soft", 0, 6) ∷ []
unfolding spell kind_of caseless encode_utf8
dropped = refl

sign_with_dropped : tokens (codes "x (" ++ 0xAD ∷ codes "c)") ≡ (codes "x", 0, 1) ∷ (codes "copyright", 2, 7) ∷ []
unfolding spell kind_of caseless encode_utf8
sign_with_dropped = refl

sign_with_blank : tokens (codes "x (c )") ≡ (codes "x", 0, 1) ∷ (codes "(", 2, 3) ∷ (codes "c", 3, 4) ∷ (codes ")", 5, 6) ∷ []
unfolding spell kind_of caseless encode_utf8
sign_with_blank = refl

mixed_dashes : tokens (codes "a-" ++ 0x2014 ∷ codes "-b") ≡ (codes "a", 0, 1) ∷ (codes "-", 1, 6) ∷ (codes "b", 6, 7) ∷ []
unfolding spell kind_of caseless encode_utf8
mixed_dashes = refl

signs_over_a_separator : tokens (codes "x (c) === (c)") ≡ (codes "x", 0, 1) ∷ (codes "copyright", 2, 5) ∷ (codes "copyright", 10, 13) ∷ []
unfolding spell kind_of caseless encode_utf8
signs_over_a_separator = refl

text_1 : tokens (codes "123: \n\n" ++ (0x9 ∷ []) ++ codes "colourb*)theendviiiiii. ") ≡ ((codes "123"), 0, 3) ∷ ((codes ":"), 3, 4) ∷ ((codes "colourb"), 8, 15) ∷ ((codes "*"), 15, 16) ∷ ((codes ")"), 16, 17) ∷ ((codes "theendviiiiii"), 17, 30) ∷ ((codes "."), 30, 31) ∷ []
unfolding spell kind_of caseless encode_utf8
text_1 = refl

text_2 : tokens (codes "&&&.end" ++ (0xD ∷ []) ++ codes "\n---* * *''" ++ (0x2502 ∷ []) ++ codes "\n\n\npercent-" ++ (0xD ∷ []) ++ codes "\n") ≡ ((codes "."), 3, 4) ∷ ((codes "end"), 4, 7) ∷ ((codes "'"), 17, 19) ∷ (((0xE2 ∷ []) ++ (0x94 ∷ []) ++ (0x82 ∷ [])), 19, 22) ∷ ((codes "percent"), 25, 32) ∷ ((codes "-"), 32, 33) ∷ []
unfolding spell kind_of caseless encode_utf8
text_2 = refl

text_3 : tokens (codes "\n\\\\b\nb.\\\"-") ≡ ((codes "\\"), 1, 2) ∷ ((codes "\\"), 2, 3) ∷ ((codes "b"), 3, 4) ∷ ((codes "b"), 5, 6) ∷ ((codes "."), 6, 7) ∷ ((codes "\\"), 7, 8) ∷ ((codes "'"), 8, 9) ∷ ((codes "-"), 9, 10) ∷ []
unfolding spell kind_of caseless encode_utf8
text_3 = refl

text_4 : tokens (codes "the\n * `'\"" ++ (0x2BC ∷ []) ++ codes "  <!--." ++ (0x10FFFF ∷ []) ++ codes "name " ++ (0x3A3 ∷ [])) ≡ ((codes "the"), 0, 3) ∷ ((codes "'"), 7, 10) ∷ (((0xCA ∷ []) ++ (0xBC ∷ [])), 10, 12) ∷ ((codes "<"), 14, 15) ∷ ((codes "!"), 15, 16) ∷ ((codes "-"), 16, 18) ∷ ((codes "."), 18, 19) ∷ (((0xF4 ∷ []) ++ (0x8F ∷ []) ++ (0xBF ∷ []) ++ (0xBF ∷ []) ++ codes "name"), 19, 27) ∷ (((0xCF ∷ []) ++ (0x83 ∷ [])), 28, 30) ∷ []
unfolding spell kind_of caseless encode_utf8
text_4 = refl

text_5 : tokens (codes "bar.foo" ++ (0xD ∷ []) ++ codes "thehttpx REM" ++ (0x9 ∷ []) ++ codes "\n\n\n1234. sub-license" ++ (0xA0 ∷ [])) ≡ ((codes "bar"), 0, 3) ∷ ((codes "."), 3, 4) ∷ ((codes "foo"), 4, 7) ∷ ((codes "thehttpx"), 8, 16) ∷ ((codes "rem"), 17, 20) ∷ ((codes "1234"), 24, 28) ∷ ((codes "."), 28, 29) ∷ ((codes "sub"), 30, 33) ∷ ((codes "-"), 33, 34) ∷ ((codes "license"), 34, 41) ∷ []
unfolding spell kind_of caseless encode_utf8
text_5 = refl

text_6 : tokens (codes ":" ++ (0x2039 ∷ []) ++ (0x2043 ∷ []) ++ codes "foo - bar1.,") ≡ ((codes ":"), 0, 1) ∷ ((codes "'"), 1, 4) ∷ (((0xE2 ∷ []) ++ (0x81 ∷ []) ++ (0x83 ∷ [])), 4, 7) ∷ ((codes "foo"), 7, 10) ∷ ((codes "-"), 11, 12) ∷ ((codes "bar1"), 13, 17) ∷ ((codes "."), 17, 18) ∷ ((codes ","), 18, 19) ∷ []
unfolding spell kind_of caseless encode_utf8
text_6 = refl

text_7 : tokens (codes " {-the" ++ (0x149 ∷ []) ++ (0x85 ∷ []) ++ codes "***/. xpercent.(C))))") ≡ ((codes "the" ++ (0xCA ∷ []) ++ (0xBC ∷ []) ++ codes "n"), 3, 8) ∷ ((codes "/"), 13, 14) ∷ ((codes "."), 14, 15) ∷ ((codes "xpercent"), 16, 24) ∷ ((codes "."), 24, 25) ∷ ((codes "("), 25, 26) ∷ ((codes "c"), 26, 27) ∷ []
unfolding spell kind_of caseless encode_utf8
text_7 = refl

text_8 : tokens (codes "b'''''1.2. Foo1234. */bar ") ≡ ((codes "b"), 0, 1) ∷ ((codes "1"), 6, 7) ∷ ((codes "."), 7, 8) ∷ ((codes "2"), 8, 9) ∷ ((codes "."), 9, 10) ∷ ((codes "foo1234"), 11, 18) ∷ ((codes "."), 18, 19) ∷ ((codes "*"), 20, 21) ∷ ((codes "/"), 21, 22) ∷ ((codes "bar"), 22, 25) ∷ []
unfolding spell kind_of caseless encode_utf8
text_8 = refl

text_9 : tokens (codes "(1) of \n -``barof12) -\n bar  ...-}") ≡ ((codes "of"), 4, 6) ∷ ((codes "-"), 9, 10) ∷ ((codes "'"), 10, 12) ∷ ((codes "barof12"), 12, 19) ∷ ((codes ")"), 19, 20) ∷ ((codes "-"), 21, 22) ∷ ((codes "bar"), 24, 27) ∷ []
unfolding spell kind_of caseless encode_utf8
text_9 = refl

text_10 : tokens (codes " ``>" ++ (0x9 ∷ []) ++ codes "the.foo  `` ===== " ++ (0x9 ∷ []) ++ codes "(( ") ≡ ((codes "'"), 1, 3) ∷ ((codes ">"), 3, 4) ∷ ((codes "the"), 5, 8) ∷ ((codes "."), 8, 9) ∷ ((codes "foo"), 9, 12) ∷ ((codes "'"), 14, 16) ∷ ((codes "("), 24, 25) ∷ ((codes "("), 25, 26) ∷ []
unfolding spell kind_of caseless encode_utf8
text_10 = refl

text_11 : tokens (codes "XIV) bar<<<x-- \"-\"\n\n\n..b") ≡ ((codes "bar"), 5, 8) ∷ ((codes "x"), 11, 12) ∷ ((codes "-"), 12, 14) ∷ ((codes "'"), 15, 16) ∷ ((codes "-"), 16, 17) ∷ ((codes "'"), 17, 18) ∷ ((codes "."), 21, 22) ∷ ((codes "."), 22, 23) ∷ ((codes "b"), 23, 24) ∷ []
unfolding spell kind_of caseless encode_utf8
text_11 = refl

text_12 : tokens (codes "BAR\n'' " ++ (0xD ∷ []) ++ codes "=====..dnl ") ≡ ((codes "bar"), 0, 3) ∷ ((codes "'"), 4, 6) ∷ ((codes "."), 13, 14) ∷ ((codes "."), 14, 15) ∷ ((codes "dnl"), 15, 18) ∷ []
unfolding spell kind_of caseless encode_utf8
text_12 = refl
