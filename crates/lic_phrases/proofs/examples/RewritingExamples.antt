-- Cases of the rewriting, computed: examples of the manual, single rules, and random inputs whose tokens another
-- program computed.
use Rattle.std.specs.Prelude.{◌≡◌, ℕ, true, List, [], ◌∷◌, ◌++◌, map, codes, refl, ◌+◌}
use Rattle.std.specs.Char.{encode_utf8}
use Rattle.caseless.proofs.Computing.{caseless}
use Rattle.lic_kind.specs.Kinds.{kind_of, spell}
use Rattle.lic_trim.specs.Sources.{placed}
use Rattle.lic_kind.specs.LineRules.{profile}
use Rattle.lic_lines.specs.Tokens.{Token, text_tokens}
use Rattle.lic_phrases.specs.Rewriting.{Phrase, SpannedText, rewritten}

abbrev shown : List SpannedText → List (List ℕ × ℕ × ℕ)
shown = map (λ t. (t.text, t.start, t.end))

-- the tokens of a text in UTF-8 with these characters
abbrev tokens : List Phrase → List ℕ → List (List ℕ × ℕ × ℕ)
tokens words cs = shown (rewritten words (text_tokens profile (placed 0 cs)))

-- ---- examples of the manual

sign_and_list_item : tokens [] (codes "(c) 2012 X\n(c) the licensee\n") ≡ (codes "copyright", 0, 3) ∷ (codes "2012", 4, 8) ∷ (codes "x", 9, 10) ∷ (codes "the", 15, 18) ∷ (codes "licensee", 19, 27) ∷ []
unfolding spell kind_of caseless encode_utf8
sign_and_list_item = refl

abbrev sub_license : List Phrase
sub_license =
    record { texts = codes "sub" ∷ codes "-" ∷ codes "license" ∷ []; spelling = codes "sub-license" }
    ∷ record { texts = codes "sublicense" ∷ []; spelling = codes "sub-license" }
    ∷ record { texts = codes "sub" ∷ codes "license" ∷ []; spelling = codes "sub-license" }
    ∷ []

one_class : tokens sub_license (codes "sub-license sublicense Sub License") ≡ (codes "sub-license", 0, 11) ∷ (codes "sub-license", 12, 22) ∷ (codes "sub-license", 23, 34) ∷ []
unfolding spell kind_of caseless encode_utf8
one_class = refl

sequence_of_signs : tokens [] (codes "Copyright (C) " ++ 0xA9 ∷ codes " 2001") ≡ (codes "copyright", 0, 16) ∷ (codes "2001", 17, 21) ∷ []
unfolding spell kind_of caseless encode_utf8
sequence_of_signs = refl

web_address : tokens [] (codes "HTTPS://x.org") ≡ (codes "http", 0, 5) ∷ (codes ":", 5, 6) ∷ (codes "/", 6, 7) ∷ (codes "/", 7, 8) ∷ (codes "x", 8, 9) ∷ (codes ".", 9, 10) ∷ (codes "org", 10, 13) ∷ []
unfolding spell kind_of caseless encode_utf8
web_address = refl

signs_over_a_separator : tokens [] (codes "x (c) === (c)") ≡ (codes "x", 0, 1) ∷ (codes "copyright", 2, 13) ∷ []
unfolding spell kind_of caseless encode_utf8
signs_over_a_separator = refl

-- ---- single rules, on tokens

abbrev token : List ℕ → ℕ → ℕ → Token
token text start end = record { text = text; start = start; end = end; after_blank = true }

-- a phrase of these tokens, written so
abbrev phrase : List (List ℕ) → List ℕ → Phrase
phrase texts spelling = record { texts = texts; spelling = spelling }

-- texts of one letter, one blank between two
abbrev letters : ℕ → List ℕ → List Token
letters at [] = []
letters at (c ∷ cs) = token (c ∷ []) at (at + 1) ∷ letters (at + 2) cs

abbrev a_or_more : List Phrase
a_or_more = phrase (codes "a" ∷ []) (codes "one") ∷ phrase (codes "a" ∷ codes "a" ∷ codes "b" ∷ []) (codes "three") ∷ phrase (codes "a" ∷ codes "a" ∷ []) (codes "two") ∷ []

the_longest_phrase_wins : shown (rewritten a_or_more (letters 0 (codes "aab"))) ≡ (codes "three", 0, 5) ∷ []
the_longest_phrase_wins = refl

the_work_continues_after_a_phrase : shown (rewritten a_or_more (letters 0 (codes "aaab"))) ≡ (codes "two", 0, 3) ∷ (codes "one", 4, 5) ∷ (codes "b", 6, 7) ∷ []
the_work_continues_after_a_phrase = refl

a_phrase_that_breaks_off : shown (rewritten (phrase (codes "a" ∷ codes "b" ∷ codes "c" ∷ []) (codes "x") ∷ []) (letters 0 (codes "ababc"))) ≡ (codes "a", 0, 1) ∷ (codes "b", 2, 3) ∷ (codes "x", 4, 9) ∷ []
a_phrase_that_breaks_off = refl

a_phrase_token_is_not_looked_at_again : shown (rewritten (phrase (codes "a" ∷ []) (codes "b") ∷ phrase (codes "b" ∷ codes "b" ∷ []) (codes "c") ∷ phrase (codes "b" ∷ []) (codes "d") ∷ []) (letters 0 (codes "aa"))) ≡ (codes "b", 0, 1) ∷ (codes "b", 2, 3) ∷ []
a_phrase_token_is_not_looked_at_again = refl

eight_tokens : shown (rewritten (phrase (codes "a" ∷ codes "b" ∷ codes "c" ∷ codes "d" ∷ codes "e" ∷ codes "f" ∷ codes "g" ∷ codes "h" ∷ []) (codes "x") ∷ []) (letters 0 (codes "abcdefghi"))) ≡ (codes "x", 0, 15) ∷ (codes "i", 16, 17) ∷ []
eight_tokens = refl

a_sequence_of_signs_begins_a_phrase : shown (rewritten (phrase (codes "copyright" ∷ codes "x" ∷ []) (codes "y") ∷ []) (token (codes "copyright") 0 9 ∷ token (codes "copyright") 10 13 ∷ token (codes "x") 14 15 ∷ [])) ≡ (codes "y", 0, 15) ∷ []
a_sequence_of_signs_begins_a_phrase = refl

an_address_begins_a_phrase : shown (rewritten (phrase (codes "http" ∷ codes ":" ∷ []) (codes "web") ∷ phrase (codes "https" ∷ []) (codes "safe") ∷ []) (token (codes "https") 0 5 ∷ token (codes ":") 5 6 ∷ token (codes "/") 6 7 ∷ token (codes "/") 7 8 ∷ token (codes "https") 9 14 ∷ [])) ≡ (codes "web", 0, 6) ∷ (codes "/", 6, 7) ∷ (codes "/", 7, 8) ∷ (codes "safe", 9, 14) ∷ []
an_address_begins_a_phrase = refl

one_slash_is_no_address : shown (rewritten [] (token (codes "https") 0 5 ∷ token (codes ":") 5 6 ∷ token (codes "/") 6 7 ∷ token (codes "x") 7 8 ∷ [])) ≡ (codes "https", 0, 5) ∷ (codes ":", 5, 6) ∷ (codes "/", 6, 7) ∷ (codes "x", 7, 8) ∷ []
one_slash_is_no_address = refl

blanks_do_not_matter : shown (rewritten [] (token (codes "https") 0 5 ∷ token (codes ":") 6 7 ∷ token (codes "/") 8 9 ∷ token (codes "/") 10 11 ∷ [])) ≡ (codes "http", 0, 5) ∷ (codes ":", 6, 7) ∷ (codes "/", 8, 9) ∷ (codes "/", 10, 11) ∷ []
blanks_do_not_matter = refl

-- ---- random inputs

signs_1 : tokens [] ((0xA9 ∷ []) ++ (0xA9 ∷ [])) ≡ (codes "copyright", 0, 4) ∷ []
unfolding spell kind_of caseless encode_utf8
signs_1 = refl

signs_2 : tokens [] (codes "Copyright//b") ≡ (codes "copyright", 0, 9) ∷ (codes "/", 9, 10) ∷ (codes "/", 10, 11) ∷ (codes "b", 11, 12) ∷ []
unfolding spell kind_of caseless encode_utf8
signs_2 = refl

signs_3 : tokens [] ((0xD ∷ []) ++ codes "bar:(c)     ========= " ++ (0xD ∷ []) ++ codes "\n'''") ≡ (codes "bar", 1, 4) ∷ (codes ":", 4, 5) ∷ (codes "copyright", 5, 8) ∷ []
unfolding spell kind_of caseless encode_utf8
signs_3 = refl

signs_4 : tokens [] (codes "bREM" ++ (0x9 ∷ []) ++ (0xD ∷ []) ++ codes "\n\n- - \n" ++ (0xA9 ∷ [])) ≡ (codes "brem", 0, 4) ∷ (codes "-", 10, 11) ∷ (codes "copyright", 13, 15) ∷ []
unfolding spell kind_of caseless encode_utf8
signs_4 = refl

signs_5 : tokens [] (codes ".\\\"" ++ (0xA9 ∷ []) ++ (0xA9 ∷ []) ++ codes "namefoo\n/*.name") ≡ (codes "copyright", 3, 7) ∷ (codes "namefoo", 7, 14) ∷ (codes ".", 17, 18) ∷ (codes "name", 18, 22) ∷ []
unfolding spell kind_of caseless encode_utf8
signs_5 = refl

signs_6 : tokens [] (codes "(" ++ (0xAD ∷ []) ++ codes "c)" ++ (0xA9 ∷ []) ++ (0xA9 ∷ []) ++ codes "ba-b\n") ≡ (codes "copyright", 0, 9) ∷ (codes "ba", 9, 11) ∷ (codes "-", 11, 12) ∷ (codes "b", 12, 13) ∷ []
unfolding spell kind_of caseless encode_utf8
signs_6 = refl

signs_7 : tokens [] (codes " */**(c)(c) ,\n\nviiii. Copyright1.2345. ") ≡ (codes "copyright", 5, 11) ∷ (codes ",", 12, 13) ∷ (codes "copyright1", 22, 32) ∷ (codes ".", 32, 33) ∷ (codes "2345", 33, 37) ∷ (codes ".", 37, 38) ∷ []
unfolding spell kind_of caseless encode_utf8
signs_7 = refl

addresses_1 : tokens [] (codes "  ,https:// \n" ++ (0x9 ∷ []) ++ (0xD ∷ []) ++ codes "endpercentthe ") ≡ (codes ",", 2, 3) ∷ (codes "http", 3, 8) ∷ (codes ":", 8, 9) ∷ (codes "/", 9, 10) ∷ (codes "/", 10, 11) ∷ (codes "endpercentthe", 15, 28) ∷ []
unfolding spell kind_of caseless encode_utf8
addresses_1 = refl

addresses_2 : tokens [] ((0xD ∷ []) ++ codes "\n" ++ (0x9 ∷ []) ++ codes " HTTPS://x.org\n") ≡ (codes "http", 4, 9) ∷ (codes ":", 9, 10) ∷ (codes "/", 10, 11) ∷ (codes "/", 11, 12) ∷ (codes "x", 12, 13) ∷ (codes ".", 13, 14) ∷ (codes "org", 14, 17) ∷ []
unfolding spell kind_of caseless encode_utf8
addresses_2 = refl

addresses_3 : tokens [] (codes "HTTPS://x.org" ++ (0xD ∷ []) ++ codes "the,") ≡ (codes "http", 0, 5) ∷ (codes ":", 5, 6) ∷ (codes "/", 6, 7) ∷ (codes "/", 7, 8) ∷ (codes "x", 8, 9) ∷ (codes ".", 9, 10) ∷ (codes "org", 10, 13) ∷ (codes "the", 14, 17) ∷ (codes ",", 17, 18) ∷ []
unfolding spell kind_of caseless encode_utf8
addresses_3 = refl

addresses_4 : tokens [] (codes "xtheiv. viiiiii. " ++ (0x9 ∷ []) ++ codes "<<<https : / /") ≡ (codes "xtheiv", 0, 6) ∷ (codes ".", 6, 7) ∷ (codes "viiiiii", 8, 15) ∷ (codes ".", 15, 16) ∷ (codes "http", 21, 26) ∷ (codes ":", 27, 28) ∷ (codes "/", 29, 30) ∷ (codes "/", 31, 32) ∷ []
unfolding spell kind_of caseless encode_utf8
addresses_4 = refl

addresses_5 : tokens [] ((0xD ∷ []) ++ codes "\n" ++ (0xE000 ∷ []) ++ codes ". \n\nxcolorFoo https://x ") ≡ (((0xEE ∷ []) ++ (0x80 ∷ []) ++ (0x80 ∷ [])), 2, 5) ∷ (codes ".", 5, 6) ∷ (codes "xcolorfoo", 9, 18) ∷ (codes "http", 19, 24) ∷ (codes ":", 24, 25) ∷ (codes "/", 25, 26) ∷ (codes "/", 26, 27) ∷ (codes "x", 27, 28) ∷ []
unfolding spell kind_of caseless encode_utf8
addresses_5 = refl

addresses_6 : tokens [] (codes "cBARcopyrightspercent https : / /a " ++ (0x2026 ∷ []) ++ (0xAB ∷ [])) ≡ (codes "cbarcopyrightspercent", 0, 21) ∷ (codes "http", 22, 27) ∷ (codes ":", 28, 29) ∷ (codes "/", 30, 31) ∷ (codes "/", 32, 33) ∷ (codes "a", 33, 34) ∷ (((0xE2 ∷ []) ++ (0x80 ∷ []) ++ (0xA6 ∷ [])), 35, 38) ∷ (codes "'", 38, 40) ∷ []
unfolding spell kind_of caseless encode_utf8
addresses_6 = refl

phrases_1 : tokens (record { texts = (codes "the") ∷ []; spelling = (codes "the") } ∷ record { texts = (codes "x") ∷ []; spelling = (codes "the") } ∷ record { texts = (codes "a") ∷ (codes "b") ∷ (codes "c") ∷ []; spelling = (codes "the") } ∷ []) (codes "x,&&&https://**") ≡ (codes "the", 0, 1) ∷ (codes ",", 1, 2) ∷ (codes "http", 5, 10) ∷ (codes ":", 10, 11) ∷ (codes "/", 11, 12) ∷ (codes "/", 12, 13) ∷ (codes "*", 13, 14) ∷ (codes "*", 14, 15) ∷ []
unfolding spell kind_of caseless encode_utf8
phrases_1 = refl

phrases_2 : tokens (record { texts = (codes "a") ∷ (codes "b") ∷ []; spelling = (codes "color") } ∷ record { texts = (codes "a") ∷ (codes "-") ∷ (codes "b") ∷ []; spelling = (codes "color") } ∷ record { texts = (codes "color") ∷ []; spelling = (codes "color") } ∷ record { texts = (codes "foo") ∷ (codes "bar") ∷ []; spelling = (codes "foo bar") } ∷ record { texts = (codes "the") ∷ []; spelling = (codes "the") } ∷ []) (codes "foo---bar__") ≡ (codes "foo bar", 0, 9) ∷ (codes "_", 9, 10) ∷ (codes "_", 10, 11) ∷ []
unfolding spell kind_of caseless encode_utf8
phrases_2 = refl

phrases_3 : tokens (record { texts = (codes "colour") ∷ []; spelling = (codes "'") } ∷ record { texts = (codes "'") ∷ []; spelling = (codes "'") } ∷ record { texts = (codes "color") ∷ []; spelling = (codes "'") } ∷ record { texts = (codes "copyright") ∷ (codes "x") ∷ []; spelling = (codes "'") } ∷ []) (codes "\ncolor\n*- - ofofx,https:// ") ≡ (codes "'", 1, 6) ∷ (codes "-", 10, 11) ∷ (codes "ofofx", 12, 17) ∷ (codes ",", 17, 18) ∷ (codes "http", 18, 23) ∷ (codes ":", 23, 24) ∷ (codes "/", 24, 25) ∷ (codes "/", 25, 26) ∷ []
unfolding spell kind_of caseless encode_utf8
phrases_3 = refl

phrases_4 : tokens (record { texts = (codes "'") ∷ []; spelling = (codes "'") } ∷ record { texts = (codes "a") ∷ (codes "-") ∷ (codes "b") ∷ []; spelling = (codes "a-b") } ∷ record { texts = (codes "b") ∷ (codes "c") ∷ []; spelling = (codes "a-b") } ∷ []) (codes "name" ++ (0x9 ∷ []) ++ codes "name \n  name\n " ++ (0x9 ∷ []) ++ codes "\na-b" ++ (0xD ∷ []) ++ codes "\n" ++ (0x200C ∷ [])) ≡ (codes "name", 0, 4) ∷ (codes "name", 5, 9) ∷ (codes "name", 13, 17) ∷ (codes "a-b", 21, 24) ∷ (((0xE2 ∷ []) ++ (0x80 ∷ []) ++ (0x8C ∷ [])), 26, 29) ∷ []
unfolding spell kind_of caseless encode_utf8
phrases_4 = refl

phrases_5 : tokens (record { texts = (codes "'") ∷ []; spelling = (codes "percent") } ∷ record { texts = (codes "percent") ∷ []; spelling = (codes "percent") } ∷ []) (codes "Foo** .\\\"per centa b end * " ++ (0x9 ∷ []) ++ codes "123: ") ≡ (codes "foo", 0, 3) ∷ (codes "*", 3, 4) ∷ (codes "*", 4, 5) ∷ (codes ".", 6, 7) ∷ (codes "\\", 7, 8) ∷ (codes "percent", 8, 9) ∷ (codes "per", 9, 12) ∷ (codes "centa", 13, 18) ∷ (codes "b", 19, 20) ∷ (codes "end", 21, 24) ∷ (codes "*", 25, 26) ∷ (codes "123", 28, 31) ∷ (codes ":", 31, 32) ∷ []
unfolding spell kind_of caseless encode_utf8
phrases_5 = refl

phrases_6 : tokens (record { texts = (codes "foo") ∷ (codes "bar") ∷ []; spelling = (codes "foo bar") } ∷ record { texts = (codes "of") ∷ []; spelling = (codes "x") } ∷ record { texts = (codes "x") ∷ []; spelling = (codes "x") } ∷ record { texts = (codes "http") ∷ (codes ":") ∷ (codes "/") ∷ (codes "/") ∷ (codes "x") ∷ []; spelling = (codes "x") } ∷ []) (codes "(*'-'!of,per cent__\n\n") ≡ (codes "'", 2, 3) ∷ (codes "-", 3, 4) ∷ (codes "'", 4, 5) ∷ (codes "!", 5, 6) ∷ (codes "x", 6, 8) ∷ (codes ",", 8, 9) ∷ (codes "per", 9, 12) ∷ (codes "cent", 13, 17) ∷ (codes "_", 17, 18) ∷ (codes "_", 18, 19) ∷ []
unfolding spell kind_of caseless encode_utf8
phrases_6 = refl

phrases_7 : tokens (record { texts = (codes "of") ∷ []; spelling = (codes "foo-bar") } ∷ record { texts = (codes "a") ∷ (codes "-") ∷ (codes "b") ∷ []; spelling = (codes "foo-bar") } ∷ record { texts = (codes "foo") ∷ (codes "-") ∷ (codes "bar") ∷ []; spelling = (codes "foo-bar") } ∷ []) ((0xBB ∷ []) ++ codes "   foothethename" ++ (0x2502 ∷ []) ++ codes "c12)  of\n(c) 2") ≡ (codes "'", 0, 2) ∷ (codes "foothethename", 5, 18) ∷ (((0xE2 ∷ []) ++ (0x94 ∷ []) ++ (0x82 ∷ [])), 18, 21) ∷ (codes "c12", 21, 24) ∷ (codes ")", 24, 25) ∷ (codes "foo-bar", 27, 29) ∷ (codes "copyright", 30, 33) ∷ (codes "2", 34, 35) ∷ []
unfolding spell kind_of caseless encode_utf8
phrases_7 = refl

phrases_8 : tokens (record { texts = (codes "a") ∷ (codes "b") ∷ (codes "c") ∷ []; spelling = (codes "a b c") } ∷ record { texts = (codes "color") ∷ []; spelling = (codes "a b c") } ∷ record { texts = (codes "sublicense") ∷ []; spelling = (codes "sublicense") } ∷ record { texts = (codes "colour") ∷ []; spelling = (codes "sublicense") } ∷ record { texts = (codes "x") ∷ []; spelling = (codes "sublicense") } ∷ record { texts = (codes "http") ∷ (codes ":") ∷ (codes "/") ∷ (codes "/") ∷ (codes "x") ∷ []; spelling = (codes "foo-bar") } ∷ record { texts = (codes "foo") ∷ (codes "-") ∷ (codes "bar") ∷ []; spelling = (codes "foo-bar") } ∷ []) (codes "x") ≡ (codes "sublicense", 0, 1) ∷ []
unfolding spell kind_of caseless encode_utf8
phrases_8 = refl

phrases_9 : tokens (record { texts = (codes "http") ∷ (codes ":") ∷ (codes "/") ∷ (codes "/") ∷ (codes "x") ∷ []; spelling = (codes "http://x") } ∷ record { texts = (codes "copyright") ∷ (codes "x") ∷ []; spelling = (codes "http://x") } ∷ []) (codes "Copyrighta " ++ (0x2013 ∷ []) ++ (0x2014 ∷ []) ++ codes "---BAR" ++ (0x201F ∷ []) ++ codes "  the   " ++ (0xA9 ∷ []) ++ codes "`'\"  * .(C)https://x") ≡ (codes "copyrighta", 0, 10) ∷ (codes "-", 11, 17) ∷ (codes "bar", 20, 23) ∷ (codes "'", 23, 26) ∷ (codes "the", 28, 31) ∷ (codes "copyright", 34, 36) ∷ (codes "'", 36, 39) ∷ (codes "*", 41, 42) ∷ (codes ".", 43, 44) ∷ (codes "copyright", 44, 47) ∷ (codes "http://x", 47, 56) ∷ []
unfolding spell kind_of caseless encode_utf8
phrases_9 = refl
