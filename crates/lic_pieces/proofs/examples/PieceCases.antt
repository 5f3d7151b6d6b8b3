-- Pieces of a template's text and their letters: cases with expected values from an independent program.
use Rattle.std.specs.Prelude.{◌≡◌, true, false, [], ◌∷◌, ◌++◌, codes, refl, encode_utf8_all}
use Rattle.std.specs.Char.{encode_utf8}
use Rattle.std.specs.Str.{chars, is_utf8}
use Rattle.caseless.proofs.Computing.{caseless}
use Rattle.lic_kind.specs.Kinds.{kind_of, spell}
use Rattle.lic_kind.specs.LineRules.{profile}
use Rattle.lic_pieces.specs.declared.pieces.Next.TheVariants.{LineEnd, Var, Optional}
use Rattle.lic_pieces.specs.Pieces.{piece_cells, piece_tokens, piece_of}

case_1 : piece_of profile [] false LineEnd (encode_utf8_all ((codes "(c )https://x1.2.  .foo - bar,,,a b-\n%  " ++ (0x4E2D ∷ []) ++ codes "__ " ++ (0x9 ∷ []) ++ codes " "))) ≡ (codes "(c)http://x1.2..foo-bar a b-" ++ (0xE4 ∷ []) ++ (0xB8 ∷ []) ++ (0xAD ∷ []) ++ codes "__ ")
unfolding piece_of spell kind_of caseless encode_utf8 chars is_utf8 piece_cells piece_tokens
case_1 = refl

case_2 : piece_of profile [] false Optional (encode_utf8_all ((codes "endFoo" ++ (0x200C ∷ []) ++ codes " a1.2 "))) ≡ (codes "endfoo" ++ (0xE2 ∷ []) ++ (0x80 ∷ []) ++ (0x8C ∷ []) ++ codes " a1.2 ")
unfolding piece_of spell kind_of caseless encode_utf8 chars is_utf8 piece_cells piece_tokens
case_2 = refl

case_3 : piece_of profile [] false Var (encode_utf8_all ((codes "''copyright,.c,https:https://12) ``( c ) sub-license" ++ (0xD ∷ []) ++ codes " |\\\\" ++ (0x9 ∷ []) ++ codes "https:https:// /*"))) ≡ (codes "'copyright,.c,https:http://12)'(c)sub-license|\\\\https:http:///*")
unfolding piece_of spell kind_of caseless encode_utf8 chars is_utf8 piece_cells piece_tokens
case_3 = refl

case_4 : piece_of profile [] true LineEnd (encode_utf8_all (((0xD ∷ []) ++ codes " a " ++ (0x2026 ∷ []) ++ (0xD ∷ []) ++ codes "\n "))) ≡ (codes " a" ++ (0xE2 ∷ []) ++ (0x80 ∷ []) ++ (0xA6 ∷ []) ++ codes " ")
unfolding piece_of spell kind_of caseless encode_utf8 chars is_utf8 piece_cells piece_tokens
case_4 = refl

case_5 : piece_of profile [] true Optional (encode_utf8_all ((codes "\"\"\"end\n\n" ++ (0xDF ∷ []) ++ codes ". \n" ++ (0x2BC ∷ []) ++ codes " "))) ≡ (codes " end ss." ++ (0xCA ∷ []) ++ (0xBC ∷ []) ++ codes " ")
unfolding piece_of spell kind_of caseless encode_utf8 chars is_utf8 piece_cells piece_tokens
case_5 = refl

case_6 : piece_of profile [] true Var (encode_utf8_all (((0xDF ∷ []) ++ codes "12) -}"))) ≡ (codes "ss12)-}")
unfolding piece_of spell kind_of caseless encode_utf8 chars is_utf8 piece_cells piece_tokens
case_6 = refl

case_7 : piece_of profile [] false LineEnd (encode_utf8_all ((codes "b)  ===name\n   " ++ (0xD ∷ []) ++ codes "\n-color" ++ (0x9 ∷ []) ++ codes "colorhttps://  of   \n\nendhttps per centa |"))) ≡ (codes "b)name-color colorhttps://of endhttps per centa ")
unfolding piece_of spell kind_of caseless encode_utf8 chars is_utf8 piece_cells piece_tokens
case_7 = refl

case_8 : piece_of profile [] false Optional (encode_utf8_all ((codes "bar" ++ (0x9 ∷ []) ++ codes "\nbhttps:/ https : / /of" ++ (0xFEFF ∷ []) ++ codes "a,"))) ≡ (codes "bar bhttps:/http://ofa,")
unfolding piece_of spell kind_of caseless encode_utf8 chars is_utf8 piece_cells piece_tokens
case_8 = refl

case_9 : piece_of profile [] false Var (encode_utf8_all ((codes "1. 2. -" ++ (0x9 ∷ []) ++ (0x9 ∷ []) ++ codes "    === <!------(( " ++ (0xD ∷ []) ++ codes "\n bar\\\\ ;\n(* -of"))) ≡ (codes "1.2.-<!((bar\\\\;-of")
unfolding piece_of spell kind_of caseless encode_utf8 chars is_utf8 piece_cells piece_tokens
case_9 = refl

case_10 : piece_of profile [] true LineEnd (encode_utf8_all ((codes " " ++ (0x1 ∷ []) ++ codes ",--- ----  | foo bar\"(c) x====  bar , \"a-b-the"))) ≡ (codes " " ++ (0x1 ∷ []) ++ codes ",|foo bar'copyright x bar,'a-b-the")
unfolding piece_of spell kind_of caseless encode_utf8 chars is_utf8 piece_cells piece_tokens
case_10 = refl

case_11 : piece_of profile [] true Optional (encode_utf8_all ((codes "(" ++ (0xAD ∷ []) ++ codes "c)BAR." ++ (0xD ∷ []) ++ (0x2027 ∷ []) ++ codes "of     " ++ (0x180E ∷ []) ++ (0xD ∷ []) ++ codes "\n ," ++ (0xFEFF ∷ [])))) ≡ (codes "copyright bar." ++ (0xE2 ∷ []) ++ (0x80 ∷ []) ++ (0xA7 ∷ []) ++ codes "of " ++ (0xE1 ∷ []) ++ (0xA0 ∷ []) ++ (0x8E ∷ []) ++ codes ",")
unfolding piece_of spell kind_of caseless encode_utf8 chars is_utf8 piece_cells piece_tokens
case_11 = refl

case_12 : piece_of profile [] true Var (encode_utf8_all (((0x1C5 ∷ []) ++ (0x9 ∷ [])))) ≡ ((0xC7 ∷ []) ++ (0x86 ∷ []) ++ codes " ")
unfolding piece_of spell kind_of caseless encode_utf8 chars is_utf8 piece_cells piece_tokens
case_12 = refl

case_13 : piece_of profile [] false LineEnd (encode_utf8_all ((codes "> */'https : / /\n  >&&&(c)(c)b a b\n-of \n  color"))) ≡ (codes ">*/'http://copyright b a b-of color")
unfolding piece_of spell kind_of caseless encode_utf8 chars is_utf8 piece_cells piece_tokens
case_13 = refl

case_14 : piece_of profile [] false Optional (encode_utf8_all ((codes "XIV)    " ++ (0x0 ∷ []) ++ codes "\n" ++ (0x9 ∷ []) ++ codes "ba"))) ≡ (codes "xiv)" ++ (0x0 ∷ []) ++ codes " ba")
unfolding piece_of spell kind_of caseless encode_utf8 chars is_utf8 piece_cells piece_tokens
case_14 = refl

case_15 : piece_of profile [] false Var (encode_utf8_all ((codes " * (c)(c) \n \nBAR \nhttps:/" ++ (0x2026 ∷ []) ++ codes " ////( c )" ++ (0x9 ∷ []) ++ codes " BAR"))) ≡ (codes " *copyright bar https:/" ++ (0xE2 ∷ []) ++ (0x80 ∷ []) ++ (0xA6 ∷ []) ++ codes "(c)bar")
unfolding piece_of spell kind_of caseless encode_utf8 chars is_utf8 piece_cells piece_tokens
case_15 = refl

case_16 : piece_of profile [] true LineEnd (encode_utf8_all ((codes ")))\"\"\"/*,(b)"))) ≡ (codes " ,(b)")
unfolding piece_of spell kind_of caseless encode_utf8 chars is_utf8 piece_cells piece_tokens
case_16 = refl

case_17 : piece_of profile [] true Optional (encode_utf8_all ((codes "\n ,,,Copyright===sublicense"))) ≡ (codes " copyright sublicense")
unfolding piece_of spell kind_of caseless encode_utf8 chars is_utf8 piece_cells piece_tokens
case_17 = refl

case_18 : piece_of profile [] true Var (encode_utf8_all ((codes "of" ++ (0xB ∷ []) ++ (0x2016 ∷ []) ++ codes "copyrights"))) ≡ (codes "of " ++ (0xE2 ∷ []) ++ (0x80 ∷ []) ++ (0x96 ∷ []) ++ codes "copyrights")
unfolding piece_of spell kind_of caseless encode_utf8 chars is_utf8 piece_cells piece_tokens
case_18 = refl

case_19 : piece_of profile [] false LineEnd (encode_utf8_all ((codes "12) \n." ++ (0x130 ∷ []) ++ (0xC9 ∷ []) ++ codes " bar \n " ++ (0xAD ∷ []) ++ codes "bar- \n"))) ≡ (codes "12).i" ++ (0xCC ∷ []) ++ (0x87 ∷ []) ++ (0xC3 ∷ []) ++ (0xA9 ∷ []) ++ codes " bar bar- ")
unfolding piece_of spell kind_of caseless encode_utf8 chars is_utf8 piece_cells piece_tokens
case_19 = refl

case_20 : piece_of profile [] false Optional (encode_utf8_all (((0x257F ∷ []) ++ codes "b" ++ (0x9 ∷ []) ++ codes "c* * * BARof-##bar(c) 2012"))) ≡ ((0xE2 ∷ []) ++ (0x95 ∷ []) ++ (0xBF ∷ []) ++ codes "b c***barof-##bar copyright 2012")
unfolding piece_of spell kind_of caseless encode_utf8 chars is_utf8 piece_cells piece_tokens
case_20 = refl

case_21 : piece_of profile [] false Var (encode_utf8_all ((codes "========= " ++ (0xD ∷ []) ++ codes "\n'''bar"))) ≡ (codes " bar")
unfolding piece_of spell kind_of caseless encode_utf8 chars is_utf8 piece_cells piece_tokens
case_21 = refl

case_22 : piece_of profile [] true LineEnd (encode_utf8_all (((0x212A ∷ []) ++ codes "BAR(c) 2012\n///b-"))) ≡ (codes "kbar copyright 2012 b-")
unfolding piece_of spell kind_of caseless encode_utf8 chars is_utf8 piece_cells piece_tokens
case_22 = refl

case_23 : piece_of profile [] true Optional (encode_utf8_all ((codes "x" ++ (0xB5 ∷ []) ++ codes "  "))) ≡ (codes "x" ++ (0xCE ∷ []) ++ (0xBC ∷ []) ++ codes " ")
unfolding piece_of spell kind_of caseless encode_utf8 chars is_utf8 piece_cells piece_tokens
case_23 = refl

case_24 : piece_of profile [] true Var (encode_utf8_all ((codes "__the123:   BARxCopyright-the--"))) ≡ (codes "__the123:barxcopyright-the-")
unfolding piece_of spell kind_of caseless encode_utf8 chars is_utf8 piece_cells piece_tokens
case_24 = refl

case_25 : piece_of profile [] false LineEnd (encode_utf8_all (((0xD ∷ []) ++ codes " . bar" ++ (0xA9 ∷ []) ++ codes ";https:///  */##(a) http\n**/"))) ≡ (codes " .bar copyright;https:*/##(a)http ")
unfolding piece_of spell kind_of caseless encode_utf8 chars is_utf8 piece_cells piece_tokens
case_25 = refl

case_26 : piece_of profile [] false Optional (encode_utf8_all ((codes "-- ///   \n" ++ (0x2013 ∷ []) ++ (0x2014 ∷ []) ++ codes "http-" ++ (0xD ∷ []) ++ codes "\nthetheHTTPS://x.orgdnl-the"))) ≡ (codes "--http-thethehttps://x.orgdnl-the")
unfolding piece_of spell kind_of caseless encode_utf8 chars is_utf8 piece_cells piece_tokens
case_26 = refl

case_27 : piece_of profile [] false Var (encode_utf8_all ((codes "12) .\n" ++ (0x2043 ∷ []) ++ (0xA1 ∷ []) ++ (0xA7 ∷ []) ++ (0x2018 ∷ []) ++ (0x2018 ∷ []) ++ (0x2018 ∷ []) ++ codes "ofbar"))) ≡ (codes "12)." ++ (0xE2 ∷ []) ++ (0x81 ∷ []) ++ (0x83 ∷ []) ++ (0xC2 ∷ []) ++ (0xA1 ∷ []) ++ (0xC2 ∷ []) ++ (0xA7 ∷ []) ++ codes "ofbar")
unfolding piece_of spell kind_of caseless encode_utf8 chars is_utf8 piece_cells piece_tokens
case_27 = refl

case_28 : piece_of profile [] true LineEnd (encode_utf8_all ((codes " " ++ (0x9 ∷ [])))) ≡ (codes " ")
unfolding piece_of spell kind_of caseless encode_utf8 chars is_utf8 piece_cells piece_tokens
case_28 = refl

case_29 : piece_of profile [] true Optional (encode_utf8_all ((codes "&&&" ++ (0x9 ∷ []) ++ (0x1F600 ∷ []) ++ codes "foohttps : / /x  $$$" ++ (0x201F ∷ [])))) ≡ (codes " " ++ (0xF0 ∷ []) ++ (0x9F ∷ []) ++ (0x98 ∷ []) ++ (0x80 ∷ []) ++ codes "foohttps://x'")
unfolding piece_of spell kind_of caseless encode_utf8 chars is_utf8 piece_cells piece_tokens
case_29 = refl

case_30 : piece_of profile [] true Var (encode_utf8_all ((codes "(c ) http\n" ++ (0x9 ∷ []) ++ (0xD ∷ []) ++ codes "the"))) ≡ (codes "(c)http the")
unfolding piece_of spell kind_of caseless encode_utf8 chars is_utf8 piece_cells piece_tokens
case_30 = refl

case_31 : piece_of profile [] false LineEnd (encode_utf8_all ((codes "\nREM___.(c) " ++ (0x2500 ∷ []) ++ (0x2022 ∷ []) ++ codes "-->  colour"))) ≡ (codes " rem.copyright" ++ (0xE2 ∷ []) ++ (0x94 ∷ []) ++ (0x80 ∷ []) ++ (0xE2 ∷ []) ++ (0x80 ∷ []) ++ (0xA2 ∷ []) ++ codes "->colour")
unfolding piece_of spell kind_of caseless encode_utf8 chars is_utf8 piece_cells piece_tokens
case_31 = refl

case_32 : piece_of profile [] false Optional (encode_utf8_all ((codes "enda-b,,,$$$ '\\\"" ++ (0x202F ∷ []) ++ codes "BAR(c) 20121.barBAR"))) ≡ (codes "enda-b'\\'bar copyright 20121.barbar")
unfolding piece_of spell kind_of caseless encode_utf8 chars is_utf8 piece_cells piece_tokens
case_32 = refl

case_33 : piece_of profile [] false Var (encode_utf8_all (((0x1F600 ∷ []) ++ codes "x" ++ (0x2010 ∷ []) ++ codes "," ++ (0xFFFD ∷ []) ++ codes " " ++ (0x2502 ∷ []) ++ codes "http"))) ≡ ((0xF0 ∷ []) ++ (0x9F ∷ []) ++ (0x98 ∷ []) ++ (0x80 ∷ []) ++ codes "x-," ++ (0xEF ∷ []) ++ (0xBF ∷ []) ++ (0xBD ∷ []) ++ (0xE2 ∷ []) ++ (0x94 ∷ []) ++ (0x82 ∷ []) ++ codes "http")
unfolding piece_of spell kind_of caseless encode_utf8 chars is_utf8 piece_cells piece_tokens
case_33 = refl

case_34 : piece_of profile [] true LineEnd (encode_utf8_all ((codes "sub license \n -Foo\""))) ≡ (codes "sub license-foo'")
unfolding piece_of spell kind_of caseless encode_utf8 chars is_utf8 piece_cells piece_tokens
case_34 = refl

case_35 : piece_of profile [] true Optional (encode_utf8_all (((0xDF ∷ []) ++ codes "  a{-color)))sublicense<< "))) ≡ (codes "ss a{-color sublicense<< ")
unfolding piece_of spell kind_of caseless encode_utf8 chars is_utf8 piece_cells piece_tokens
case_35 = refl

case_36 : piece_of profile [] true Var (encode_utf8_all ((codes "a" ++ (0xFF0D ∷ []) ++ codes " //" ++ (0x2022 ∷ []) ++ codes " BARviiii. ,,, \n\n\n\n( c )FooHTTPS://x.org"))) ≡ (codes "a-//" ++ (0xE2 ∷ []) ++ (0x80 ∷ []) ++ (0xA2 ∷ []) ++ codes "barviiii.(c)foohttps://x.org")
unfolding piece_of spell kind_of caseless encode_utf8 chars is_utf8 piece_cells piece_tokens
case_36 = refl

case_37 : piece_of profile [] false LineEnd (encode_utf8_all ((codes "end \n\n" ++ (0x2027 ∷ []) ++ codes ".\\\"\nhttps:/ *  dnl"))) ≡ (codes "end " ++ (0xE2 ∷ []) ++ (0x80 ∷ []) ++ (0xA7 ∷ []) ++ codes ".\\'https:/*dnl")
unfolding piece_of spell kind_of caseless encode_utf8 chars is_utf8 piece_cells piece_tokens
case_37 = refl

case_38 : piece_of profile [] false Optional (encode_utf8_all ((codes "(c ).x.\\\"-" ++ (0xD ∷ []) ++ codes "\nsublicense"))) ≡ (codes "(c).x.\\'-sublicense")
unfolding piece_of spell kind_of caseless encode_utf8 chars is_utf8 piece_cells piece_tokens
case_38 = refl

case_39 : piece_of profile [] false Var (encode_utf8_all ((codes "\n\nviiii. Copyright1.2345. of(c)(c)\n the"))) ≡ (codes " copyright1.2345.of copyright the")
unfolding piece_of spell kind_of caseless encode_utf8 chars is_utf8 piece_cells piece_tokens
case_39 = refl

case_40 : piece_of profile [] true LineEnd (encode_utf8_all ((codes "cxa   \n " ++ (0x9 ∷ []) ++ codes "https:///\n\n a "))) ≡ (codes "cxa https:a ")
unfolding piece_of spell kind_of caseless encode_utf8 chars is_utf8 piece_cells piece_tokens
case_40 = refl

case_41 : piece_of profile [] true Optional (encode_utf8_all (((0x9 ∷ []) ++ codes "- - " ++ (0x2502 ∷ []) ++ codes "(c)(c)"))) ≡ (codes " -" ++ (0xE2 ∷ []) ++ (0x94 ∷ []) ++ (0x82 ∷ []) ++ codes "copyright")
unfolding piece_of spell kind_of caseless encode_utf8 chars is_utf8 piece_cells piece_tokens
case_41 = refl

case_42 : piece_of profile [] true Var (encode_utf8_all (((0x2500 ∷ []) ++ (0x2500 ∷ []) ++ (0x2500 ∷ []) ++ codes "https:https://https:// /" ++ (0xA9 ∷ [])))) ≡ (codes " https:http://http:///copyright")
unfolding piece_of spell kind_of caseless encode_utf8 chars is_utf8 piece_cells piece_tokens
case_42 = refl

case_43 : piece_of profile [] false LineEnd (encode_utf8_all ((codes "https:///.12) (12) name-}--->" ++ (0x200B ∷ []) ++ codes "-}"))) ≡ (codes "https:.12)(12)name-}- ")
unfolding piece_of spell kind_of caseless encode_utf8 chars is_utf8 piece_cells piece_tokens
case_43 = refl

case_44 : piece_of profile [] false Optional (encode_utf8_all ((codes "\n.\n(12) " ++ (0x200C ∷ []) ++ codes "-https:// /" ++ (0xC ∷ []) ++ codes " " ++ (0x1C5 ∷ [])))) ≡ (codes " ." ++ (0xE2 ∷ []) ++ (0x80 ∷ []) ++ (0x8C ∷ []) ++ codes "-http:///" ++ (0xC7 ∷ []) ++ (0x86 ∷ []))
unfolding piece_of spell kind_of caseless encode_utf8 chars is_utf8 piece_cells piece_tokens
case_44 = refl

case_45 : piece_of profile [] false Var (encode_utf8_all ((codes "1. 2. color  nameFoo"))) ≡ (codes "1.2.color namefoo")
unfolding piece_of spell kind_of caseless encode_utf8 chars is_utf8 piece_cells piece_tokens
case_45 = refl

case_46 : piece_of profile [] true LineEnd (encode_utf8_all ((codes "\n (c ) #  * " ++ (0x9 ∷ []) ++ codes "thethe"))) ≡ (codes " (c)#*thethe")
unfolding piece_of spell kind_of caseless encode_utf8 chars is_utf8 piece_cells piece_tokens
case_46 = refl

case_47 : piece_of profile [] true Optional (encode_utf8_all (((0xD ∷ []) ++ codes "\n\\" ++ (0x9 ∷ []) ++ codes "( c )" ++ (0x9 ∷ []) ++ codes " ,__ " ++ (0x9 ∷ []) ++ codes "((  \n"))) ≡ (codes " \\(c),__(( ")
unfolding piece_of spell kind_of caseless encode_utf8 chars is_utf8 piece_cells piece_tokens
case_47 = refl

case_48 : piece_of profile [] true Var (encode_utf8_all ((codes "/*'' ( c )" ++ (0x9 ∷ []) ++ codes "a \n foo\\\\- -  (c) 2012 \n "))) ≡ (codes " '(c)a foo\\\\--copyright 2012 ")
unfolding piece_of spell kind_of caseless encode_utf8 chars is_utf8 piece_cells piece_tokens
case_48 = refl

case_49 : piece_of profile (record { texts = (codes "foo") ∷ (codes "bar") ∷ []; spelling = (codes "foo bar") } ∷ record { texts = (codes "color") ∷ []; spelling = (codes "foo bar") } ∷ []) false LineEnd (encode_utf8_all (((0x1680 ∷ []) ++ codes "(b)---123: -" ++ (0x2500 ∷ []) ++ (0x2500 ∷ []) ++ (0x2500 ∷ []) ++ codes "https://ofpercent" ++ (0x1E9E ∷ []) ++ codes " c" ++ (0xD ∷ []) ++ codes "1. \n,-}sub-license" ++ (0x9 ∷ []) ++ codes "(c) 2(1) COPYRIGHT"))) ≡ (codes " (b)123:-http://ofpercentss c 1.,-}sub-license copyright 2(1)copyright")
unfolding piece_of spell kind_of caseless encode_utf8 chars is_utf8 piece_cells piece_tokens
case_49 = refl

case_50 : piece_of profile (record { texts = (codes "colour") ∷ []; spelling = (codes "colour") } ∷ record { texts = (codes "a") ∷ (codes "b") ∷ (codes "c") ∷ []; spelling = (codes "colour") } ∷ record { texts = (codes "of") ∷ []; spelling = (codes "colour") } ∷ []) false Optional (encode_utf8_all ((codes "https:https://\n((https:// /REM" ++ (0x9 ∷ []) ++ codes "\n\n(*"))) ≡ (codes "https:http://((http:///rem ")
unfolding piece_of spell kind_of caseless encode_utf8 chars is_utf8 piece_cells piece_tokens
case_50 = refl

case_51 : piece_of profile (record { texts = (codes "'") ∷ []; spelling = (codes "sub-license") } ∷ record { texts = (codes "sub") ∷ (codes "-") ∷ (codes "license") ∷ []; spelling = (codes "sub-license") } ∷ record { texts = (codes "a") ∷ (codes "b") ∷ []; spelling = (codes "a b") } ∷ record { texts = (codes "x") ∷ []; spelling = (codes "a b") } ∷ []) false Var (encode_utf8_all ((codes "**-https://(c )"))) ≡ (codes "**-http://(c)")
unfolding piece_of spell kind_of caseless encode_utf8 chars is_utf8 piece_cells piece_tokens
case_51 = refl

case_52 : piece_of profile (record { texts = (codes "foo") ∷ (codes "-") ∷ (codes "bar") ∷ []; spelling = (codes "sublicense") } ∷ record { texts = (codes "colour") ∷ []; spelling = (codes "sublicense") } ∷ record { texts = (codes "sublicense") ∷ []; spelling = (codes "sublicense") } ∷ []) true LineEnd (encode_utf8_all ((codes "the <<Foo" ++ (0xA9 ∷ []) ++ (0xA9 ∷ []) ++ codes "``\n>> \n    " ++ (0x3C2 ∷ []) ++ codes "   (c) 2," ++ (0x200B ∷ []) ++ codes "https:/.b\n-}c (12) ####"))) ≡ (codes "the<<foo copyright'" ++ (0xCF ∷ []) ++ (0x83 ∷ []) ++ codes " copyright 2,https:/.b c(12) ")
unfolding piece_of spell kind_of caseless encode_utf8 chars is_utf8 piece_cells piece_tokens
case_52 = refl

case_53 : piece_of profile (record { texts = (codes "copyright") ∷ (codes "x") ∷ []; spelling = (codes "copyright x") } ∷ record { texts = (codes "a") ∷ (codes "-") ∷ (codes "b") ∷ []; spelling = (codes "copyright x") } ∷ record { texts = (codes "foo") ∷ (codes "bar") ∷ []; spelling = (codes "foo bar") } ∷ []) true Optional (encode_utf8_all ((codes "HTTPS://x.orgc " ++ (0x9 ∷ []) ++ codes "  \"\"\"\"\"\"-}foo " ++ (0xD ∷ []) ++ codes " ***colour"))) ≡ (codes "http://x.orgc-}foo colour")
unfolding piece_of spell kind_of caseless encode_utf8 chars is_utf8 piece_cells piece_tokens
case_53 = refl

case_54 : piece_of profile (record { texts = (codes "sub") ∷ (codes "license") ∷ []; spelling = (codes "sub license") } ∷ record { texts = (codes "sub") ∷ (codes "-") ∷ (codes "license") ∷ []; spelling = (codes "sub-license") } ∷ []) true Var (encode_utf8_all (((0x2027 ∷ []) ++ codes "-}\ntheb) xhttps://.bar"))) ≡ ((0xE2 ∷ []) ++ (0x80 ∷ []) ++ (0xA7 ∷ []) ++ codes " theb)xhttps://.bar")
unfolding piece_of spell kind_of caseless encode_utf8 chars is_utf8 piece_cells piece_tokens
case_54 = refl

case_55 : piece_of profile (record { texts = (codes "sub") ∷ (codes "-") ∷ (codes "license") ∷ []; spelling = (codes "sub-license") } ∷ record { texts = (codes "color") ∷ []; spelling = (codes "sub-license") } ∷ []) false LineEnd (encode_utf8_all ((codes "-iv. \\\\\nhttps:///- \n (iv) | - "))) ≡ (codes "-iv.\\\\https:-|- ")
unfolding piece_of spell kind_of caseless encode_utf8 chars is_utf8 piece_cells piece_tokens
case_55 = refl

case_56 : piece_of profile (record { texts = (codes "percent") ∷ []; spelling = (codes "percent") } ∷ record { texts = (codes "b") ∷ (codes "c") ∷ []; spelling = (codes "b c") } ∷ record { texts = (codes "foo") ∷ (codes "bar") ∷ []; spelling = (codes "sublicense") } ∷ record { texts = (codes "sublicense") ∷ []; spelling = (codes "sublicense") } ∷ []) false Optional (encode_utf8_all ((codes "a"))) ≡ (codes "a")
unfolding piece_of spell kind_of caseless encode_utf8 chars is_utf8 piece_cells piece_tokens
case_56 = refl

case_57 : piece_of profile (record { texts = (codes "x") ∷ []; spelling = (codes "x") } ∷ []) false Var (encode_utf8_all ((codes "b " ++ (0xC ∷ []) ++ codes "of"))) ≡ (codes "b of")
unfolding piece_of spell kind_of caseless encode_utf8 chars is_utf8 piece_cells piece_tokens
case_57 = refl

case_58 : piece_of profile (record { texts = (codes "sublicense") ∷ []; spelling = (codes "sublicense") } ∷ []) true LineEnd (encode_utf8_all ((codes "(C) ////\nhttps:///1.2 ---> HTTPS://x.org --12) (c)" ++ (0x9 ∷ []) ++ codes "\nb "))) ≡ (codes " https:1.2>http://x.org-12)copyright b ")
unfolding piece_of spell kind_of caseless encode_utf8 chars is_utf8 piece_cells piece_tokens
case_58 = refl

case_59 : piece_of profile (record { texts = (codes "a") ∷ (codes "b") ∷ []; spelling = (codes "a-b") } ∷ record { texts = (codes "a") ∷ (codes "-") ∷ (codes "b") ∷ []; spelling = (codes "a-b") } ∷ []) true Optional (encode_utf8_all ((codes "https:/\"-\" " ++ (0xD ∷ []) ++ codes "\nhttp\n*)" ++ (0x1 ∷ []) ++ (0xA9 ∷ []) ++ codes "-**/\npercent,\n" ++ (0xAD ∷ []) ++ codes "dnlb" ++ (0xD ∷ []) ++ codes " \n\n'' "))) ≡ (codes "https:/'-'http " ++ (0x1 ∷ []) ++ codes " copyright-percent,dnlb' ")
unfolding piece_of spell kind_of caseless encode_utf8 chars is_utf8 piece_cells piece_tokens
case_59 = refl

case_60 : piece_of profile (record { texts = (codes "a") ∷ (codes "-") ∷ (codes "b") ∷ []; spelling = (codes "a-b") } ∷ record { texts = (codes "x") ∷ []; spelling = (codes "a-b") } ∷ []) true Var (encode_utf8_all ((codes "( c )" ++ (0xD ∷ []) ++ codes "http ((" ++ (0x9 ∷ [])))) ≡ (codes "(c)http(( ")
unfolding piece_of spell kind_of caseless encode_utf8 chars is_utf8 piece_cells piece_tokens
case_60 = refl

case_61 : piece_of profile (record { texts = (codes "a") ∷ (codes "b") ∷ []; spelling = (codes "percent") } ∷ record { texts = (codes "a") ∷ (codes "b") ∷ (codes "c") ∷ []; spelling = (codes "percent") } ∷ record { texts = (codes "percent") ∷ []; spelling = (codes "percent") } ∷ []) false LineEnd (encode_utf8_all ((codes "***/ "))) ≡ (codes " ")
unfolding piece_of spell kind_of caseless encode_utf8 chars is_utf8 piece_cells piece_tokens
case_61 = refl

case_62 : piece_of profile (record { texts = (codes "foo") ∷ (codes "bar") ∷ []; spelling = (codes "foo bar") } ∷ []) false Optional (encode_utf8_all ((codes "Foo\\(a) COPYRIGHT "))) ≡ (codes "foo\\(a)copyright ")
unfolding piece_of spell kind_of caseless encode_utf8 chars is_utf8 piece_cells piece_tokens
case_62 = refl

case_63 : piece_of profile (record { texts = (codes "per") ∷ (codes "cent") ∷ []; spelling = (codes "per cent") } ∷ record { texts = (codes "percent") ∷ []; spelling = (codes "the") } ∷ record { texts = (codes "the") ∷ []; spelling = (codes "the") } ∷ record { texts = (codes "colour") ∷ []; spelling = (codes "colour") } ∷ []) false Var (encode_utf8_all ((codes "'-'b) \n(c) 2Foo\n\nofof"))) ≡ (codes "'-'b)copyright 2foo ofof")
unfolding piece_of spell kind_of caseless encode_utf8 chars is_utf8 piece_cells piece_tokens
case_63 = refl

case_64 : piece_of profile (record { texts = (codes "foo") ∷ (codes "-") ∷ (codes "bar") ∷ []; spelling = (codes "foo-bar") } ∷ record { texts = (codes "a") ∷ (codes "b") ∷ (codes "c") ∷ []; spelling = (codes "foo-bar") } ∷ record { texts = (codes "b") ∷ (codes "c") ∷ []; spelling = (codes "b c") } ∷ []) true LineEnd (encode_utf8_all ((codes "#   ,,,\n\n"))) ≡ (codes " ")
unfolding piece_of spell kind_of caseless encode_utf8 chars is_utf8 piece_cells piece_tokens
case_64 = refl

case_65 : piece_of profile (record { texts = (codes "the") ∷ []; spelling = (codes "the") } ∷ record { texts = (codes "http") ∷ (codes ":") ∷ (codes "/") ∷ (codes "/") ∷ (codes "x") ∷ []; spelling = (codes "the") } ∷ []) true Optional (encode_utf8_all (((0x2014 ∷ []) ++ (0x2014 ∷ []) ++ (0x2014 ∷ []) ++ codes ",\\\\*)"))) ≡ (codes " ,\\\\*)")
unfolding piece_of spell kind_of caseless encode_utf8 chars is_utf8 piece_cells piece_tokens
case_65 = refl

case_66 : piece_of profile (record { texts = (codes "a") ∷ (codes "b") ∷ []; spelling = (codes "a b") } ∷ record { texts = (codes "'") ∷ []; spelling = (codes "a b") } ∷ record { texts = (codes "sub") ∷ (codes "-") ∷ (codes "license") ∷ []; spelling = (codes "sub-license") } ∷ []) true Var (encode_utf8_all ((codes "\n\n\n" ++ (0x2016 ∷ []) ++ codes "<<bar \nx"))) ≡ (codes " " ++ (0xE2 ∷ []) ++ (0x80 ∷ []) ++ (0x96 ∷ []) ++ codes "<<bar x")
unfolding piece_of spell kind_of caseless encode_utf8 chars is_utf8 piece_cells piece_tokens
case_66 = refl
