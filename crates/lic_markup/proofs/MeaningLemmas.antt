-- The words of parts.
use Rattle.std.proofs.Common.{◌≡◌, List, [], ◌∷◌, ◌++◌, map, Vec, String, Global, refl, sym, ap, ◌∙◌}
use Rattle.std.specs.String.{string_bytes}
use Rattle.std.specs.Str.{chars}
use Rattle.std.proofs.lemmas.List.{map-append}
use Rattle.lic_words.specs.Expressions.{alt, cat, cat_all, empty}
use Rattle.lic_words.specs.Expressions as words
use Rattle.lic_markup.specs.declared.part.Part.{Part, Part-F, fold-roll-Part}
use Rattle.lic_markup.specs.declared.part.Part.TheVariants.{Text, Optional, rolls-Text, rolls-Optional}
use Rattle.lic_markup.specs.Parts.{Node, part_node, part_of}
use Rattle.lic_markup.specs.Meaning.{node_words, parts_words, part_words}

-- the words of parts in a row are those of their expressions in a row
pub parts_words-sequence : (ps : List Part) → parts_words (map part_of ps) ≡ cat_all (map part_words ps)
parts_words-sequence [] = refl
parts_words-sequence (p ∷ ps) = ap (cat (part_words p)) (parts_words-sequence ps)

pub parts_words-append : (xs ys : List Part) → parts_words (map part_of (xs ++ ys)) ≡ cat_all (map part_words xs ++ map part_words ys)
parts_words-append xs ys = parts_words-sequence (xs ++ ys) ∙ ap cat_all (map-append part_words xs ys)

-- a text has its letters alone
pub part_words-Text : (text : String Global) → part_words (Text text) ≡ words.letters (chars (string_bytes text))
part_words-Text text = ap node_words (ap part_of (sym (rolls-Text text)) ∙ fold-roll-Part Node part_node (Part-F.Text text))

-- an optional part has the empty word and the words of its parts
pub part_words-Optional : (parts : Vec Part Global) → part_words (Optional parts) ≡ alt empty (cat_all (map part_words parts.items))
part_words-Optional parts =
    ap node_words (ap part_of (sym (rolls-Optional parts)) ∙ fold-roll-Part Node part_node (Part-F.Optional parts))
    ∙ ap (alt empty) (parts_words-sequence parts.items)
