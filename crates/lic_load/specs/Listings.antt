-- The names of a folder's templates, and what is read under them.
use Rattle.std.specs.Prelude.{◌≡◌, ◌≢◌, ℕ, ◌+◌, ◌++◌, [], List, codes, length, String}
use Rattle.std.specs.Global.{Global}
use Rattle.std.specs.String.{string_bytes}
use Rattle.std.specs.Ordering.{nat_cmp}
use Rattle.std.specs.declared.cmp.Ordering.{Ordering}
use Rattle.std.specs.Cmp.Lexicographic.{slice_cmp}
use Rattle.lic_kind.specs.LineRules.{LineRules}
use Rattle.lic_phrases.specs.Rewriting.{Phrase}
use Rattle.lic_markup.specs.Parts.{TemplateValue, template_of}
use Rattle.lic_markup.specs.Templates.{IsTemplate}
use Rattle.lic_load.specs.declared.templates.Listing.{Listing}

-- the name is that of a template's file: its identifier and then the ending, and the identifier is not empty
abbrev pub IsIdentifier : List ℕ → List ℕ → Type 0
IsIdentifier name id = (id ≢ []) × (name ≡ id ++ codes ".template.txt")

-- identifiers are compared by their bytes
abbrev pub compare : String Global → String Global → Ordering
compare a b = slice_cmp nat_cmp (string_bytes a) (string_bytes b)

-- how many templates the folder has by their names, those among them that are not UTF-8
abbrev pub count_of_names : Listing → ℕ
count_of_names listing = length listing.ids.items + listing.unnamed

-- some bytes are this template, by these rules and this list
abbrev pub IsReadBy : LineRules → List Phrase → TemplateValue → Type 0
IsReadBy rules words template = (bytes : List ℕ) × IsTemplate rules words bytes (template_of template)
