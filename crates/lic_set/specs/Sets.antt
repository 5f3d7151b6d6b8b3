-- Sets of templates, in the order of their identifiers.
use Rattle.std.specs.Prelude.{◌≡◌, ℕ, ◌-◌, ◌<◌, ◌≤◌, List, [], ◌∷◌, length, slice_index_or, map, count_by, IsPermutation, String}
use Rattle.std.specs.Global.{Global}
use Rattle.std.specs.Str.{bytes_eq}
use Rattle.std.specs.String.{string_bytes}
use Rattle.std.specs.Ordering.{nat_cmp}
use Rattle.std.specs.Cmp.Lexicographic.{slice_cmp}
use Rattle.std.specs.declared.cmp.Ordering.TheVariants.{Less}
use Rattle.lic_words.specs.Expressions.{Expression}
use Rattle.lic_markup.specs.declared.part.Part.{Part}
use Rattle.lic_markup.specs.Parts.{TemplateValue, part_of}
use Rattle.lic_markup.specs.Meaning.{parts_words}
use Rattle.lic_set.specs.declared.set.Named.{Named}

-- a template under its identifier
pub record Known : Type 0 where
  pub id : List ℕ
  pub template : TemplateValue

-- the words of a template
abbrev pub words_of : Known → Expression
words_of known = parts_words (map part_of known.template.parts)

-- the parts of each template
abbrev pub parts_of : List Known → List (List Part)
parts_of set = map (λ known. known.template.parts) set

-- a template as it is kept
abbrev pub known_of : Named → Known
known_of n = record { id = string_bytes n.id; template = n.template }

-- the templates of a set
abbrev pub all_known : List Named → List Known
all_known named = map known_of named

-- a template as it is handed in, with its identifier
abbrev pub pair_known : String Global × TemplateValue → Known
pair_known p = record { id = string_bytes p.0; template = p.1 }

-- the templates that are handed in
abbrev pub pairs_known : List (String Global × TemplateValue) → List Known
pairs_known pairs = map pair_known pairs

-- the bytes of each identifier come after those of the one before, and the first after these
abbrev pub AscendFrom : List ℕ → List Known → Type 0
AscendFrom id [] = Unit {0}
AscendFrom id (k ∷ ks) = (slice_cmp nat_cmp id k.id ≡ Less) × AscendFrom k.id ks

-- by the bytes of the identifiers, no two the same
abbrev pub AreOrdered : List Known → Type 0
AreOrdered [] = Unit {0}
AreOrdered (k ∷ ks) = AscendFrom k.id ks

-- these templates and no others, each under its identifier, in order
pub record IsSetOf (handed_in set : List Known) : Type 0 where
  pub holds : IsPermutation handed_in set
  pub ordered : AreOrdered set

-- two templates or more have this identifier
abbrev pub OccursTwice : List ℕ → List Known → Type 0
OccursTwice id known = 2 ≤ count_by (λ k. bytes_eq k.id id) known

-- the identifier at this place is that of the place before
abbrev pub RepeatsAt : List (String Global × TemplateValue) → ℕ → Type 0
RepeatsAt pairs k =
    (0 < k) × (k < length pairs)
    × ((d : String Global × TemplateValue)
    → string_bytes (slice_index_or pairs (k - 1) d).0 ≡ string_bytes (slice_index_or pairs k d).0)
