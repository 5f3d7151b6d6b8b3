-- What came of what is loaded: of a file that an option names, and of the templates of a folder.
use Rattle.std.specs.Prelude.{◌≡◌, ◌⊎◌, ◌<◌, ◌≤◌, ℕ, List, [], ◌∷◌, ◌++◌, length, map, Option, None, Some}
use Rattle.std.specs.Str.{IsUtf8}
use Rattle.std.specs.String.{string_bytes}
use Rattle.lic_kind.specs.LineRules.{LineRules}
use Rattle.lic_kind.specs.RuleFiles.{lines_of, rules_in, AreSound, IsFirstFault, out_of_memory}
use Rattle.lic_phrases.specs.Rewriting.{Phrase}
use Rattle.lic_phrases.specs.WordLists.{AreWords, phrase_lines, first_fault, out_of_memory as no_memory_for_words}
use Rattle.lic_set.specs.Sets.{Known, IsSetOf, OccursTwice}
use Rattle.lic_set.specs.declared.set.BuildFault.{BuildFault}
use Rattle.lic_set.specs.declared.set.BuildFault.TheVariants.{TooMany, Twice, Memory as NoMemory}
use Rattle.lic_load.specs.Causes.{IsFileFault}
use Rattle.lic_load.specs.Listings.{IsReadBy}
use Rattle.lic_load.specs.Reporting.{IsRepeated, IsReported, line_of_template, line_of_unnamed}
use Rattle.lic_load.specs.declared.fault.FileFault.{FileFault}
use Rattle.lic_load.specs.declared.fault.FileFault.TheVariants.{Unreadable}
use Rattle.lic_load.specs.declared.fault.LoadFault.{LoadFault}
use Rattle.lic_load.specs.declared.fault.LoadFault.TheVariants.{Rules, Words, Set, Memory}
use Rattle.lic_load.specs.declared.templates.Listing.{Listing}

-- ---- files

-- these rules are what the lines of some bytes say
abbrev pub AreRulesOfFile : LineRules → Type 0
AreRulesOfFile rules = (bytes : List ℕ) × IsUtf8 bytes × AreSound (lines_of bytes) (length (lines_of bytes)) × (rules ≡ rules_in (lines_of bytes))

-- this list is what the lines of some bytes say
abbrev pub IsListOfFile : List Phrase → Type 0
IsListOfFile words = (bytes : List ℕ) × IsUtf8 bytes × (first_fault bytes ≡ None) × AreWords (phrase_lines bytes) words

-- a file cannot be read, or this is why its bytes are refused
abbrev pub IsFaultOfFile : {F : Type 0} → (List ℕ → F → Type 0) → FileFault F → Type 0
IsFaultOfFile IsFault fault = (fault ≡ Unreadable) ⊎ ((bytes : List ℕ) × IsFileFault bytes (IsFault bytes) fault)

-- why no rules are loaded
abbrev pub IsFaultOfRules : LoadFault → Type 0
IsFaultOfRules (Rules fault) = IsFaultOfFile (λ bytes fault. IsFirstFault (lines_of bytes) fault ⊎ (fault ≡ out_of_memory)) fault
IsFaultOfRules Memory = Unit {0}
IsFaultOfRules _ = ⊥

-- why no list is loaded
abbrev pub IsFaultOfList : LoadFault → Type 0
IsFaultOfList (Words fault) = IsFaultOfFile (λ bytes fault. (first_fault bytes ≡ Some fault) ⊎ (fault ≡ no_memory_for_words)) fault
IsFaultOfList Memory = Unit {0}
IsFaultOfList _ = ⊥

-- ---- templates

-- The templates with these identifiers were gone over in this order: some bytes are each of those that were read, by the rules and the list,
-- and a line says of each other that it is left out.
pub data AreGoneOver (rules : LineRules) (words : List Phrase) (old : Option (List ℕ)) (failed_old : ℕ)
    : List (List ℕ) → List Known → Option (List ℕ) → ℕ → Type 0 where
  nothing : AreGoneOver rules words old failed_old [] [] old failed_old
  read : {ids : List (List ℕ)} {known : List Known} {new : Option (List ℕ)} {failed_new : ℕ} (one : Known)
      → AreGoneOver rules words old failed_old ids known new failed_new → IsReadBy rules words one.template
      → AreGoneOver rules words old failed_old (ids ++ one.id ∷ []) (known ++ one ∷ []) new failed_new
  left_out : {ids : List (List ℕ)} {known : List Known} {mid new : Option (List ℕ)} {failed_mid failed_new : ℕ} (id why : List ℕ)
      → AreGoneOver rules words old failed_old ids known mid failed_mid
      → IsReported mid new failed_mid failed_new (line_of_template id why)
      → AreGoneOver rules words old failed_old (ids ++ id ∷ []) known new failed_new

-- Each name that is not UTF-8 is reported. Then the templates are gone over, and these are read.
pub record AreRead (rules : LineRules) (words : List Phrase) (listing : Listing) (old new : Option (List ℕ)) (failed_old failed_new : ℕ)
    (known : List Known) : Type 0 where
  pub mid : Option (List ℕ)
  pub failed_mid : ℕ
  pub unnamed : IsRepeated line_of_unnamed old failed_old listing.unnamed mid failed_mid
  pub gone_over : AreGoneOver rules words mid failed_mid (map string_bytes listing.ids.items) known new failed_new

-- The templates that are read are the set.
pub record IsLoaded (rules : LineRules) (words : List Phrase) (listing : Listing) (old new : Option (List ℕ)) (failed_old failed_new : ℕ)
    (set : List Known) : Type 0 where
  pub read : List Known
  pub are_read : AreRead rules words listing old new failed_old failed_new read
  pub set_of : IsSetOf read set

-- why these templates are no set: they are too many; or they are not, and two of them have this identifier; or memory ran out
abbrev pub IsFaultOfSet : List Known → BuildFault → Type 0
IsFaultOfSet known TooMany = 4096 < length known
IsFaultOfSet known (Twice id) = (length known ≤ 4096) × OccursTwice (string_bytes id) known
IsFaultOfSet known NoMemory = Unit {0}

-- why there is no set of the templates: memory ran out, or those that are read are none
abbrev pub IsFaultOfTemplates : LineRules → List Phrase → Listing → Option (List ℕ) → Option (List ℕ) → ℕ → ℕ → LoadFault → Type 0
IsFaultOfTemplates rules words listing old new failed_old failed_new (Set fault) =
    (known : List Known) × AreRead rules words listing old new failed_old failed_new known × IsFaultOfSet known fault
IsFaultOfTemplates rules words listing old new failed_old failed_new Memory = Unit {0}
IsFaultOfTemplates rules words listing old new failed_old failed_new _ = ⊥
