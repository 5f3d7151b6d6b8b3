-- The shortest word that a variable can match.
use Rattle.std.specs.Prelude.{◌≡◌, ◌⊎◌, ℕ, ◌<◌, ◌≤◌, ◌==◌, ◌&&◌, ◌||◌, not, nat_lt, nat_le, Bool, List, [], All, count_by, slice_range}
use Rattle.lic_words.specs.Words.{Word}
use Rattle.lic_words.specs.Expressions.{Expression, Language, tidy}
use Rattle.lic_words.specs.Letters.{letters_in}
use Rattle.lic_norm.specs.Tokens.{TokenValue}
use Rattle.lic_places.specs.Places.{spelling_of}
use Rattle.lic_spans.specs.Spans.{Holds}
use Rattle.lic_spans.specs.declared.span.SpanKind.{SpanKind}
use Rattle.lic_spans.specs.declared.span.PlaceSpan.{PlaceSpan}
use Rattle.lic_view.specs.PlaceSets.{IsPlaceOf, Reaches}
use Rattle.lic_vars.specs.Cuts.{LeadsTo, ReadsFrom}
use Rattle.lic_vars.specs.declared.cut.Cut.{Cut}

-- whether a letter that is no blank begins with the byte
abbrev pub begins_letter : ℕ → Bool
begins_letter byte = not (byte == 0x20) && (nat_lt byte 0x80 || nat_le 0xC0 byte)

-- how many letters that are no blanks begin from one place up to the other
abbrev pub letters_between : List ℕ → ℕ → ℕ → ℕ
letters_between bytes p q = count_by begins_letter (slice_range bytes p q)

-- a tidy word leads from the cut to a place of the spans whose number is no greater than this one
pub record LeadsWithin (tokens : List TokenValue) (words : Expression) (spans : List PlaceSpan) (cut : Cut) (high : ℕ) : Type 0 where
  pub kind : SpanKind
  pub number : ℕ
  pub last : ℕ
  pub holds : Holds spans kind number last
  pub within : number ≤ high
  pub end : ℕ
  pub place : IsPlaceOf tokens kind number end
  pub word : Word
  pub is : Language (tidy words) word
  pub reads : ReadsFrom tokens cut word end

-- the least such number
pub record IsLeastNumber (tokens : List TokenValue) (words : Expression) (spans : List PlaceSpan) (cut : Cut) (number : ℕ) : Type 0 where
  pub leads : LeadsWithin tokens words spans cut number
  pub least : (m : ℕ) → m < number → ¬ (LeadsWithin tokens words spans cut m)

-- no number before the low one is such a number, and the high one is
pub record IsBetween (tokens : List TokenValue) (words : Expression) (spans : List PlaceSpan) (cut : Cut) (low high : ℕ) : Type 0 where
  pub order : low ≤ high
  pub before : (m : ℕ) → m < low → ¬ (LeadsWithin tokens words spans cut m)
  pub leads : LeadsWithin tokens words spans cut high

-- the spans have no number from the low one on that is below the high one
pub record HaveNone (spans : List PlaceSpan) (low high : ℕ) : Type 0 where
  pub none : (kind : SpanKind) (number last : ℕ) → Holds spans kind number last → low ≤ number → number < high → ⊥

-- the spans with their numbers from the low one to the high one alone
pub record AreWithin (spans : List PlaceSpan) (low high : ℕ) (found : List PlaceSpan) : Type 0 where
  pub ordered : All (λ s. s.low ≤ s.high) found
  pub sound : (kind : SpanKind) (number last : ℕ) → Holds found kind number last → Holds spans kind number last × (number ≤ high)
  pub all : (kind : SpanKind) (number last : ℕ) → Holds spans kind number last → low ≤ number → number ≤ high → Holds found kind number last

-- a tidy word with the fewest letters leads from the one cut to the other, and any other with as few
pub record IsShortest (tokens : List TokenValue) (words : Expression) (spans : List PlaceSpan) (cut next : Cut) : Type 0 where
  pub word : Word
  pub is : Language (tidy words) word
  pub leads : LeadsTo tokens cut word next
  pub end : ℕ
  pub last : ℕ
  pub reached : Reaches tokens spans end last
  pub here : ReadsFrom tokens next [] end
  pub forward : cut.place ≤ next.place
  pub count : letters_in word ≡ letters_between (spelling_of tokens) cut.place next.place
  pub least : (v : Word) (q l : ℕ) → Language (tidy words) v → ReadsFrom tokens cut v q → Reaches tokens spans q l
      → (letters_in word < letters_in v) ⊎ ((letters_in word ≡ letters_in v) × LeadsTo tokens cut v next)
