-- Going back over one part of a template.
use Rattle.std.specs.Prelude.{List}
use Rattle.lic_words.specs.Words.{Word}
use Rattle.lic_tokens.specs.Tokens.{TokenValue}
use Rattle.lic_spans.specs.declared.span.PlaceSpan.{PlaceSpan}
use Rattle.lic_view.specs.Backward.{IsBack}
use Rattle.lic_view.specs.declared.sets.keep.Keep.TheVariants.{Least}

-- the spans have the places from which a word of the set leads to those of other spans, each with its least last token
abbrev pub LeadBack : List TokenValue → (Word → Type 0) → List PlaceSpan → List PlaceSpan → Type 0
LeadBack tokens P ends begins = IsBack Least tokens P ends begins
