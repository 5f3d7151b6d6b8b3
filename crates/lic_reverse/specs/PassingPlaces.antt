-- Where a letter that passes leads to the place of a number.
use Rattle.std.specs.Prelude.{◌≡◌, ℕ, Bool, true, List}
use Rattle.lic_words.specs.Words.{blank}
use Rattle.lic_tokens.specs.Tokens.{TokenValue}
use Rattle.lic_places.specs.Places.{spelling_of}
use Rattle.lic_spans.specs.declared.span.SpanKind.{SpanKind}
use Rattle.lic_spans.specs.declared.span.SpanKind.TheVariants.{Place}
use Rattle.lic_view.specs.PlaceSets.{IsPlaceOf}
use Rattle.lic_view.specs.LettersBefore.{IsLetterBefore}

-- no letter that passes and is no blank comes before the place
abbrev pub LeadsNowhere : List TokenValue → (ℕ → Bool) → SpanKind → ℕ → Type 0
LeadsNowhere tokens passes kind number = (p q c : ℕ) → IsPlaceOf tokens kind number q → ¬ (c ≡ blank) → passes c ≡ true
    → ¬ (IsLetterBefore (spelling_of tokens) q p c)

-- such a letter begins here
pub record LeadsTo (tokens : List TokenValue) (passes : ℕ → Bool) (kind : SpanKind) (number p : ℕ) : Type 0 where
  pub place : ℕ
  pub letter : ℕ
  pub is : IsPlaceOf tokens kind number place
  pub dark : ¬ (letter ≡ blank)
  pub passes_it : passes letter ≡ true
  pub occurs : IsLetterBefore (spelling_of tokens) place p letter

-- such a letter leads to the place
abbrev pub LeadsToSome : List TokenValue → (ℕ → Bool) → ℕ → Type 0
LeadsToSome tokens passes place = (p : ℕ) × LeadsTo tokens passes Place place p
