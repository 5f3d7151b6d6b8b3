-- The step of the rewriting that joins phrases, as it goes: what waits, what it has found, and what it has given.
use Rattle.std.specs.Prelude.{◌≡◌, ℕ, zero, suc, ◌<◌, Bool, true, List, [], ◌∷◌, ◌++◌, take, map, option_map, slice_index_or, Option, Some, None}
use Rattle.std.specs.List.{All}
use Rattle.std.specs.Option.{option_or}
use Rattle.lic_lines.specs.Tokens.{Token, small_bytes, tokens_in}
use Rattle.lic_lines.specs.declared.tokens.FirstToken.{FirstToken}
use Rattle.lic_phrases.specs.Rewriting.{Phrase, SpannedText, spanned, first_as, phrases_joined}
use Rattle.lic_phrases.specs.PhraseLists.{PhraseList, phrase_with}
use Rattle.lic_phrases.specs.declared.final_token.TokenText.{TokenText}
use Rattle.lic_phrases.specs.declared.final_token.TokenText.TheVariants.{Own, Class}
use Rattle.lic_phrases.specs.declared.final_token.FinalToken.{FinalToken}
use Rattle.lic_phrases.specs.declared.rewriter.merging.Found.{Found}

abbrev pub texts_of : List Token → List (List ℕ)
texts_of = map (λ t. t.text)

-- the phrase whose texts are the longest prefix, of up to n of these texts, that is a phrase
abbrev pub first_phrase : List Phrase → List (List ℕ) → ℕ → Option Phrase
first_phrase words texts zero = None
first_phrase words texts (suc n) = option_or (phrase_with words (take (suc n) texts)) (first_phrase words texts n)

-- the phrase that was found at the start of these tokens
abbrev pub phrase_found : List (List ℕ) → List Token → Found → Phrase
phrase_found spellings ts found =
    record { texts = take found.count (texts_of ts); spelling = slice_index_or spellings found.class [] }

-- ---- what is given

-- the text of a token, where the classes have these spellings
abbrev pub text_in : List (List ℕ) → TokenText → List ℕ
text_in spellings (Own text) = small_bytes text
text_in spellings (Class class) = slice_index_or spellings class []

abbrev pub spanned_in : List (List ℕ) → FinalToken → SpannedText
spanned_in spellings t = record { text = text_in spellings t.text; start = t.start; end = t.end }

-- how many of the waiting tokens become one
abbrev pub count_found : Option Found → ℕ
count_found None = 1
count_found (Some found) = found.count

-- what is given for the first of these tokens: itself, or the phrase that was found
abbrev pub first_given : List (List ℕ) → Option Found → List Token → List SpannedText
first_given spellings found [] = []
first_given spellings found (t ∷ ts) = spanned (first_as (option_map (phrase_found spellings (t ∷ ts)) found) t ts) ∷ []

-- what was given, and what the waiting tokens give with these after them
abbrev pub given_and_left : PhraseList → List FinalToken → List FirstToken → List Token → List SpannedText
given_and_left list given waiting rest =
    map (spanned_in list.spellings) given ++ map spanned (phrases_joined list.phrases (tokens_in waiting ++ rest))

-- Tokens that waited were given, and the whole is the same, whatever tokens follow; at the end of the text none do.
abbrev pub GivesMore : PhraseList → Bool → List FinalToken → List FirstToken → List FinalToken → List FirstToken
    → Type 0
GivesMore list at_end given waiting given' waiting' =
    (rest : List Token) → (at_end ≡ true → rest ≡ [])
    → given_and_left list given waiting rest ≡ given_and_left list given' waiting' rest

-- the class of a text, if it is the spelling of one, is one of `count` classes
abbrev pub IsKnownText : ℕ → TokenText → Type 0
IsKnownText count (Own text) = Unit {0}
IsKnownText count (Class class) = class < count

-- so for each of these tokens
abbrev pub AreKnown : ℕ → List FinalToken → Type 0
AreKnown count = All (λ t. IsKnownText count t.text)
