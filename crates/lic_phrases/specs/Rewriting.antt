-- The rewriting of a text's tokens: sequences of signs, the scheme of web addresses, and phrases of equivalent words.
use Rattle.std.specs.Prelude.{ℕ, zero, suc, ◌-◌, Bool, true, false, ◌&&◌, nat_lt, if◌then◌else◌, List, [], ◌∷◌, length, take, map, codes, Option, Some, None}
use Rattle.std.specs.List.{flat_map}
use Rattle.lic_trim.specs.Texts.{groups}
use Rattle.lic_lines.specs.Tokens.{Token, is_text}

-- where the last of the tokens t ∷ ts ends
abbrev pub end_of_last : Token → List Token → ℕ
end_of_last t [] = t.end
end_of_last t (u ∷ ts) = end_of_last u ts

-- the tokens t ∷ ts as one with this text, from the first to the last
abbrev pub joined_as : List ℕ → Token → List Token → Token
joined_as text t ts = record t { text = text; end = end_of_last t ts }

-- ---- sequences of signs

abbrev pub is_sign : Token → Bool
is_sign = is_text (codes "copyright")

abbrev pub both_signs : Token → Token → Bool
both_signs t u = is_sign t && is_sign u

-- a sequence of signs as one sign; any other token is a sequence of its own
abbrev pub sign_of_sequence : List Token → List Token
sign_of_sequence [] = []
sign_of_sequence (t ∷ ts) = joined_as t.text t ts ∷ []

-- each longest sequence of neighbouring signs as one
abbrev pub sign_sequences : List Token → List Token
sign_sequences ts = flat_map sign_of_sequence (groups both_signs ts)

-- ---- web addresses

-- whether the tokens `:`, `/`, `/` come first
abbrev pub begins_authority : List Token → Bool
begins_authority (a ∷ b ∷ c ∷ ts) = is_text (codes ":") a && is_text (codes "/") b && is_text (codes "/") c
begins_authority _ = false

-- a token before these others: `https` as `http` where the others begin with `:`, `/`, `/`
abbrev pub without_secure : Token → List Token → Token
without_secure t ts = if is_text (codes "https") t && begins_authority ts then record t { text = codes "http" } else t

-- each `https` before `:`, `/`, `/` as `http`
abbrev pub https_as_http : List Token → List Token
https_as_http [] = []
https_as_http (t ∷ ts) = without_secure t ts ∷ https_as_http ts

-- ---- phrases

-- a phrase of a list of equivalent words: the texts of its tokens, and the spelling of its class
pub record Phrase : Type 0 where
  pub texts : List (List ℕ)
  pub spelling : List ℕ

-- whether tokens with these texts come first, in this order
abbrev pub begin_with_texts : List (List ℕ) → List Token → Bool
begin_with_texts [] ts = true
begin_with_texts (text ∷ texts) [] = false
begin_with_texts (text ∷ texts) (t ∷ ts) = is_text text t && begin_with_texts texts ts

-- the longer of two phrases, if there is a second, and the first where they are as long
abbrev pub longer : Phrase → Option Phrase → Phrase
longer p None = p
longer p (Some q) = if nat_lt (length p.texts) (length q.texts) then q else p

-- the longest phrase of the list, by number of tokens, that comes first
abbrev pub longest_phrase : List Phrase → List Token → Option Phrase
longest_phrase [] ts = None
longest_phrase (p ∷ words) ts =
    if begin_with_texts p.texts ts then Some (longer p (longest_phrase words ts)) else longest_phrase words ts

-- how many tokens after its first a phrase has
abbrev pub count_after : Option Phrase → ℕ
count_after None = 0
count_after (Some p) = length p.texts - 1

-- what the first token becomes: itself, or the phrase that begins with it as one token
abbrev pub first_as : Option Phrase → Token → List Token → Token
first_as None t ts = t
first_as (Some p) t ts = joined_as p.spelling t (take (length p.texts - 1) ts)

-- the phrases from the left on, after this many tokens that went into one
abbrev pub phrases_after : List Phrase → ℕ → List Token → List Token
phrases_after words n [] = []
phrases_after words (suc n) (t ∷ ts) = phrases_after words n ts
phrases_after words zero (t ∷ ts) =
    let phrase = longest_phrase words (t ∷ ts) in
    first_as phrase t ts ∷ phrases_after words (count_after phrase) ts

-- from the left, at each token the longest phrase as one token, which is left as it is from then on
abbrev pub phrases_joined : List Phrase → List Token → List Token
phrases_joined words ts = phrases_after words 0 ts

-- ---- the three in a row

-- a token as it is reported: its text in UTF-8, and its span in bytes
pub record SpannedText : Type 0 where
  pub text : List ℕ
  pub start : ℕ
  pub end : ℕ

abbrev pub spanned : Token → SpannedText
spanned t = record { text = t.text; start = t.start; end = t.end }

-- the tokens of a text, from its first tokens with single signs joined
abbrev pub rewritten : List Phrase → List Token → List SpannedText
rewritten words ts = map spanned (phrases_joined words (https_as_http (sign_sequences ts)))
