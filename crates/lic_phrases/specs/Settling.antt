-- Tokens that come one by one: what is settled, and what is kept back.
use Rattle.std.specs.Prelude.{◌≡◌, ◌+◌, ◌≤◌, ℕ, List, [], ◌∷◌, ◌++◌, length, map}
use Rattle.lic_lines.specs.Tokens.{Token}
use Rattle.lic_phrases.specs.Rewriting.{Phrase, SpannedText, spanned, sign_sequences, https_as_http, phrases_joined, rewritten}

-- What each step of the rewriting keeps back: tokens that it has taken and not yet given to the next.
pub record Kept : Type 0 where
  -- a token to which signs may come
  pub sign : List Token
  -- tokens of which the first may be an `https`
  pub address : List Token
  -- tokens that may begin a longer phrase
  pub phrase : List Token

abbrev pub nothing_kept : Kept
nothing_kept = record { sign = []; address = []; phrase = [] }

-- how many tokens the steps keep back at most
pub record IsShort (kept : Kept) : Type 0 where
  pub sign : length kept.sign ≤ 1
  pub address : length kept.address ≤ 3
  pub phrase : length kept.phrase ≤ 7

-- what the steps after the first still give for what they keep, with these sequences of signs and other tokens after it
abbrev pub left_of_sequences : List Phrase → Kept → List Token → List SpannedText
left_of_sequences words kept rest = map spanned (phrases_joined words (kept.phrase ++ https_as_http (kept.address ++ rest)))

-- what the steps still give for what they keep, with these tokens after it
abbrev pub left_of : List Phrase → Kept → List Token → List SpannedText
left_of words kept rest = left_of_sequences words kept (sign_sequences (kept.sign ++ rest))

-- The steps after the first took these sequences. They have given more, and the whole is the same, whatever sequences follow.
abbrev pub GivesSequences : List Phrase → List SpannedText → Kept → List Token → List SpannedText → Kept → Type 0
GivesSequences words given kept sequences given' kept' =
    (rest : List Token) → given ++ left_of_sequences words kept (sequences ++ rest) ≡ given' ++ left_of_sequences words kept' rest

-- Of the tokens taken so far these are settled, and the others come from what is kept, whatever tokens follow: so the
-- settled ones begin the tokens of every text that begins so. Little is kept, and so at most 11 tokens of the text so far
-- are not settled.
pub record Settles (words : List Phrase) (taken : List Token) (settled : List SpannedText) (kept : Kept) : Type 0 where
  pub continues : (rest : List Token) → rewritten words (taken ++ rest) ≡ settled ++ left_of words kept rest
  pub short : IsShort kept
  pub nearly_all : length (rewritten words taken) ≤ length settled + 11

-- Where none is kept back, a token of this text is settled at once and as it is, and none is kept back then.
abbrev pub IsLeft : List Phrase → List ℕ → Type 0
IsLeft words text =
    (settled : List SpannedText) (taken : List Token) (token : Token) → token.text ≡ text → Settles words taken settled nothing_kept
    → Settles words (taken ++ token ∷ []) (settled ++ spanned token ∷ []) nothing_kept
