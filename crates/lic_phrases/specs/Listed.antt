-- What the code holds of a list of equivalent words.
use Rattle.std.specs.Prelude.{◌≡◌, ℕ, ◌<◌, ◌≤◌, List, [], ◌∷◌, ◌++◌, length, map, string_bytes, slice_index, slice_index_or, String, Some}
use Rattle.std.specs.List.{zip, All}
use Rattle.lic_phrases.specs.Rewriting.{Phrase}
use Rattle.lic_phrases.specs.Spelling.{spelled}
use Rattle.lic_phrases.specs.Keys.{texts_in, key_of, AreWithoutBlanks}
use Rattle.lic_phrases.specs.TokenTexts.{IsTokenText}
use Rattle.lic_phrases.specs.WordLists.{fault_from}
use Rattle.lic_phrases.specs.WordReading.{HasRead}
use Rattle.lic_phrases.specs.declared.fault.WordsCause.{WordsCause}
use Rattle.lic_phrases.specs.declared.words.phrase.ListedPhrase.{ListedPhrase}

-- the texts of the tokens of each phrase
abbrev pub phrases_in : List ListedPhrase → List (List (List ℕ))
phrases_in phrases = map (λ p. texts_in p.texts.items) phrases

-- each phrase's own spelling
abbrev pub spellings_in : List ListedPhrase → List (List ℕ)
spellings_in phrases = map (λ p. string_bytes p.spelling) phrases

-- each phrase with the spelling of the phrase that heads its class
abbrev pub with_representatives : List (List (List ℕ)) → List (List ℕ) → List ℕ → List Phrase
with_representatives phrases spellings heads =
    map (λ p. record { texts = p.0; spelling = slice_index_or spellings p.1 [] }) (zip phrases heads)

-- The keys of these phrases, whose texts hold no blank, so that a key is of one phrase alone; each phrase's own spelling, which
-- is the text of a token; and a class for each.
pub record AreListed {A : Type 0} (keys : List (String A)) (phrases : List ListedPhrase) (heads : List ℕ) : Type 0 where
  pub keyed : texts_in keys ≡ map key_of (phrases_in phrases)
  pub spellings : spellings_in phrases ≡ map spelled (phrases_in phrases)
  pub no_blanks : AreWithoutBlanks (phrases_in phrases)
  pub token_texts : All IsTokenText (spellings_in phrases)
  pub as_many : length heads ≡ length phrases

-- phrases of one to eight texts, no two the same, and for each the number of one that does not come after it
pub record HaveRepresentatives (phrases : List (List (List ℕ))) (heads : List ℕ) : Type 0 where
  pub some : (i : ℕ) → i < length phrases → 0 < length (slice_index_or phrases i [])
  pub few : (i : ℕ) → i < length phrases → length (slice_index_or phrases i []) ≤ 8
  pub distinct : (i j : ℕ) → i < length phrases → j < length phrases
      → slice_index_or phrases i [] ≡ slice_index_or phrases j [] → i ≡ j
  pub low : (i : ℕ) → i < length phrases → slice_index heads i ≤ i
  pub as_many : length heads ≡ length phrases

-- whatever was read before, one more phrase of the line is read, and has this number
abbrev pub ReadsPhrase : List ListedPhrase → List ℕ → List ListedPhrase → List ℕ → List (List ℕ) → ℕ → Type 0
ReadsPhrase old old_heads new new_heads phrase number =
    (lines : List (List (List (List ℕ)))) (line : List (List (List ℕ))) (numbers : List ℕ)
    → HasRead [] lines line (phrases_in old) old_heads numbers
    → HasRead [] lines (line ++ phrase ∷ []) (phrases_in new) new_heads (numbers ++ number ∷ [])

-- whatever lines were read before, one more is read
abbrev pub ReadsLine : List ListedPhrase → List ℕ → List ListedPhrase → List ℕ → List (List (List ℕ)) → Type 0
ReadsLine old old_heads new new_heads line =
    (lines : List (List (List (List ℕ)))) → HasRead [] lines [] (phrases_in old) old_heads []
    → HasRead [] (lines ++ line ∷ []) [] (phrases_in new) new_heads []

-- none of these phrases of a line is at fault, where `before` come before the first of them and `past` before what follows
abbrev pub HasNoFault : List (List (List ℕ)) → ℕ → ℕ → Type 0
HasNoFault line before past =
    (number : ℕ) (later : List (ℕ × List (List ℕ)))
    → fault_from before (map (λ phrase. (number, phrase)) line ++ later) ≡ fault_from past later

-- the first of these phrases that is at fault has this cause
abbrev pub HasFault : List (List (List ℕ)) → ℕ → WordsCause → Type 0
HasFault line before cause =
    (number : ℕ) (later : List (ℕ × List (List ℕ)))
    → fault_from before (map (λ phrase. (number, phrase)) line ++ later)
    ≡ Some (record { line = number; cause = cause })
