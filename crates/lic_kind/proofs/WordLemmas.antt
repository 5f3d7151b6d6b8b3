-- Words of a rules file that are compared with words of ASCII.
use Rattle.std.proofs.Common.{◌≡◌, ◌≢◌, ℕ, true, false, List, ◌∷◌, Option, None, inl, inr, sym, ap, ◌∙◌, codes}
use Rattle.std.specs.Str.{chars, IsUtf8, encode_utf8_all}
use Rattle.std.specs.Option.{option_map_or}
use Rattle.std.proofs.lemmas.Bool.{cases_Bool, cond-true, cond-false}
use Rattle.std.proofs.lemmas.Str.{encodes-chars}
use Rattle.std.proofs.lemmas.Slice.Eq.{bytes_eq-Decides}
use Rattle.lic_kind.specs.RuleFiles.{comment, text, unknown, begins_in_hash, single, words_of, line_of, line_of_words, is_word, kind_named, switched, rule_line}

-- a word that is not this text has other characters
pub other_word : (known word : List ℕ) → IsUtf8 word → encode_utf8_all known ≡ known → word ≢ known → is_word known (chars word) ≡ false
other_word known word utf8 ascii other = elim (cases_Bool (is_word known (chars word))) [
  | inl e ↦ absurd (other (sym (encodes-chars word utf8) ∙ ap encode_utf8_all ((bytes_eq-Decides (chars word) known).0 e) ∙ ascii))
  | inr e ↦ e
]

pub none_named : (word : List ℕ) → is_word (codes "lead") word ≡ false → is_word (codes "lead-space") word ≡ false → is_word (codes "tail") word ≡ false
    → is_word (codes "tail-space") word ≡ false → is_word (codes "tail-repeat") word ≡ false → kind_named word ≡ None
none_named word lead lead_space tail tail_space tail_repeat =
    cond-false _ _ _ lead ∙ cond-false _ _ _ lead_space ∙ cond-false _ _ _ tail ∙ cond-false _ _ _ tail_space ∙ cond-false _ _ _ tail_repeat

pub not_switched : (word : List ℕ) → is_word (codes "on") word ≡ false → is_word (codes "off") word ≡ false → switched word ≡ None
not_switched word on off = cond-false _ _ _ on ∙ cond-false _ _ _ off

-- a line that begins with neither switch
pub neither : (word : List ℕ) (following : Option (List ℕ)) → is_word (codes "items") word ≡ false → is_word (codes "separators") word ≡ false
    → rule_line word following ≡ option_map_or (λ kind. text kind following) (kind_named word) unknown
neither word following items separators = cond-false _ _ _ items ∙ cond-false _ _ _ separators

-- a line whose words are known
pub comment_line : (line word : List ℕ) (words : List (List ℕ)) → words_of (chars line) ≡ word ∷ words → begins_in_hash word ≡ true → line_of line ≡ comment
comment_line line word words are hash = ap line_of_words are ∙ cond-true _ _ _ hash

pub other_line : (line word : List ℕ) (words : List (List ℕ)) → words_of (chars line) ≡ word ∷ words → begins_in_hash word ≡ false
    → line_of line ≡ rule_line word (single words)
other_line line word words are dark = ap line_of_words are ∙ cond-false _ _ _ dark
