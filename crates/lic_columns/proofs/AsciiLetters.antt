-- The letters of a text of ASCII are ASCII.
use Rattle.std.proofs.Common.{◌≡◌, ℕ, ◌<◌, Bool, true, false, ◌&&◌, ◌||◌, List, length, map, get_or, sym, ap, ◌∙◌, inl, inr, arith, subst, refl}
use Rattle.std.specs.Prelude.{IsAscii, nat_lt}
use Rattle.std.specs.Char.{to_ascii_lowercase}
use Rattle.std.proofs.lemmas.Bool.{cases_lt, cond-false}
use Rattle.std.proofs.lemmas.List.{get_or-map, get_or_past, length-map}
use Rattle.std.proofs.lemmas.Str.Ascii.{lowercase_ascii}
use Rattle.lic_kind.specs.declared.Kind.{Kind}
use Rattle.lic_kind.specs.declared.Kind.TheVariants as kind
use Rattle.lic_kind.specs.Kinds.{kind_of, is_word_kind, is_mark_kind, letter_of}
use Rattle.lic_kind.proofs.LetterLemmas.{spell-Mark}
use Rattle.lic_kind.proofs.WordFoldings.{spell-ascii}
use Rattle.lic_letters.specs.Bytes.{letter, has_letter}
use Rattle.lic_letters.proofs.InPlace.{letter_is}
use Rattle.lic_columns.proofs.LineTokens.{letter_below}

and-false : (t : Bool) → (t && false) ≡ false
and-false true = refl
and-false false = refl

pub letter_low : (b : ℕ) → b < 128 → letter b < 128
letter_low b small = go (kind_of b) refl
  where
    go : (k : Kind) → kind_of b ≡ k → letter b < 128
    go kind.Word e =
        subst (λ l. l < 128) (sym (letter_is b (to_ascii_lowercase b) small (spell-ascii b e small) (ap (λ k. is_word_kind k || is_mark_kind k) e)))
        (lowercase_ascii b small)
    go kind.Mark e =
        subst (λ l. l < 128) (sym (letter_is b (letter_of b) small (spell-Mark b e) (ap (λ k. is_word_kind k || is_mark_kind k) e)))
        (letter_below b small)
    go kind.Blank e =
        subst (λ l. l < 128) (sym (cond-false (has_letter b) _ _ (ap (λ k. nat_lt b 128 && (is_word_kind k || is_mark_kind k)) e ∙ and-false (nat_lt b 128)))) small
    go kind.Dropped e =
        subst (λ l. l < 128) (sym (cond-false (has_letter b) _ _ (ap (λ k. nat_lt b 128 && (is_word_kind k || is_mark_kind k)) e ∙ and-false (nat_lt b 128)))) small

pub letters_ascii : (text : List ℕ) → IsAscii text → IsAscii (map letter text)
letters_ascii text ascii = λ i. elim (cases_lt i (length text)) [
  | inl inside ↦ subst (λ l. l < 128) (sym (get_or-map letter text i 0 0 inside)) (letter_low (get_or text i 0) (ascii i))
  | inr past ↦ subst (λ l. l < 128) (sym (get_or_past (map letter text) i 0 (omega (arith, length-map text letter)))) (omega arith)
]
