-- Parts of templates, one after another from the last.
use Rattle.std.proofs.Common.{◌≡◌, ℕ, suc, ◌-◌, ◌<◌, ◌≤◌, List, [], ◌∷◌, ◌++◌, length, map, sym, ap, arith, subst, ◌∙◌, drop, get_or, drop-cons}
use Rattle.std.proofs.Math.Seq.{drop-length}
use Rattle.std.specs.Str.{chars}
use Rattle.std.proofs.lemmas.List.{append-nil}
use Rattle.lic_words.specs.Words.{Cat, Word}
use Rattle.lic_words.specs.Expressions.{Language, alt, empty, letters}
use Rattle.lic_markup.specs.declared.part.Part.{Part}
use Rattle.lic_markup.specs.Meaning.{part_words, parts_words}
use Rattle.lic_markup.specs.Parts.{part_of}
use Rattle.lic_norm.specs.Tokens.{TokenValue}
use Rattle.lic_places.specs.Places.{AreTexts}
use Rattle.lic_spans.specs.declared.span.PlaceSpan.{PlaceSpan}
use Rattle.lic_view.specs.PlaceSets.{ArePlaced, Reaches}
use Rattle.lic_view.specs.Backward.{IsBack, Keeps}
use Rattle.lic_search.specs.Copies.{AreCopies, words_from}
use Rattle.lic_view.specs.Merged.{AreMerged}
use Rattle.lic_reverse.specs.Tidily.{UpTo}
use Rattle.lic_view.proofs.MergeLemmas.{merged-back}
use Rattle.lic_view.proofs.Back.{back-after, back-either, back-keeps, back-same, back-stay}
use Rattle.lic_view.specs.declared.sets.keep.Keep.{Keep}

-- after all parts
pub parts-last : (keep : Keep) (tokens : List TokenValue) (parts : List Part) (spans : List PlaceSpan) → ArePlaced tokens spans →
    IsBack keep tokens (Language (parts_words (map part_of (drop (length parts) parts)))) spans spans
parts-last keep tokens parts spans placed =
    subst (λ x. IsBack keep tokens (Language (parts_words (map part_of x))) spans spans) (sym (drop-length parts)) (back-stay keep tokens spans placed)

-- from one part more
pub parts-more : (keep : Keep) (tokens : List TokenValue) (parts : List Part) (end : ℕ) (d : Part) (spans one two : List PlaceSpan) → 0 < end → end ≤ length parts →
    IsBack keep tokens (Language (parts_words (map part_of (drop end parts)))) spans one →
    IsBack keep tokens (Language (part_words (get_or parts (end - 1) d))) one two →
    IsBack keep tokens (Language (parts_words (map part_of (drop (end - 1) parts)))) spans two
parts-more keep tokens parts end d spans one two some within back part =
    subst (λ x. IsBack keep tokens (Language (parts_words (map part_of x))) spans two) (sym cut)
    (back-after keep tokens (Language (parts_words (map part_of (drop end parts)))) (Language (part_words (get_or parts (end - 1) d))) (Reaches tokens spans) one two back part)
  where
    next : suc (end - 1) ≡ end
    next = omega arith

    cut : drop (end - 1) parts ≡ get_or parts (end - 1) d ∷ drop end parts
    cut = drop-cons parts (end - 1) d (omega arith) ∙ ap (λ n. get_or parts (end - 1) d ∷ drop n parts) next

-- all parts
pub parts-all : (keep : Keep) (tokens : List TokenValue) (parts : List Part) (end : ℕ) (spans found : List PlaceSpan) → end ≡ 0 →
    IsBack keep tokens (Language (parts_words (map part_of (drop end parts)))) spans found → IsBack keep tokens (Language (parts_words (map part_of parts))) spans found
parts-all keep tokens parts end spans found none back = subst (λ n. IsBack keep tokens (Language (parts_words (map part_of (drop n parts)))) spans found) none back

-- parts that may be left out
module _ (keep : Keep) (tokens : List TokenValue) (parts : List Part) (spans copied more : List PlaceSpan) (placed : ArePlaced tokens spans) (same : copied ≡ spans)
    (back : IsBack keep tokens (Language (parts_words (map part_of parts))) copied more) where
  abbrev Words : Word → Type 0
  Words = Language (alt empty (parts_words (map part_of parts)))

  both : IsBack keep tokens Words spans (spans ++ more)
  both = back-either keep tokens (Language empty) (Language (parts_words (map part_of parts))) (Reaches tokens spans) spans more (back-stay keep tokens spans placed)
      (subst (λ x. IsBack keep tokens (Language (parts_words (map part_of parts))) x more) same back)

  -- where no word of them leads to the places
  pub parts-absent : more ≡ [] → IsBack keep tokens (Language (alt empty (parts_words (map part_of parts)))) spans spans
  parts-absent none = subst (λ x. IsBack keep tokens Words spans x) (ap (λ x. spans ++ x) none ∙ append-nil spans) both

  pub parts-optional : (all kept : List PlaceSpan) → AreTexts tokens → AreMerged spans more all → Keeps keep all kept →
      IsBack keep tokens (Language (alt empty (parts_words (map part_of parts)))) spans kept
  parts-optional all kept texts are keeps =
      back-keeps keep tokens Words (Reaches tokens spans) all kept texts
      (merged-back tokens spans more all are keep Words (Reaches tokens spans) placed back.placed both)
      keeps

-- from optional copies of a text more
pub parts-copies : (keep : Keep) (tokens : List TokenValue) (parts : List Part) (end : ℕ) (text : List ℕ) (first count : ℕ) (spans one two : List PlaceSpan) →
    AreCopies parts end text first count → IsBack keep tokens (words_from parts end) spans one →
    IsBack keep tokens (UpTo (Language (letters (chars text))) count) one two → IsBack keep tokens (words_from parts first) spans two
parts-copies keep tokens parts end text first count spans one two copies back over =
    back-same keep tokens (Cat (UpTo (Language (letters (chars text))) count) (words_from parts end)) (words_from parts first) (Reaches tokens spans) (Reaches tokens spans) two
    (λ w. ((copies.words w).1, (copies.words w).0)) (λ q l. (λ h. h, λ h. h))
    (back-after keep tokens (words_from parts end) (UpTo (Language (letters (chars text))) count) (Reaches tokens spans) one two back over)
