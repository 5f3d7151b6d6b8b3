-- Where words of a template end after one of its texts.
use Rattle.std.proofs.Common.{◌≡◌, ◌⊎◌, inl, inr, ℕ, ◌+◌, ◌<◌, ◌≤◌, List, length, map, drop, sym, subst, arith}
use Rattle.std.specs.Prelude.{min as lesser}
use Rattle.std.proofs.lemmas.Bool.{cases_lt}
use Rattle.lic_words.specs.Words.{Word}
use Rattle.lic_markup.specs.declared.part.Part.{Part}
use Rattle.lic_markup.specs.Meaning.{parts_words}
use Rattle.lic_markup.specs.Parts.{part_of}
use Rattle.lic_norm.specs.Tokens.{TokenValue}
use Rattle.lic_norm.specs.Places.{place_end}
use Rattle.lic_places.specs.Reads.{Reads}
use Rattle.lic_places.proofs.Reading.{Reads-order}
use Rattle.lic_spans.specs.declared.span.PlaceSpan.{PlaceSpan}
use Rattle.lic_view.specs.PlaceSets.{Reaches}
use Rattle.lic_view.specs.Backward.{IsBackFrom}
use Rattle.lic_search.specs.Ends.{TakesAtMost}
use Rattle.lic_keys.proofs.RequiredEndLemmas.{EndsText}
use Rattle.lic_search.proofs.ReachBounds.{IsBound, most_number}
use Rattle.lic_view.specs.declared.sets.keep.Keep.{Keep}

-- ---- where words end

-- the end of a word lies so few bytes after that place
pub word-reach : (tokens : List TokenValue) (parts : List Part) (number : ℕ) (places : List ℕ) (end after most : ℕ)
    (text : EndsText tokens parts number places end) → end ≤ most_number → most ≡ lesser (after + 1) most_number →
    IsBound (TakesAtMost (parts_words (map part_of (drop (number + 1) parts)))) after → (text.place ≤ end) × (end ≤ text.place + most)
word-reach tokens parts number places end after most text bound is takes =
    let forward = Reads-order tokens text.word text.next end text.reads in
    (omega (arith, text.from), reach (cases_lt after most_number))
  where
    reach : (after < most_number) ⊎ (most_number ≤ after) → end ≤ text.place + most
    reach (inl below) =
        let few = (takes below).bytes tokens text.word text.next end text.is text.reads in
        omega (arith, text.to)
    reach (inr all) = omega arith

-- ---- candidates in place of all ends

-- Going back from candidates is going back from the ends of all tokens, where the candidates have each end of a word.
pub back-from-candidates : (keep : Keep) (tokens : List TokenValue) (P : Word → Type 0) (ends begins : List PlaceSpan) →
    ((p last : ℕ) → Reaches tokens ends p last → (last < length tokens) × (p ≡ place_end tokens last)) →
    ((p last : ℕ) (w : Word) → P w → Reads tokens p w (place_end tokens last) → last < length tokens → Reaches tokens ends (place_end tokens last) last) →
    IsBackFrom keep tokens P (Reaches tokens ends) begins →
    IsBackFrom keep tokens P (λ q last. (last < length tokens) × (q ≡ place_end tokens last)) begins
back-from-candidates keep tokens P ends begins sound complete back = record {
  placed = back.placed;
  sound = λ p last r. let s = back.sound p last r in (s.0, sound s.0 last s.1, s.2, s.3, s.4);
  complete = λ p q last w e is reads.
      let at = complete p last w is (subst (λ x. Reads tokens p w x) e.1 reads) e.0 in
      back.complete p q last w (subst (λ x. Reaches tokens ends x last) (sym e.1) at) is reads;
}
