-- The span to which tidy words of letters and blanks lead back from one place.
use Rattle.std.proofs.Common.{◌≡◌, ℕ, ◌-◌, ◌<◌, ◌≤◌, List, [], ◌∷◌, None, length, refl, sym, subst, arith, le_of_eq}
use Rattle.std.proofs.lemmas.List.Elements.{All-cons, All-nil}
use Rattle.lic_words.specs.Words.{Word}
use Rattle.lic_tokens.specs.Tokens.{TokenValue}
use Rattle.lic_tokens.specs.Places.{place_end}
use Rattle.lic_places.specs.Places.{AreTexts, IsAfterBlank, spelling_of}
use Rattle.lic_places.specs.Reads.{Reads}
use Rattle.lic_spans.specs.declared.span.SpanKind.TheVariants.{Letters}
use Rattle.lic_spans.specs.declared.span.PlaceSpan.{PlaceSpan}
use Rattle.lic_view.specs.Backward.{Beats, IsBackFrom}
use Rattle.lic_view.specs.PlaceSets.{IsLetterPlace, IsPlaceOf, LiesBefore}
use Rattle.lic_view.proofs.Back.{back-nothing}
use Rattle.lic_view.proofs.BlankLemmas.{held}
use Rattle.lic_view.proofs.CountPlaces.{LiesWell}
use Rattle.lic_view.proofs.CountReads.{IsFree, counted-reads, counted-word}
use Rattle.lic_reverse.proofs.CountWords.{Counted, IsCounted, counted-complete, counted-sound}
use Rattle.lic_view.proofs.ViewSpans.{Holds-one}
use Rattle.lic_view.specs.declared.sets.keep.Keep.{Keep}

-- the places at which letters begin, before another
abbrev pub letters_before : ℕ → ℕ → PlaceSpan
letters_before q last = record { low = 0; high = q - 1; last = last; kind = Letters }

-- the words that are meant lead to the place alone, with this last token
abbrev pub IsAt : (ℕ → ℕ → Type 0) → ℕ → ℕ → Type 0
IsAt Ends q last = (r l : ℕ) → Ends r l → (r ≡ q) × (l ≡ last)

module _ (keep : Keep) (tokens : List TokenValue) (q last : ℕ) (Ends : ℕ → ℕ → Type 0) (at : IsAt Ends q last) where
  -- what is known of a place from which such a word is read
  counted_from : (p r l : ℕ) (w : Word) → Ends r l → Counted 1 None w → Reads tokens p w r → IsFree tokens p q
  counted_from p r l w ends is reads =
      let word = counted-sound 1 None w is in
      counted-reads tokens w p q word.tidied word.least (subst (Reads tokens p w) (at r l ends).0 reads)

  pub back-after_blank : IsAfterBlank (spelling_of tokens) q → IsBackFrom keep tokens (Counted 1 None) Ends []
  back-after_blank following =
      back-nothing keep tokens (Counted 1 None) Ends (λ p r l w ends is reads. (counted_from p r l w ends is reads).ends following)

  pub back-no_letter : q ≡ 0 → IsBackFrom keep tokens (Counted 1 None) Ends []
  back-no_letter none =
      back-nothing keep tokens (Counted 1 None) Ends
      (λ p r l w ends is reads. let before : p < q = (counted_from p r l w ends is reads).before in omega arith)

  pub back-counted : AreTexts tokens → LiesWell tokens last q → 0 < q → ¬ (IsAfterBlank (spelling_of tokens) q) → Ends q last
      → IsBackFrom keep tokens (Counted 1 None) Ends (letters_before q last ∷ [])
  back-counted texts lies some free here = record {
    placed = record {
      ordered = All-cons (λ s. s.low ≤ s.high) (letters_before q last) [] (omega arith) (All-nil (λ s. s.low ≤ s.high));
      last = All-cons (λ s. s.last < length tokens) (letters_before q last) [] lies.known (All-nil (λ s. s.last < length tokens));
      front = λ kind number l holds.
          let one = held (letters_before q last) kind number l holds in
          let to : number ≤ q - 1 = one.2 in
          let front : q ≤ place_end tokens last = lies.front in
          let before : number < place_end tokens last = omega arith in
          subst (λ k. LiesBefore tokens k number l) one.0 (subst (λ n. number < place_end tokens n) one.3 before);
    };
    sound = λ p l reached.
        let one = held (letters_before q last) reached.kind reached.number l reached.holds in
        let place : IsPlaceOf tokens Letters reached.number p = subst (λ k. IsPlaceOf tokens k reached.number p) (sym one.0) reached.place in
        let same : p ≡ reached.number = place.0 in
        let to : reached.number ≤ q - 1 = one.2 in
        let before : p < q = omega arith in
        let between : IsFree tokens p q = record { before = before; begins = subst (IsLetterPlace tokens) (sym same) place.1; ends = free } in
        let word = counted-word tokens p q texts lies.whole between in
        let counted : IsCounted 1 None word.word = record { least = word.some; most = tt; tidied = word.tidied } in
        (q, subst (Ends q) one.3 here, word.word, counted-complete 1 None word.word counted, word.reads);
    complete = λ p r l w ends is reads.
        let found = counted_from p r l w ends is reads in
        let same = (at r l ends).1 in
        let before : p < q = found.before in
        let beats : Beats keep tokens p last l = record { least = le_of_eq (sym same); taken = λ _. sym same; each = λ _. sym same } in
        let holds = Holds-one (letters_before q last) p (omega arith) (omega arith) in
        (last, beats, record { kind = Letters; number = p; holds = holds; place = (refl, found.begins) });
  }
