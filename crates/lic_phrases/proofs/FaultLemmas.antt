-- The first fault of a list, phrase by phrase and line by line.
use Rattle.std.proofs.Common.{◌≡◌, ◌⊎◌, inl, inr, ℕ, ◌+◌, ◌<◌, List, [], ◌++◌, length, get_or, drop, map, Option, Some, None, refl, sym, ap, ◌∙◌, drop-cons, add-one}
use Rattle.lic_phrases.specs.declared.fault.WordsCause.{WordsCause}
use Rattle.lic_phrases.specs.declared.fault.WordsCause.TheVariants.{EmptyPhrase, TooManyPhrases, PhraseTooLong, OutOfMemory}
use Rattle.lic_phrases.specs.declared.fault.WordsFault.{WordsFault}
use Rattle.lic_phrases.specs.WordLists.{fault_of, fault_or, fault_from, fault_at, located, out_of_memory}
use Rattle.lic_phrases.specs.Listed.{HasFault, HasNoFault}

abbrev on_line : ℕ → List (List (List ℕ)) → List (ℕ × List (List ℕ))
on_line number phrases = map (λ phrase. (number, phrase)) phrases

-- the phrases of a line from this index on
pub fault_from-drop : (line : List (List (List ℕ))) (k number before : ℕ) (later : List (ℕ × List (List ℕ)))
    (phrase : List (List ℕ)) → k < length line → phrase ≡ get_or line k []
    → fault_from before (on_line number (drop k line) ++ later)
    ≡ fault_or (fault_of before phrase) number
    (fault_from (before + 1) (on_line number (drop (k + 1) line) ++ later))
fault_from-drop line k number before later phrase within is =
    ap (λ l. fault_from before (on_line number l ++ later)) (drop-cons line k [] within)
    ∙ ap (λ n. fault_or (fault_of before (get_or line k [])) number (fault_from (before + 1) (on_line number (drop n line) ++ later))) (sym (add-one k))
    ∙ ap (λ p. fault_or (fault_of before p) number (fault_from (before + 1) (on_line number (drop (k + 1) line) ++ later))) (sym is)

-- the lines from this index on
pub located-drop : (lines : List (List (List (List ℕ)))) (k number : ℕ) (line : List (List (List ℕ))) → k < length lines → line ≡ get_or lines k []
    → located number (drop k lines) ≡ on_line number line ++ located (number + 1) (drop (k + 1) lines)
located-drop lines k number line within is =
    ap (located number) (drop-cons lines k [] within)
    ∙ ap (λ n. on_line number (get_or lines k []) ++ located (number + 1) (drop n lines)) (sym (add-one k))
    ∙ ap (λ l. on_line number l ++ located (number + 1) (drop (k + 1) lines)) (sym is)

-- what is reported for a cause
pub fault_at-reported : (number : ℕ) (cause : WordsCause) (first : Option WordsFault)
    → (first ≡ Some (record { line = number; cause = cause })) ⊎ (cause ≡ OutOfMemory)
    → (first ≡ Some (fault_at number cause)) ⊎ (fault_at number cause ≡ out_of_memory)
fault_at-reported number EmptyPhrase first (inl e) = inl e
fault_at-reported number EmptyPhrase first (inr e) = absurd (let h : EmptyPhrase ≡ OutOfMemory = e in cc)
fault_at-reported number TooManyPhrases first (inl e) = inl e
fault_at-reported number TooManyPhrases first (inr e) = absurd (let h : TooManyPhrases ≡ OutOfMemory = e in cc)
fault_at-reported number PhraseTooLong first (inl e) = inl e
fault_at-reported number PhraseTooLong first (inr e) = absurd (let h : PhraseTooLong ≡ OutOfMemory = e in cc)
fault_at-reported number OutOfMemory first e = inr refl

-- the rest of a line holds a fault, and the whole line before it none
pub has_fault_at : (line : List (List (List ℕ))) (k before count : ℕ) (phrase : List (List ℕ)) (cause : WordsCause)
    → ((number : ℕ) (later : List (ℕ × List (List ℕ)))
    → fault_from before (on_line number line ++ later)
    ≡ fault_from count (on_line number (drop k line) ++ later))
    → k < length line → phrase ≡ get_or line k [] → fault_of count phrase ≡ Some cause → HasFault line before cause
has_fault_at line k before count phrase cause sound within is fault number later =
    sound number later ∙ fault_from-drop line k number count later phrase within is
    ∙ ap (λ f. fault_or f number (fault_from (count + 1) (on_line number (drop (k + 1) line) ++ later))) fault

-- one more phrase of a line without a fault
pub sound_more : (line : List (List (List ℕ))) (k before count : ℕ) (phrase : List (List ℕ))
    → ((number : ℕ) (later : List (ℕ × List (List ℕ)))
    → fault_from before (on_line number line ++ later)
    ≡ fault_from count (on_line number (drop k line) ++ later))
    → k < length line → phrase ≡ get_or line k [] → fault_of count phrase ≡ None
    → (number : ℕ) (later : List (ℕ × List (List ℕ)))
    → fault_from before (on_line number line ++ later)
    ≡ fault_from (count + 1) (on_line number (drop (k + 1) line) ++ later)
sound_more line k before count phrase sound within is none number later =
    sound number later ∙ fault_from-drop line k number count later phrase within is
    ∙ ap (λ f. fault_or f number (fault_from (count + 1) (on_line number (drop (k + 1) line) ++ later))) none

-- a line without a fault
pub lines_sound_more : (lines : List (List (List (List ℕ)))) (k count count' : ℕ) (line : List (List (List ℕ))) (first : Option WordsFault)
    → first ≡ fault_from count (located (k + 1) (drop k lines)) → k < length lines → line ≡ get_or lines k [] → HasNoFault line count count'
    → first ≡ fault_from count' (located (k + 1 + 1) (drop (k + 1) lines))
lines_sound_more lines k count count' line first sound within is none =
    sound ∙ ap (fault_from count) (located-drop lines k (k + 1) line within is) ∙ none (k + 1) (located (k + 1 + 1) (drop (k + 1) lines))

-- a line with a fault
pub line_has_fault : (lines : List (List (List (List ℕ)))) (k count : ℕ) (line : List (List (List ℕ))) (cause : WordsCause) (first : Option WordsFault)
    → first ≡ fault_from count (located (k + 1) (drop k lines)) → k < length lines → line ≡ get_or lines k []
    → HasFault line count cause ⊎ (cause ≡ OutOfMemory)
    → (first ≡ Some (fault_at (k + 1) cause)) ⊎ (fault_at (k + 1) cause ≡ out_of_memory)
line_has_fault lines k count line cause first sound within is (inl fault) =
    fault_at-reported (k + 1) cause first
    (inl (sound ∙ ap (fault_from count) (located-drop lines k (k + 1) line within is)
    ∙ fault (k + 1) (located (k + 1 + 1) (drop (k + 1) lines))))
line_has_fault lines k count line cause first sound within is (inr memory) = fault_at-reported (k + 1) cause first (inr memory)
