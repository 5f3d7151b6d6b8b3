-- Phrases in the classes of their heads, one by one.
use Rattle.std.proofs.Common.{◌≡◌, ◌≢◌, ℕ, zero, suc, ◌+◌, ◌<◌, ◌≤◌, ◌==◌, Bool, true, false, ◌||◌, nat_le, nat_lt, List, [], ◌∷◌, ◌++◌, length, get_or, map, take, Option, None, Some, refl, sym, ap, ap₂, subst, ◌∙◌, ⊎_elim, arith}
use Rattle.std.specs.Prelude.{if◌then◌else◌}
use Rattle.std.specs.List.{zip, Contains}
use Rattle.std.proofs.lemmas.Bool.{cases_Bool, cond-false}
use Rattle.std.proofs.lemmas.Bool.Decides.{nat_tests}
use Rattle.std.proofs.lemmas.List.{length-map, length-take-le, map-append, get_or-take, take_more}
use Rattle.std.proofs.lemmas.Slice.Eq.{bytes_eq-Decides, slice_eq-Decides}
use Rattle.std.proofs.lemmas.Slice.Zip.{length-zip, get_or-zip}
use Rattle.lic_phrases.specs.declared.fault.WordsCause.{WordsCause}
use Rattle.lic_phrases.specs.declared.fault.WordsCause.TheVariants.{EmptyPhrase, TooManyPhrases, PhraseTooLong}
use Rattle.lic_phrases.specs.declared.fault.WordsFault.{WordsFault}
use Rattle.lic_phrases.specs.Rewriting.{Phrase}
use Rattle.lic_phrases.specs.Spelling.{spelled}
use Rattle.lic_phrases.specs.PhraseLists.{same_texts, phrase_with, with_added}
use Rattle.lic_phrases.specs.Listed.{HaveRepresentatives, with_representatives}
use Rattle.lic_phrases.specs.WordLists.{fault_of_phrase, fault_of, fault_or, fault_from, located, in_order}
use Rattle.lic_phrases.specs.WordReading.{HasRead}
use Rattle.lic_phrases.proofs.PhraseListLemmas.{with_added-new}
use Rattle.lic_phrases.proofs.WordClasses.{get-map, get_any}
use Rattle.lic_phrases.proofs.ListedLemmas.{words_with_heads}

abbrev pub no_phrase : Phrase
no_phrase = record { texts = []; spelling = [] }

-- texts that no phrase has
phrase_with-new : (words : List Phrase) (texts : List (List ℕ))
    → ((k : ℕ) → k < length words → (get_or words k no_phrase).texts ≢ texts) → phrase_with words texts ≡ None
phrase_with-new [] texts new = refl
phrase_with-new (q ∷ words) texts new =
    ⊎_elim
    (λ same. absurd (new 0 (omega arith) (sym ((slice_eq-Decides bytes_eq-Decides texts q.texts (same_texts texts q.texts) refl).0 same))))
    (λ other. cond-false (same_texts texts q.texts) (Some q) (phrase_with words texts) other
    ∙ phrase_with-new words texts (λ k within. new (suc k) (omega arith)))
    (cases_Bool (same_texts texts q.texts))

module _ (phrases : List (List (List ℕ))) (spellings : List (List ℕ)) (heads : List ℕ) (as_many : length heads ≡ length phrases) where
  abbrev pub words : List Phrase
  words = with_representatives phrases spellings heads

  abbrev pub word : ℕ → Phrase
  word i = record { texts = get_or phrases i []; spelling = get_or spellings (get_or heads i 0) [] }

  pub length-with_representatives : length words ≡ length phrases
  length-with_representatives = length-map (zip phrases heads) _ ∙ length-zip phrases heads ∙ omega (arith, as_many)

  pub word_at : (i : ℕ) → i < length phrases → get_or words i no_phrase ≡ word i
  word_at i within =
      let inside : i < length heads = omega (arith, as_many) in
      let paired : i < length (zip phrases heads) = omega (arith, length-zip phrases heads, as_many) in
      get-map (λ (p : List (List ℕ) × ℕ). let w : Phrase =
      record { texts = p.0; spelling = get_or spellings p.1 [] } in w) (zip phrases heads) i
      ([], 0) no_phrase paired
      ∙ ap (λ (p : List (List ℕ) × ℕ). let w : Phrase = record { texts = p.0; spelling = get_or spellings p.1 [] } in
      w) (get_or-zip phrases heads i ([], 0) within inside)

  module _ (known : HaveRepresentatives phrases heads) where
    -- the next phrase is new, and so it comes last
    pub word-added : (i : ℕ) → i < length phrases → with_added (take i words) (word i) ≡ take (i + 1) words
    word-added i within =
        let inside : i < length words = omega (arith, length-with_representatives) in
        with_added-new (take i words) (word i) (phrase_with-new (take i words) (get_or phrases i []) new)
        ∙ ap (λ w. take i words ++ w ∷ []) (sym (word_at i within))
        ∙ sym (take_more words i no_phrase inside)
      where
        new : (k : ℕ) → k < length (take i words) → (get_or (take i words) k no_phrase).texts ≢ get_or phrases i []
        new k within_front same =
            let before : k < i = omega (arith, length-take-le i words (omega (arith, length-with_representatives))) in
            let at : get_or (take i words) k no_phrase ≡ word k = get_or-take i words k no_phrase before ∙ word_at k (omega arith) in
            let alike : k ≡ i = known.distinct k i (omega arith) within (sym (ap (λ (w : Phrase). w.texts) at) ∙ same) in
            omega arith

    -- the spelling of a head is among those so far
    pub head_spelling : (i : ℕ) → i < length phrases → get_or (take (i + 1) spellings) (get_or heads i 0) [] ≡ get_or spellings (get_or heads i 0) []
    head_spelling i within = get_or-take (i + 1) spellings (get_or heads i 0) [] (omega (arith, known.low i within))

-- ---- phrases that were read without a fault

no_cause : (o : Option WordsCause) (number : ℕ) (later : Option WordsFault) → fault_or o number later ≡ None → (o ≡ None) × (later ≡ None)
no_cause None number later none = (refl, none)
no_cause (Some cause) number later none = absurd (let h : Some (record { line = number; cause = cause }) ≡ None = none in cc)

sound_alone : (many : Bool) (own : Option WordsCause) → (if many then Some TooManyPhrases else own) ≡ None → own ≡ None
sound_alone true own none = absurd (let h : Some TooManyPhrases ≡ None = none in cc)
sound_alone false own none = none

sound_each : (before : ℕ) (phrases : List (ℕ × List (List ℕ))) → fault_from before phrases ≡ None → (p : List (List ℕ))
    → Contains (map (λ q. q.1) phrases) p → fault_of_phrase p ≡ None
sound_each before [] none p (k, within, is) = absurd (omega arith)
sound_each before (q ∷ phrases) none p (zero, within, is) =
    ap fault_of_phrase (sym is) ∙ sound_alone (nat_le 4096 before) (fault_of_phrase q.1)
    (no_cause (fault_of before q.1) q.0 (fault_from (before + 1) phrases) none).0
sound_each before (q ∷ phrases) none p (suc k, within, is) =
    sound_each (before + 1) phrases (no_cause (fault_of before q.1) q.0 (fault_from (before + 1) phrases) none).1 p (k, omega arith, is)

seconds : (number : ℕ) (line : List (List (List ℕ))) → map (λ (q : ℕ × List (List ℕ)). q.1) (map (λ phrase. (number, phrase)) line) ≡ line
seconds number [] = refl
seconds number (phrase ∷ line) = ap (λ l. phrase ∷ l) (seconds number line)

located-in_order : (number : ℕ) (lines : List (List (List (List ℕ)))) → map (λ q. q.1) (located number lines) ≡ in_order lines
located-in_order number [] = refl
located-in_order number (line ∷ lines) =
    map-append (λ (q : ℕ × List (List ℕ)). q.1) (map (λ phrase. (number, phrase)) line) (located (number + 1) lines)
    ∙ ap₂ (λ l r. l ++ r) (seconds number line) (located-in_order (number + 1) lines)

has_some : (p : List (List ℕ)) → fault_of_phrase p ≡ None → 0 < length p
has_some [] none = absurd (let h : Some EmptyPhrase ≡ None = none in cc)
has_some (text ∷ p) none = omega arith

has_few : (p : List (List ℕ)) → fault_of_phrase p ≡ None → length p ≤ 8
has_few p none =
    let few : nat_lt 8 (length p) ≡ false = split (length p == 0) (nat_lt 8 (length p)) (nat_lt 256 (length (spelled p))) none in
    grind (arith, nat_tests)
  where
    split : (empty long wide : Bool) → (if empty then Some EmptyPhrase else (if long || wide then Some PhraseTooLong else None)) ≡ None → long ≡ false
    split true long wide e = absurd (let h : Some EmptyPhrase ≡ None = e in cc)
    split false true wide e = absurd (let h : Some PhraseTooLong ≡ None = e in cc)
    split false false wide e = refl

-- the phrases of a list without a fault, and the heads of their classes
pub HaveRepresentatives-read : (lines : List (List (List (List ℕ)))) (phrases : List (List (List ℕ))) (heads : List ℕ)
    → HasRead [] lines [] phrases heads [] → fault_from 0 (located 1 lines) ≡ None → HaveRepresentatives phrases heads
HaveRepresentatives-read lines phrases heads read none = record {
  some = λ i within. has_some (get_or phrases i []) (sound i within);
  few = λ i within. has_few (get_or phrases i []) (sound i within);
  distinct = read.distinct;
  low = λ i within. read.classes.low i (omega (arith, read.as_many));
  as_many = read.as_many;
}
  where
    sound : (i : ℕ) → i < length phrases → fault_of_phrase (get_or phrases i []) ≡ None
    sound i within =
        let words = with_representatives phrases (map spelled phrases) heads in
        let w = get_or words i no_phrase in
        let many : length words ≡ length phrases = length-with_representatives phrases (map spelled phrases) heads read.as_many in
        let has : Contains words w = (i, omega arith, get_any words i w no_phrase (omega arith)) in
        let begin_with_texts = (words_with_heads lines phrases heads read).only w has in
        ap fault_of_phrase (sym (ap (λ (v : Phrase). v.texts) (word_at phrases (map spelled phrases) heads read.as_many i within)))
        ∙ sound_each 0 (located 1 lines) none w.texts (subst (λ l. Contains l w.texts) (sym (located-in_order 1 lines)) begin_with_texts)
