-- From which places streaks of letters that pass are read up to a place.
use Rattle.std.proofs.Common.{◌≡◌, ◌⊎◌, ℕ, zero, suc, ◌<◌, ◌≤◌, Bool, true, IsTrue, List, [], ◌∷◌, ◌++◌, length, get_or, inl, inr, refl, sym, ap, arith, subst, ◌∙◌, length-append, append_assoc, eqb-true}
use Rattle.std.proofs.Math.Nat.{eq-or-lt_of_le}
use Rattle.std.proofs.lemmas.Bool.{cases_lt, eq-eqb}
use Rattle.std.proofs.lemmas.List.{append-nil}
use Rattle.lic_words.specs.Words.{Word, blank}
use Rattle.lic_tokens.specs.Tokens.{TokenValue}
use Rattle.lic_places.specs.Places.{AreTexts, IsAfterBlank, OverBlank, is_blank_at, over, spelling_of, stays}
use Rattle.lic_places.specs.Reads.{Reads, Takes}
use Rattle.lic_view.specs.PlaceSets.{IsLetterPlace}
use Rattle.lic_view.specs.LettersBefore.{IsLetterBefore}
use Rattle.lic_reverse.specs.Streaks.{AllPass, IsChain, IsStreak, IsStreakStart}
use Rattle.lic_reverse.specs.Tidily.{IsTakenBack, IsTakenBefore, Taken, a_letter}
use Rattle.lic_places.proofs.TokenPlaces.{spelling-utf8}
use Rattle.lic_view.proofs.Back.{reads-forward}
use Rattle.lic_view.proofs.LastLetters.{letter-end, letter-one, letter-whole}
use Rattle.lic_reverse.proofs.StreakWords.{pass-within}
use Rattle.lic_reverse.proofs.StreakChains.{MayGoOn, Spelled, blank-before, blank-letter, chain-spelled, letter-blank, letter-forward, letter-inside}

module _ (tokens : List TokenValue) (texts : AreTexts tokens) where
  -- ---- each letter place of a chain

  -- a streak that is read from a place up to another
  pub record StreakFrom (passes : ℕ → Bool) (t : Taken) (count p q : ℕ) : Type 0 where
    pub word : Word
    pub streak : IsStreak passes count word
    pub taken : IsTakenBack a_letter word t
    pub reads : Reads tokens p word q

  pub more-streaks : (passes : ℕ → Bool) (t : Taken) (few count p q : ℕ) → few ≤ count → StreakFrom passes t few p q → StreakFrom passes t count p q
  more-streaks passes t few count p q order from = record {
    word = from.word;
    streak = record { passing = from.streak.passing; few = omega (arith, from.streak.few); first = from.streak.first; later = from.streak.later; dark = from.streak.dark; is = from.streak.is };
    taken = from.taken;
    reads = from.reads;
  }

  pub streak-sound : (passes : ℕ → Bool) (t : Taken) (count low q p : ℕ) → MayGoOn (spelling_of tokens) t q →
      IsChain (spelling_of tokens) passes count low q → low ≤ p → p < q → IsLetterPlace tokens p → StreakFrom passes t count p q
  streak-sound passes t zero low q p may chain from before place = absurd (omega (arith, chain))
  streak-sound passes t (suc count) low q p may chain from before place =
      by_order (cases_lt p chain.0) (eq-or-lt_of_le from) (λ reached. streak-sound passes t count chain.0 q p may chain.4 reached before place)
    where
      bytes : List ℕ
      bytes = spelling_of tokens

      here : low ≡ p → StreakFrom passes t (suc count) p q
      here same = record {
        word = chain.1 ∷ more.word;
        streak = record { passing = (chain.3, more.passing); few = omega (arith, more.long); first = chain.1; later = more.word; dark = dark; is = refl };
        taken = (more.state, inr (dark, refl), more.taken);
        reads = subst (λ x. Reads tokens x (chain.1 ∷ more.word) q) same (chain.0, inr (dark, chain.2.scalar, chain.2.occurs), more.reads);
      }
        where
          more : Spelled tokens passes t count chain.0 q
          more = chain-spelled tokens passes t count chain.0 q texts may chain.4

          dark : chain.1 ≡ blank → ⊥
          dark is =
              let at = (blank-letter (spelling_of tokens) chain.0 low (subst (λ x. IsLetterBefore (spelling_of tokens) chain.0 low x) is chain.2)).0 in
              place.letter (eqb-true (get_or (spelling_of tokens) p 0) 0x20 (subst (λ x. IsTrue (is_blank_at (spelling_of tokens) x)) same at))

      inside : low < p → p < chain.0 → ⊥
      inside after below =
          let utf8 = spelling-utf8 tokens texts in
          letter-inside (spelling_of tokens) chain.0 low chain.1 p utf8 chain.2 (letter-end (spelling_of tokens) chain.0 low chain.1 utf8 chain.2) place.whole after below

      by_order : (p < chain.0) ⊎ (chain.0 ≤ p) → (low ≡ p) ⊎ (low < p) → (chain.0 ≤ p → StreakFrom passes t count p q) → StreakFrom passes t (suc count) p q
      by_order (inl below) (inl same) more = here same
      by_order (inl below) (inr after) more = absurd (inside after below)
      by_order (inr reached) order more = more-streaks passes t count (suc count) p q (omega arith) (more reached)

  -- ---- a word that comes from further back

  -- a word cut at the letter that comes before the place where it ends
  record Peeled (p : ℕ) (v : Word) (r : ℕ) : Type 0 where
    front : Word
    letter : ℕ
    back : Word
    at : ℕ
    is : v ≡ front ++ letter ∷ back
    reads : Reads tokens p front at
    occurs : IsLetterBefore (spelling_of tokens) r at letter

  taken-letter : (p e r : ℕ) → p < r → Takes tokens p e r → IsLetterBefore (spelling_of tokens) r p e
  taken-letter p e r below (inr is) = record { scalar = is.1; occurs = is.2 }
  taken-letter p e r below (inl is) = subst (λ x. IsLetterBefore (spelling_of tokens) r p x) (sym is.0) (by_blank p r below is.1)
    where
      by_blank : (p r : ℕ) → p < r → OverBlank tokens p r → IsLetterBefore (spelling_of tokens) r p blank
      by_blank p _ below (over at) = blank-before (spelling_of tokens) p at
      by_blank p _ below (stays not gap) = absurd (omega arith)

  peel : (v : Word) (p r : ℕ) → Reads tokens p v r → p < r → Peeled p v r
  peel [] p r reads below = absurd (omega (arith, reads))
  peel (e ∷ v) p r reads below = by_order (cases_lt reads.0 r) (λ before. peel v reads.0 r reads.2 before)
    where
      by_order : (reads.0 < r) ⊎ (r ≤ reads.0) → (reads.0 < r → Peeled reads.0 v r) → Peeled p (e ∷ v) r
      by_order (inl before) more = let m = more before in record {
        front = e ∷ m.front;
        letter = m.letter;
        back = m.back;
        at = m.at;
        is = ap (λ x. e ∷ x) m.is;
        reads = (reads.0, reads.1, m.reads);
        occurs = m.occurs;
      }
      by_order (inr past) more =
          let forward = reads-forward tokens v reads.0 r reads.2 in
          let same : reads.0 ≡ r = omega arith in
          record {
            front = [];
            letter = e;
            back = v;
            at = p;
            is = refl;
            reads = refl;
            occurs = taken-letter p e r below (subst (λ x. Takes tokens p e x) same reads.1);
          }

  record Split (count p : ℕ) (v : Word) (low : ℕ) : Type 0 where
    first : Word
    second : Word
    is : v ≡ first ++ second
    many : count ≤ length second
    reads : Reads tokens p first low

  split : (passes : ℕ → Bool) (count low q : ℕ) (v : Word) (p : ℕ) → IsChain (spelling_of tokens) passes count low q → Reads tokens p v q → p < low → Split count p v low
  split passes zero low q v p chain reads before = record {
    first = v;
    second = [];
    is = sym (append-nil v);
    many = omega arith;
    reads = subst (λ x. Reads tokens p v x) (sym chain) reads;
  }
  split passes (suc count) low q v p chain reads before =
      cut (split passes count chain.0 q v p chain.4 reads (omega (arith, letter-forward (spelling_of tokens) chain.0 low chain.1 chain.2)))
    where
      cut : Split count p v chain.0 → Split (suc count) p v low
      cut more = record {
        first = m.front;
        second = m.letter ∷ (m.back ++ more.second);
        is = more.is ∙ (ap (λ x. x ++ more.second) m.is ∙ append_assoc m.front (m.letter ∷ m.back) more.second);
        many = omega (arith, more.many, length-append m.back more.second);
        reads = subst (λ x. Reads tokens p m.front x) (sym same) m.reads;
      }
        where
          m : Peeled p more.first chain.0
          m = peel more.first p chain.0 more.reads (omega (arith, letter-forward (spelling_of tokens) chain.0 low chain.1 chain.2))

          same : low ≡ m.at
          same = (letter-one (spelling_of tokens) chain.0 low chain.1 m.at m.letter (spelling-utf8 tokens texts) chain.2 m.occurs).0

  -- a word of up to `count` that pass begins no further back
  pub streak-complete : (passes : ℕ → Bool) (count low q p : ℕ) (v : Word) → IsStreakStart (spelling_of tokens) passes count q low →
      AllPass passes v → length v ≤ count → Reads tokens p v q → low ≤ p
  streak-complete passes count low q p v start passing few reads = by_order (cases_lt p low)
    where
      never : p < low → ⊥
      never before = by_stop start.stop
        where
          s : Split start.number p v low
          s = split passes start.number low q v p start.chain reads before

          m : Peeled p s.first low
          m = peel s.first p low s.reads before

          whole : v ≡ m.front ++ (m.letter ∷ (m.back ++ s.second))
          whole = s.is ∙ (ap (λ x. x ++ s.second) m.is ∙ append_assoc m.front (m.letter ∷ m.back) s.second)

          by_stop : (start.number ≡ count) ⊎ ((p c : ℕ) → IsLetterBefore (spelling_of tokens) low p c → passes c ≡ true → ⊥) → ⊥
          by_stop (inl full) =
              let long = ap length whole in
              let parts = length-append m.front (m.letter ∷ (m.back ++ s.second)) in
              let later = length-append m.back s.second in
              omega (arith, s.many)
          by_stop (inr none) = none m.at m.letter m.occurs (pass-within passes m.front m.letter (m.back ++ s.second) (subst (λ x. AllPass passes x) whole passing))

      by_order : (p < low) ⊎ (low ≤ p) → low ≤ p
      by_order (inl before) = absurd (never before)
      by_order (inr from) = from

  -- ---- where a streak begins and ends

  pub streak-begins : (passes : ℕ → Bool) (count p q : ℕ) (w : Word) → IsStreak passes count w → Reads tokens p w q → IsLetterPlace tokens p × (p < q)
  streak-begins passes count p q w streak reads = by_first (subst (λ x. Reads tokens p x q) streak.is reads)
    where
      by_first : Reads tokens p (streak.first ∷ streak.later) q → IsLetterPlace tokens p × (p < q)
      by_first reads = by_letter reads.1
        where
          by_letter : Takes tokens p streak.first reads.0 → IsLetterPlace tokens p × (p < q)
          by_letter (inl is) = absurd (streak.dark is.0)
          by_letter (inr is) =
              let occurs : IsLetterBefore (spelling_of tokens) reads.0 p streak.first = record { scalar = is.1; occurs = is.2 } in
              let forward = letter-forward (spelling_of tokens) reads.0 p streak.first occurs in
              let later = reads-forward tokens streak.later reads.0 q reads.2 in (
                record {
                  whole = letter-whole (spelling_of tokens) reads.0 p streak.first occurs;
                  letter = λ at. streak.dark (letter-blank (spelling_of tokens) reads.0 p streak.first occurs (eq-eqb (get_or (spelling_of tokens) p 0) 0x20 at));
                },
                omega arith,
              )

  -- where no letter is taken before it, no blank comes before the place
  pub streak-ends : (w : Word) (s t : Taken) (p q : ℕ) → (t ≡ a_letter → ⊥) → 0 < length w → IsTakenBack s w t → Reads tokens p w q →
      IsAfterBlank (spelling_of tokens) q → ⊥
  streak-ends [] s t p q other some taken reads following = omega arith
  streak-ends (c ∷ []) s t p q other some taken reads following = by_letter taken.1 reads.1
    where
      by_letter : IsTakenBefore s c taken.0 → Takes tokens p c reads.0 → ⊥
      by_letter (inl at) takes = other (sym taken.2 ∙ at.2)
      by_letter (inr at) (inl is) = at.0 is.0
      by_letter (inr at) (inr is) =
          let occurs : IsLetterBefore (spelling_of tokens) q p c = subst (λ x. IsLetterBefore (spelling_of tokens) x p c) reads.2 (record { scalar = is.1; occurs = is.2 }) in
          let gap : IsLetterBefore (spelling_of tokens) q following.0 blank = subst (λ x. IsLetterBefore (spelling_of tokens) x following.0 blank) (sym following.1) (blank-before (spelling_of tokens) following.0 following.2) in
          at.0 (letter-one (spelling_of tokens) q p c following.0 blank (spelling-utf8 tokens texts) occurs gap).1
  streak-ends (c ∷ d ∷ w) s t p q other some taken reads following = streak-ends (d ∷ w) taken.0 t reads.0 q other (omega arith) taken.2 reads.2 following
