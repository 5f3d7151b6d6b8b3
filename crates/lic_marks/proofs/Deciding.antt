-- The test whether an expression describes a list of tokens is right.
use Rattle.std.proofs.Common.{◌≡◌, ℕ, zero, suc, ◌+◌, ◌<◌, ◌≤◌, Bool, true, false, ◌==◌, ◌||◌, ◌&&◌, not, List, [], ◌∷◌, ◌++◌, inl, inr, refl, arith, append_assoc, append-nil}
use Rattle.std.proofs.lemmas.Bool.{eqb-false}
use Rattle.lic_words.specs.Words.{Word, blank}
use Rattle.lic_words.specs.Expressions.{Expression}
use Rattle.lic_words.specs.Spelling.{Gap, no_gap, free, needed, SpellsGapped, gapped, gapped_from, sequence_of}
use Rattle.lic_words.specs.Describing.{IsDescribed}
use Rattle.lic_words.proofs.Sequences.{gapped_from-blank, gapped_from-letter}
use Rattle.lic_marks.specs.Cores.{Core, empty, one, cat, none, alt, plus, tidy, WordsOf, core}
use Rattle.lic_marks.specs.Marks.{Marks, no_marks, shift, join}
use Rattle.lic_marks.specs.Rows.{weight}
use Rattle.lic_marks.specs.Representing.{After, Leads, LeadsOverBlanks, RepresentsAtOnce, Represents, Gathers, IsClosed}
use Rattle.lic_marks.specs.Deciding.{has_new, gather, over_blanks, read_letter, can_read, is_described}
use Rattle.lic_marks.proofs.Cuts.{or_cases}
use Rattle.lic_marks.proofs.Repetitions.{core_sound, core_complete}
use Rattle.lic_marks.proofs.Representing.{Gathers-first, Gathers-more, IsClosed-same, LeadsOverBlanks-close, Represents-letter, RepresentsAtOnce-letter, RepresentsAtOnce-begin, accept_sound, accept_complete}

-- how many positions are not marked
abbrev pub unmarked : (r : Core) → Marks r → ℕ
unmarked empty m = 0
unmarked (one passes) true = 0
unmarked (one passes) false = 1
unmarked (cat a b) m = unmarked a m.0 + unmarked b m.1
unmarked none m = 0
unmarked (alt a b) m = unmarked a m.0 + unmarked b m.1
unmarked (plus a) m = unmarked a m
unmarked (tidy a) m = unmarked a m

pub unmarked-bound : (r : Core) (m : Marks r) → unmarked r m ≤ weight r
unmarked-bound empty m = omega arith
unmarked-bound (one passes) true = omega arith
unmarked-bound (one passes) false = omega arith
unmarked-bound (cat a b) m = omega (arith, unmarked-bound a m.0, unmarked-bound b m.1)
unmarked-bound none m = omega arith
unmarked-bound (alt a b) m = omega (arith, unmarked-bound a m.0, unmarked-bound b m.1)
unmarked-bound (plus a) m = unmarked-bound a m
unmarked-bound (tidy a) m = unmarked-bound a m

-- joining takes no mark away
unmarked-join : (r : Core) (m n : Marks r) → unmarked r (join r m n) ≤ unmarked r m
unmarked-join empty m n = omega arith
unmarked-join (one passes) true n = omega arith
unmarked-join (one passes) false true = omega arith
unmarked-join (one passes) false false = omega arith
unmarked-join (cat a b) m n = omega (arith, unmarked-join a m.0 n.0, unmarked-join b m.1 n.1)
unmarked-join none m n = omega arith
unmarked-join (alt a b) m n = omega (arith, unmarked-join a m.0 n.0, unmarked-join b m.1 n.1)
unmarked-join (plus a) m n = unmarked-join a m n
unmarked-join (tidy a) m n = unmarked-join a m n

or_left_false : (a b : Bool) → (a || b) ≡ false → a ≡ false
or_left_false true b h = cc
or_left_false false b h = refl

or_right_false : (a b : Bool) → (a || b) ≡ false → b ≡ false
or_right_false true b h = cc
or_right_false false b h = h

kept : (x y : Bool) → (y && not x) ≡ false → (x || y) ≡ x
kept true y h = refl
kept false true h = cc
kept false false h = refl

-- nothing new changes nothing
pub join-same : (r : Core) (m n : Marks r) → has_new r m n ≡ false → join r m n ≡ m
join-same empty m n h = refl
join-same (one passes) m n h = kept m n h
join-same (cat a b) m n h =
    let left : join a m.0 n.0 ≡ m.0 = join-same a m.0 n.0 (or_left_false (has_new a m.0 n.0) (has_new b m.1 n.1) h) in
    let right : join b m.1 n.1 ≡ m.1 = join-same b m.1 n.1 (or_right_false (has_new a m.0 n.0) (has_new b m.1 n.1) h) in
    λ i. (left i, right i)
join-same none m n h = refl
join-same (alt a b) m n h =
    let left : join a m.0 n.0 ≡ m.0 = join-same a m.0 n.0 (or_left_false (has_new a m.0 n.0) (has_new b m.1 n.1) h) in
    let right : join b m.1 n.1 ≡ m.1 = join-same b m.1 n.1 (or_right_false (has_new a m.0 n.0) (has_new b m.1 n.1) h) in
    λ i. (left i, right i)
join-same (plus a) m n h = join-same a m n h
join-same (tidy a) m n h = join-same a m n h

-- something new is one position less that is not marked
pub join-grows : (r : Core) (m n : Marks r) → has_new r m n ≡ true → unmarked r (join r m n) < unmarked r m
join-grows empty m n h = cc
join-grows (one passes) true true h = cc
join-grows (one passes) true false h = cc
join-grows (one passes) false true h = omega arith
join-grows (one passes) false false h = cc
join-grows (cat a b) m n h = elim (or_cases (has_new a m.0 n.0) (has_new b m.1 n.1) h) [
  | inl p ↦ omega (arith, join-grows a m.0 n.0 p, unmarked-join b m.1 n.1)
  | inr p ↦ omega (arith, unmarked-join a m.0 n.0, join-grows b m.1 n.1 p)
]
join-grows none m n h = cc
join-grows (alt a b) m n h = elim (or_cases (has_new a m.0 n.0) (has_new b m.1 n.1) h) [
  | inl p ↦ omega (arith, join-grows a m.0 n.0 p, unmarked-join b m.1 n.1)
  | inr p ↦ omega (arith, unmarked-join a m.0 n.0, join-grows b m.1 n.1 p)
]
join-grows (plus a) m n h = join-grows a m n h
join-grows (tidy a) m n h = join-grows a m n h

Gathers-gather : (r : Core) (entry : Bool) (at_once : Marks r) (n : ℕ) (grew : Bool) (m : Marks r) →
    Gathers r entry at_once m → Gathers r entry at_once (gather n grew r m)
Gathers-gather r entry at_once zero grew m g = g
Gathers-gather r entry at_once (suc n) false m g = g
Gathers-gather r entry at_once (suc n) true m g =
    Gathers-gather r entry at_once n (has_new r m (shift r true false m blank)) (join r m (shift r true false m blank))
    (Gathers-more r entry at_once m g)

-- one blank more leads to nothing new where it marks no new position
module _ (r : Core) (m : Marks r) where
  IsClosed-done : has_new r m (shift r true false m blank) ≡ false → IsClosed r m
  IsClosed-done h = IsClosed-same r m (join-same r m (shift r true false m blank) h)

  -- where no position is left
  IsClosed-full : (b : Bool) → has_new r m (shift r true false m blank) ≡ b → unmarked r m ≤ 0 → IsClosed r m
  IsClosed-full true h k = absurd (omega (arith, join-grows r m (shift r true false m blank) h, k))
  IsClosed-full false h k = IsClosed-done h

pub stopped : (r : Core) (n : ℕ) (m : Marks r) → gather n false r m ≡ m
stopped r zero m = refl
stopped r (suc n) m = refl

IsClosed-gather : (r : Core) (n : ℕ) (m : Marks r) (b : Bool) → has_new r m (shift r true false m blank) ≡ b →
    unmarked r m ≤ n → IsClosed r (gather n true r m)
IsClosed-gather r zero m b h k = IsClosed-full r m b h k
IsClosed-gather r (suc n) m true h k =
    let less : unmarked r (join r m (shift r true false m blank)) < unmarked r m = join-grows r m (shift r true false m blank) h in
    rw h (IsClosed-gather r n (join r m (shift r true false m blank)) _ refl (omega arith))
IsClosed-gather r (suc n) m false h k =
    rw (h, stopped r n (join r m (shift r true false m blank)), join-same r m (shift r true false m blank) h) (IsClosed-done r m h)

-- the marks for a set, closed over blanks
pub LeadsOverBlanks-over_blanks : (r : Core) (entry : Bool) (at_once : Marks r) (A : Word → Type 0) →
    Leads r entry at_once A → LeadsOverBlanks r entry at_once (over_blanks r entry at_once) A
LeadsOverBlanks-over_blanks r entry at_once A s =
    let first : Marks r = shift r false entry at_once blank in
    LeadsOverBlanks-close r entry at_once (over_blanks r entry at_once) A s
    (Gathers-gather r entry at_once (weight r) true first (Gathers-first r entry at_once))
    (IsClosed-gather r (weight r) first _ refl (unmarked-bound r first))

-- the marks for some letters, closed over blanks
Represents-over_blanks : (r : Core) (entry : Bool) (at_once : Marks r) (letters : List (Gap × ℕ)) →
    RepresentsAtOnce r entry at_once letters → Represents r entry at_once (over_blanks r entry at_once) letters
Represents-over_blanks r entry at_once letters = LeadsOverBlanks-over_blanks r entry at_once (After (WordsOf r) letters)

-- one letter more
RepresentsAtOnce-read_letter : (r : Core) (entry : Bool) (at_once : Marks r) (letters : List (Gap × ℕ)) →
    RepresentsAtOnce r entry at_once letters → (g : Gap) (c : ℕ) → (c ≡ blank → ⊥) →
    RepresentsAtOnce r false (read_letter r entry at_once g c) (letters ++ (g, c) ∷ [])
RepresentsAtOnce-read_letter r entry at_once letters s no_gap c letter = RepresentsAtOnce-letter r entry at_once letters s c letter
RepresentsAtOnce-read_letter r entry at_once letters s free c letter =
    Represents-letter r entry at_once (over_blanks r entry at_once) letters (Represents-over_blanks r entry at_once letters s) free c letter
RepresentsAtOnce-read_letter r entry at_once letters s needed c letter =
    Represents-letter r entry at_once (over_blanks r entry at_once) letters (Represents-over_blanks r entry at_once letters s) needed c letter

-- no letter is a blank
abbrev AreLetters : List (Gap × ℕ) → Type 0
AreLetters [] = Unit {0}
AreLetters (p ∷ rest) = (p.1 ≡ blank → ⊥) × AreLetters rest

-- a letter in front, of which it is known whether it is a blank
AreLetters-cons : (last : ℕ) (apart : Bool) (c : ℕ) (t : List ℕ) →
    ((before : ℕ) (gap : Bool) → AreLetters (gapped_from before gap t)) → (b : Bool) → (c == blank) ≡ b →
    AreLetters (gapped_from last apart (c ∷ t))
AreLetters-cons last apart c t rest true h = rw (gapped_from-blank last apart c t h) (rest last true)
AreLetters-cons last apart c t rest false h =
    rw (gapped_from-letter last apart c t h) (eqb-false c blank h, rest c false)

AreLetters-gapped_from : (t : List ℕ) (last : ℕ) (apart : Bool) → AreLetters (gapped_from last apart t)
AreLetters-gapped_from [] last apart = tt
AreLetters-gapped_from (c ∷ t) last apart =
    AreLetters-cons last apart c t (AreLetters-gapped_from t) (c == blank) refl

-- what is read are the letters of a word
module _ (r : Core) where
  can_read_sound : (rest letters : List (Gap × ℕ)) (entry : Bool) (at_once : Marks r) → RepresentsAtOnce r entry at_once letters →
      AreLetters rest → can_read r entry at_once rest ≡ true → (w : Word) × WordsOf r w × SpellsGapped w (letters ++ rest)
  can_read_sound [] letters entry at_once s _ h =
      rw (append-nil letters) (accept_sound r entry at_once (over_blanks r entry at_once) letters (Represents-over_blanks r entry at_once letters s) h)
  can_read_sound (p ∷ rest) letters entry at_once s (letter, others) h =
      rw (← append_assoc letters (p ∷ []) rest)
      (can_read_sound rest (letters ++ p ∷ []) false (read_letter r entry at_once p.0 p.1)
      (RepresentsAtOnce-read_letter r entry at_once letters s p.0 p.1 letter) others h)

  can_read_complete : (rest letters : List (Gap × ℕ)) (entry : Bool) (at_once : Marks r) → RepresentsAtOnce r entry at_once letters →
      AreLetters rest → (w : Word) → WordsOf r w → SpellsGapped w (letters ++ rest) → can_read r entry at_once rest ≡ true
  can_read_complete [] letters entry at_once s _ w p q =
      accept_complete r entry at_once (over_blanks r entry at_once) letters (Represents-over_blanks r entry at_once letters s) w p
      (rw append-nil at q)
  can_read_complete (x ∷ rest) letters entry at_once s (letter, others) w p q =
      can_read_complete rest (letters ++ x ∷ []) false (read_letter r entry at_once x.0 x.1)
      (RepresentsAtOnce-read_letter r entry at_once letters s x.0 x.1 letter) others w p
      (rw (append_assoc letters (x ∷ []) rest) q)

pub is_described_sound : (e : Expression) (ts : List (List ℕ)) → is_described e ts ≡ true → IsDescribed e ts
is_described_sound e [] h = absurd (let never : false ≡ true = h in cc)
is_described_sound e (t ∷ ts) h =
    let found = can_read_sound (core e) (gapped (t ∷ ts)) [] true (no_marks (core e)) (RepresentsAtOnce-begin (core e))
    (AreLetters-gapped_from (sequence_of (t ∷ ts)) blank false) h in
    (λ none. let never : t ∷ ts ≡ [] = none in cc, found.0, core_sound e found.0 found.1, found.2)

pub is_described_complete : (e : Expression) (ts : List (List ℕ)) → IsDescribed e ts → is_described e ts ≡ true
is_described_complete e [] h = absurd (h.0 refl)
is_described_complete e (t ∷ ts) h =
    can_read_complete (core e) (gapped (t ∷ ts)) [] true (no_marks (core e)) (RepresentsAtOnce-begin (core e))
    (AreLetters-gapped_from (sequence_of (t ∷ ts)) blank false) h.1 (core_complete e h.1 h.2) h.3
