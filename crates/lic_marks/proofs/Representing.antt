-- The two sets of marks, from letter to letter.
use Rattle.std.proofs.Common.{◌≡◌, ℕ, zero, suc, Bool, true, false, ◌==◌, ◌||◌, List, [], ◌∷◌, ◌++◌, ◌⊎◌, inl, inr, refl, sym, ap, subst, arith, ne_eqb}
use Rattle.lic_words.specs.Words.{Word, blank, blanks}
use Rattle.lic_words.specs.Spelling.{Gap, no_gap, free, needed, gap_of, Allows, SpellsGapped}
use Rattle.lic_marks.specs.Cores.{Core, empty, one, cat, none, alt, plus, tidy, WordsOf}
use Rattle.lic_marks.specs.Marks.{Marks, no_marks, can_leave, shift, join}
use Rattle.lic_marks.specs.Continuations.{Completes, Continues}
use Rattle.lic_marks.specs.Representing.{After, Then, Leads, LeadsOverBlanks, LeadsSoFar, RepresentsAtOnce, Represents, Gathers, IsClosed, shift_over}
use Rattle.lic_marks.proofs.Cuts.{or_cases, or_left, or_right}
use Rattle.lic_marks.proofs.Shifting.{Completes-no_marks, shift_sound, shift_complete, can_leave_sound, can_leave_complete, begin_sound, begin_complete}

-- the letters with their gaps describe a word of the set just where blanks alone may follow
pub After-spells : (letters : List (Gap × ℕ)) (P : Word → Type 0) (w : Word) → P w → SpellsGapped w letters → (n : ℕ) × After P letters (blanks n)
After-spells [] P w p s = (s.0, subst P s.1 p)
After-spells (x ∷ rest) P w p (n, allows, v, e, s) =
    After-spells rest (λ u. (k : ℕ) × Allows x.0 k × P (blanks k ++ x.1 ∷ u)) v (n, allows, subst P e p) s

pub spells-After : (letters : List (Gap × ℕ)) (P : Word → Type 0) (n : ℕ) → After P letters (blanks n) → (w : Word) × P w × SpellsGapped w letters
spells-After [] P n h = (blanks n, h, (n, refl))
spells-After (x ∷ rest) P n h =
    let t = spells-After rest (λ u. (k : ℕ) × Allows x.0 k × P (blanks k ++ x.1 ∷ u)) n h in
    (blanks t.1.0 ++ x.1 ∷ t.0, t.1.2, (t.1.0, t.1.1, t.0, refl, t.2))

-- one letter more, at the end
pub After-snoc : (letters : List (Gap × ℕ)) (P : Word → Type 0) (g : Gap) (c : ℕ) (v : Word) →
    After P (letters ++ (g, c) ∷ []) v → (n : ℕ) × Allows g n × After P letters (blanks n ++ c ∷ v)
After-snoc [] P g c v h = h
After-snoc (x ∷ rest) P g c v h = After-snoc rest (λ u. (k : ℕ) × Allows x.0 k × P (blanks k ++ x.1 ∷ u)) g c v h

pub snoc-After : (letters : List (Gap × ℕ)) (P : Word → Type 0) (g : Gap) (c : ℕ) (v : Word) (n : ℕ) →
    Allows g n → After P letters (blanks n ++ c ∷ v) → After P (letters ++ (g, c) ∷ []) v
snoc-After [] P g c v n a h = (n, a, h)
snoc-After (x ∷ rest) P g c v n a h = snoc-After rest (λ u. (k : ℕ) × Allows x.0 k × P (blanks k ++ x.1 ∷ u)) g c v n a h

pub Completes-join : (r : Core) (after : Bool) (m n : Marks r) (v : Word) → Completes r after (join r m n) v → Completes r after m v ⊎ Completes r after n v
Completes-join empty after m n v h = inl h
Completes-join (one passes) after m n v h = elim (or_cases m n h.0) [ inl p ↦ inl (p, h.1) | inr p ↦ inr (p, h.1) ]
Completes-join (cat a b) after m n v (inl (u, w, p, q, e)) =
    elim (Completes-join a after m.0 n.0 u p) [ inl s ↦ inl (inl (u, w, s, q, e)) | inr s ↦ inr (inl (u, w, s, q, e)) ]
Completes-join (cat a b) after m n v (inr h) = elim (Completes-join b after m.1 n.1 v h) [ inl s ↦ inl (inr s) | inr s ↦ inr (inr s) ]
Completes-join none after m n v h = inl h
Completes-join (alt a b) after m n v (inl h) = elim (Completes-join a after m.0 n.0 v h) [ inl s ↦ inl (inl s) | inr s ↦ inr (inl s) ]
Completes-join (alt a b) after m n v (inr h) = elim (Completes-join b after m.1 n.1 v h) [ inl s ↦ inl (inr s) | inr s ↦ inr (inr s) ]
Completes-join (plus a) after m n v (u, w, p, q, e) =
    elim (Completes-join a after m n u p) [ inl s ↦ inl (u, w, s, q, e) | inr s ↦ inr (u, w, s, q, e) ]
Completes-join (tidy a) after m n v (h, t) = elim (Completes-join a after m n v h) [ inl s ↦ inl (s, t) | inr s ↦ inr (s, t) ]

pub join-left : (r : Core) (after : Bool) (m n : Marks r) (v : Word) → Completes r after m v → Completes r after (join r m n) v
join-left empty after m n v h = h
join-left (one passes) after m n v h = (or_left m n h.0, h.1)
join-left (cat a b) after m n v (inl (u, w, p, q, e)) = inl (u, w, join-left a after m.0 n.0 u p, q, e)
join-left (cat a b) after m n v (inr h) = inr (join-left b after m.1 n.1 v h)
join-left none after m n v h = h
join-left (alt a b) after m n v (inl h) = inl (join-left a after m.0 n.0 v h)
join-left (alt a b) after m n v (inr h) = inr (join-left b after m.1 n.1 v h)
join-left (plus a) after m n v (u, w, p, q, e) = (u, w, join-left a after m n u p, q, e)
join-left (tidy a) after m n v (h, t) = (join-left a after m n v h, t)

pub join-right : (r : Core) (after : Bool) (m n : Marks r) (v : Word) → Completes r after n v → Completes r after (join r m n) v
join-right empty after m n v h = h
join-right (one passes) after m n v h = (or_right m n h.0, h.1)
join-right (cat a b) after m n v (inl (u, w, p, q, e)) = inl (u, w, join-right a after m.0 n.0 u p, q, e)
join-right (cat a b) after m n v (inr h) = inr (join-right b after m.1 n.1 v h)
join-right none after m n v h = h
join-right (alt a b) after m n v (inl h) = inl (join-right a after m.0 n.0 v h)
join-right (alt a b) after m n v (inr h) = inr (join-right b after m.1 n.1 v h)
join-right (plus a) after m n v (u, w, p, q, e) = (u, w, join-right a after m n u p, q, e)
join-right (tidy a) after m n v (h, t) = (join-right a after m n v h, t)

pub Gathers-first : (r : Core) (entry : Bool) (at_once : Marks r) → Gathers r entry at_once (shift r false entry at_once blank)
Gathers-first r entry at_once = record {
  sound = λ v h. (0, shift_sound r false entry at_once blank v h);
  starts = λ v h. shift_complete r false entry at_once blank v h;
}

blanks_more : (n : ℕ) (v : Word) → blanks (suc n) ++ blank ∷ v ≡ blanks (suc (suc n)) ++ v
blanks_more zero v = refl
blanks_more (suc n) v = ap (λ x. blank ∷ x) (blanks_more n v)

pub Gathers-more : (r : Core) (entry : Bool) (at_once after_blanks : Marks r) → Gathers r entry at_once after_blanks →
    Gathers r entry at_once (join r after_blanks (shift r true false after_blanks blank))
Gathers-more r entry at_once after_blanks g = record {
  sound = λ v h. elim (Completes-join r true after_blanks (shift r true false after_blanks blank) v h) [
    | inl s ↦ g.sound v s
    | inr s ↦ elim (shift_sound r true false after_blanks blank v s) [
      | inl p ↦ let t = g.sound (blank ∷ v) p in (suc t.0, subst (λ x. Continues r false entry at_once x) (blanks_more t.0 v) t.1)
      | inr p ↦ absurd (let e = p.0 in cc)
    ]
  ];
  starts = λ v h. join-left r true after_blanks (shift r true false after_blanks blank) v (g.starts v h);
}

-- where the step adds nothing, the set is closed
pub IsClosed-same : (r : Core) (after_blanks : Marks r) → join r after_blanks (shift r true false after_blanks blank) ≡ after_blanks → IsClosed r after_blanks
IsClosed-same r after_blanks e = record {
  steps = λ v h. subst (λ m. Completes r true m v) e (join-right r true after_blanks (shift r true false after_blanks blank) v h);
}

pub Gathers-complete : (r : Core) (entry : Bool) (at_once after_blanks : Marks r) → Gathers r entry at_once after_blanks → IsClosed r after_blanks →
    (n : ℕ) (v : Word) → Continues r false entry at_once (blanks (suc n) ++ v) → Completes r true after_blanks v
Gathers-complete r entry at_once after_blanks g closed n v h = along n v (g.starts (blanks n ++ v) h)
  where
    along : (k : ℕ) (u : Word) → Completes r true after_blanks (blanks k ++ u) → Completes r true after_blanks u
    along zero u h = h
    along (suc k) u h = along k u (closed.steps (blanks k ++ u) (shift_complete r true false after_blanks blank (blanks k ++ u) (inl h)))

-- the same set said otherwise
pub Leads-same : (r : Core) (entry : Bool) (marks : Marks r) (A B : Word → Type 0) → ((v : Word) → A v → B v) → ((v : Word) → B v → A v) →
    Leads r entry marks A → Leads r entry marks B
Leads-same r entry marks A B f g s = record { sound = λ v h. f v (s.sound v h); complete = λ v h. s.complete v (g v h) }

-- the pair of marks, from those for what may follow at once and their closure
pub LeadsOverBlanks-close : (r : Core) (entry : Bool) (at_once after_blanks : Marks r) (A : Word → Type 0) →
    Leads r entry at_once A → Gathers r entry at_once after_blanks → IsClosed r after_blanks → LeadsOverBlanks r entry at_once after_blanks A
LeadsOverBlanks-close r entry at_once after_blanks A now g closed = record {
  now = now;
  blanks_sound = λ v h. let t = g.sound v h in (t.0, now.sound (blanks (suc t.0) ++ v) t.1);
  blanks_complete = λ v n h. Gathers-complete r entry at_once after_blanks g closed n v (now.complete (blanks (suc n) ++ v) h);
}

pub Represents-close : (r : Core) (entry : Bool) (at_once after_blanks : Marks r) (letters : List (Gap × ℕ)) →
    RepresentsAtOnce r entry at_once letters → Gathers r entry at_once after_blanks → IsClosed r after_blanks →
    Represents r entry at_once after_blanks letters
Represents-close r entry at_once after_blanks letters = LeadsOverBlanks-close r entry at_once after_blanks (After (WordsOf r) letters)

pub RepresentsAtOnce-begin : (r : Core) → RepresentsAtOnce r true (no_marks r) []
RepresentsAtOnce-begin r = record { sound = λ v h. begin_sound r false v h; complete = λ v h. begin_complete r false v h }

-- one letter more that no gap parts from the one before
pub Leads-letter : (r : Core) (entry : Bool) (at_once : Marks r) (A : Word → Type 0) → Leads r entry at_once A →
    (c : ℕ) → (c ≡ blank → ⊥) → Leads r false (shift r false entry at_once c) (Then no_gap c A)
Leads-letter r entry at_once A s c letter = record { sound = sound; complete = complete }
  where
    other : (c == blank) ≡ false
    other = ne_eqb c blank letter

    sound : (v : Word) → Continues r false false (shift r false entry at_once c) v → Then no_gap c A v
    sound v (inl h) = (
      0,
      refl,
      s.sound (c ∷ v)
          (shift_sound r false entry at_once c v
          (subst (λ b. Completes r b (shift r false entry at_once c) v) (sym other) h)),
    )
    sound v (inr h) = absurd (let e = h.0 in cc)

    complete : (v : Word) → Then no_gap c A v → Continues r false false (shift r false entry at_once c) v
    complete v (zero, a, h) = inl
        (subst (λ b. Completes r b (shift r false entry at_once c) v) other
        (shift_complete r false entry at_once c v (s.complete (c ∷ v) h)))
    complete v (suc n, a, h) = absurd (omega (arith, a))

module _ (r : Core) (entry : Bool) (at_once after_blanks : Marks r) (A : Word → Type 0)
    (s : LeadsOverBlanks r entry at_once after_blanks A) (c : ℕ) (letter : (c == blank) ≡ false) where
  by_at_once : (v : Word) → Completes r false (shift r false entry at_once c) v → A (c ∷ v)
  by_at_once v h = s.now.sound (c ∷ v) (shift_sound r false entry at_once c v (subst (λ b. Completes r b (shift r false entry at_once c) v) (sym letter) h))

  pub by_after_blanks : (v : Word) → Completes r false (shift r true false after_blanks c) v → (n : ℕ) × A (blanks (suc n) ++ c ∷ v)
  by_after_blanks v h = elim (shift_sound r true false after_blanks c v (subst (λ b. Completes r b (shift r true false after_blanks c) v) (sym letter) h)) [
    | inl p ↦ s.blanks_sound (c ∷ v) p
    | inr p ↦ absurd (let e = p.0 in cc)
  ]

  to_at_once : (v : Word) → A (c ∷ v) → Completes r false (shift r false entry at_once c) v
  to_at_once v h = subst (λ b. Completes r b (shift r false entry at_once c) v) letter (shift_complete r false entry at_once c v (s.now.complete (c ∷ v) h))

  pub to_after_blanks : (v : Word) (n : ℕ) → A (blanks (suc n) ++ c ∷ v) → Completes r false (shift r true false after_blanks c) v
  to_after_blanks v n h = subst (λ b. Completes r b (shift r true false after_blanks c) v) letter
      (shift_complete r true false after_blanks c v (inl (s.blanks_complete (c ∷ v) n h)))

  letter_sound : (g : Gap) (v : Word) → Continues r false false (shift_over r entry at_once after_blanks g c) v → Then g c A v
  letter_sound no_gap v (inl h) = (0, refl, by_at_once v h)
  letter_sound needed v (inl h) = let t = by_after_blanks v h in (suc t.0, omega arith, t.1)
  letter_sound free v (inl h) = elim (Completes-join r false (shift r false entry at_once c) (shift r true false after_blanks c) v h) [
    | inl p ↦ (0, tt, by_at_once v p)
    | inr p ↦ let t = by_after_blanks v p in (suc t.0, tt, t.1)
  ]
  letter_sound g v (inr h) = absurd (let e = h.0 in cc)

  completed : (g : Gap) (v : Word) → Then g c A v → Completes r false (shift_over r entry at_once after_blanks g c) v
  completed no_gap v (zero, a, h) = to_at_once v h
  completed no_gap v (suc n, a, h) = absurd (omega (arith, a))
  completed needed v (zero, a, h) = absurd (omega (arith, a))
  completed needed v (suc n, a, h) = to_after_blanks v n h
  completed free v (zero, a, h) = join-left r false (shift r false entry at_once c) (shift r true false after_blanks c) v (to_at_once v h)
  completed free v (suc n, a, h) = join-right r false (shift r false entry at_once c) (shift r true false after_blanks c) v (to_after_blanks v n h)

  -- one letter more after any gap
  pub LeadsOverBlanks-letter : (g : Gap) → Leads r false (shift_over r entry at_once after_blanks g c) (Then g c A)
  LeadsOverBlanks-letter g = record { sound = letter_sound g; complete = λ v h. inl (completed g v h) }

-- the answer, whether blanks alone may follow
module _ (r : Core) (entry : Bool) (at_once after_blanks : Marks r) (A : Word → Type 0) (s : LeadsOverBlanks r entry at_once after_blanks A) where
  no_more : (n : ℕ) → blanks n ++ [] ≡ blanks n
  no_more zero = refl
  no_more (suc n) = ap (λ x. blank ∷ x) (no_more n)

  pub leaving_sound : (can_leave r false entry at_once || can_leave r true false after_blanks) ≡ true → (n : ℕ) × A (blanks n)
  leaving_sound h = elim (or_cases (can_leave r false entry at_once) (can_leave r true false after_blanks) h) [
    | inl p ↦ (0, s.now.sound [] (can_leave_sound r false entry at_once p))
    | inr p ↦ elim (can_leave_sound r true false after_blanks p) [
      | inl q ↦ let t = s.blanks_sound [] q in (suc t.0, subst A (no_more (suc t.0)) t.1)
      | inr q ↦ absurd (let e = q.0 in cc)
    ]
  ]

  pub leaving_complete : (n : ℕ) → A (blanks n) → (can_leave r false entry at_once || can_leave r true false after_blanks) ≡ true
  leaving_complete zero h = or_left (can_leave r false entry at_once) (can_leave r true false after_blanks)
      (can_leave_complete r false entry at_once (s.now.complete [] h))
  leaving_complete (suc n) h = or_right (can_leave r false entry at_once) (can_leave r true false after_blanks)
      (can_leave_complete r true false after_blanks (inl (s.blanks_complete [] n (subst A (sym (no_more (suc n))) h))))

-- the same for the letters of a list: whether a word of the expression spells them
module _ (r : Core) (entry : Bool) (at_once after_blanks : Marks r) (letters : List (Gap × ℕ)) (s : Represents r entry at_once after_blanks letters) where
  pub accept_sound : (can_leave r false entry at_once || can_leave r true false after_blanks) ≡ true → (w : Word) × WordsOf r w × SpellsGapped w letters
  accept_sound h = let t = leaving_sound r entry at_once after_blanks (After (WordsOf r) letters) s h in spells-After letters (WordsOf r) t.0 t.1

  pub accept_complete : (w : Word) → WordsOf r w → SpellsGapped w letters → (can_leave r false entry at_once || can_leave r true false after_blanks) ≡ true
  accept_complete w p q =
      let t = After-spells letters (WordsOf r) w p q in leaving_complete r entry at_once after_blanks (After (WordsOf r) letters) s t.0 t.1

-- with no mark left, no word spells any letters that begin with these
spells-begin : (letters more : List (Gap × ℕ)) (P : Word → Type 0) (w : Word) → P w → SpellsGapped w (letters ++ more) → (v : Word) × After P letters v
spells-begin [] more P w p s = (w, p)
spells-begin (x ∷ rest) more P w p (n, allows, v, e, s) =
    spells-begin rest more (λ u. (k : ℕ) × Allows x.0 k × P (blanks k ++ x.1 ∷ u)) v (n, allows, subst P e p) s

pub never_spelled : (r : Core) (letters more : List (Gap × ℕ)) → RepresentsAtOnce r false (no_marks r) letters →
    (w : Word) → WordsOf r w → SpellsGapped w (letters ++ more) → ⊥
never_spelled r letters more s w p q =
    let t = spells-begin letters more (WordsOf r) w p q in
    elim (s.complete t.0 t.1) [ inl h ↦ Completes-no_marks r false t.0 h | inr h ↦ absurd (let e = h.0 in cc) ]

-- a list with one letter more
module _ (r : Core) (marks : Marks r) (letters : List (Gap × ℕ)) (g : Gap) (c : ℕ) where
  pub RepresentsAtOnce-more : Leads r false marks (Then g c (After (WordsOf r) letters)) → RepresentsAtOnce r false marks (letters ++ (g, c) ∷ [])
  RepresentsAtOnce-more = Leads-same r false marks (Then g c (After (WordsOf r) letters)) (After (WordsOf r) (letters ++ (g, c) ∷ []))
      (λ v h. snoc-After letters (WordsOf r) g c v h.0 h.1 h.2) (λ v h. After-snoc letters (WordsOf r) g c v h)

pub RepresentsAtOnce-letter : (r : Core) (entry : Bool) (at_once : Marks r) (letters : List (Gap × ℕ)) → RepresentsAtOnce r entry at_once letters →
    (c : ℕ) → (c ≡ blank → ⊥) → RepresentsAtOnce r false (shift r false entry at_once c) (letters ++ (no_gap, c) ∷ [])
RepresentsAtOnce-letter r entry at_once letters s c letter =
    RepresentsAtOnce-more r (shift r false entry at_once c) letters no_gap c (Leads-letter r entry at_once (After (WordsOf r) letters) s c letter)

-- one letter more, which is no blank, after any gap
pub Represents-letter : (r : Core) (entry : Bool) (at_once after_blanks : Marks r) (letters : List (Gap × ℕ)) →
    Represents r entry at_once after_blanks letters → (g : Gap) (c : ℕ) → (c ≡ blank → ⊥) →
    RepresentsAtOnce r false (shift_over r entry at_once after_blanks g c) (letters ++ (g, c) ∷ [])
Represents-letter r entry at_once after_blanks letters s g c letter =
    RepresentsAtOnce-more r (shift_over r entry at_once after_blanks g c) letters g c
    (LeadsOverBlanks-letter r entry at_once after_blanks (After (WordsOf r) letters) s c (ne_eqb c blank letter) g)

-- one letter more within a token
pub LeadsSoFar-letter : (r : Core) (entry : Bool) (at_once after_blanks : Marks r) (is_apart : Bool) (A : Word → Type 0) →
    LeadsSoFar r entry at_once after_blanks is_apart A → (are_words : Bool) (c : ℕ) → (c ≡ blank → ⊥) →
    Leads r false (shift_over r entry at_once after_blanks (gap_of is_apart are_words) c) (Then (gap_of is_apart are_words) c A)
LeadsSoFar-letter r entry at_once after_blanks false A s are_words c letter = Leads-letter r entry at_once A s.now c letter
LeadsSoFar-letter r entry at_once after_blanks true A s are_words c letter =
    LeadsOverBlanks-letter r entry at_once after_blanks A (s.apart refl) c (ne_eqb c blank letter) (gap_of true are_words)

-- the marks after a letter, by the gap before it
module _ (r : Core) (entry : Bool) (at_once after_blanks : Marks r) (is_apart are_words : Bool) (c : ℕ) where
  pub shift_over-joined : is_apart ≡ false →
      shift_over r entry at_once after_blanks (gap_of is_apart are_words) c ≡ shift r false entry at_once c
  shift_over-joined h = rw h refl

  pub shift_over-needed : is_apart ≡ true → are_words ≡ true →
      shift_over r entry at_once after_blanks (gap_of is_apart are_words) c ≡ shift r true false after_blanks c
  shift_over-needed h k = rw (h, k) refl

  pub shift_over-free : is_apart ≡ true → are_words ≡ false →
      shift_over r entry at_once after_blanks (gap_of is_apart are_words) c
      ≡ join r (shift r false entry at_once c) (shift r true false after_blanks c)
  shift_over-free h k = rw (h, k) refl
