-- A word spells the letters exactly where it can be read to their end.
use Rattle.std.proofs.Common.{◌≡◌, ℕ, ◌==◌, ◌&&◌, suc, zero, Bool, true, false, List, [], ◌∷◌, ◌++◌, Option, Some, None, refl, sym, ap, ◌∙◌, eqb-true, eq-eqb, arith, lit≤}
use Rattle.lic_words.specs.Words.{Word, blank, blanks}
use Rattle.lic_words.specs.Spelling.{Gap, no_gap, free, needed, gapped_from, Allows, SpellsGapped}
use Rattle.lic_vars.proofs.Ways.{State, NoBlanks, fits, pick, read_word}

flat_cons : (last : ℕ) (apart : Bool) (c : ℕ) (rest : List ℕ) (b : Bool) → (c == blank) ≡ b →
    ((l : ℕ) (a : Bool) → NoBlanks (gapped_from l a rest)) → NoBlanks (gapped_from last apart (c ∷ rest))
flat_cons last apart c rest true h ih = rw h (ih last true)
flat_cons last apart c rest false h ih = rw h (h, ih c false)

pub gapped-letters : (last : ℕ) (apart : Bool) (cs : List ℕ) → NoBlanks (gapped_from last apart cs)
gapped-letters last apart [] = tt
gapped-letters last apart (c ∷ rest) = flat_cons last apart c rest (c == blank) refl (λ l a. gapped-letters l a rest)

-- the word after the blank that was written before it
abbrev lead : Bool → Word → Word
lead true w = blank ∷ w
lead false w = w

allows_more : (g : Gap) (n : ℕ) → Allows g (suc n) → Allows g (suc (suc n))
allows_more no_gap n h = absurd cc
allows_more free n h = tt
allows_more needed n h = omega arith

one_more : (F : List (Gap × ℕ)) (w : Word) → NoBlanks F → SpellsGapped (blank ∷ w) F → SpellsGapped (blank ∷ blank ∷ w) F
one_more [] w h s = (suc s.0, ap (λ (v : Word). blank ∷ v) s.1)
one_more ((g, c) ∷ rest) w h (zero, a, v, e, s) =
    let t : blank ≡ c = cc in
    let u = eq-eqb c blank (sym t) in
    absurd (let p = h.0 in cc)
one_more ((g, c) ∷ rest) w h (suc n, a, v, e, s) = (suc (suc n), allows_more g n a, v, ap (λ (v : Word). blank ∷ v) e, s)

more_blanks : (apart : Bool) (F : List (Gap × ℕ)) (w : Word) → NoBlanks F → SpellsGapped (blank ∷ w) F → SpellsGapped (lead apart (blank ∷ w)) F
more_blanks true F w h s = one_more F w h s
more_blanks false F w h s = s

at_letter : (apart : Bool) (g : Gap) (c : ℕ) (F : List (Gap × ℕ)) (w : Word) → fits g apart ≡ true → SpellsGapped w F
    → SpellsGapped (lead apart (c ∷ w)) ((g, c) ∷ F)
at_letter true no_gap c F w h s = absurd cc
at_letter true free c F w h s = (1, tt, w, refl, s)
at_letter true needed c F w h s = (1, lit≤ tt, w, refl, s)
at_letter false no_gap c F w h s = (0, refl, w, refl, s)
at_letter false free c F w h s = (0, tt, w, refl, s)
at_letter false needed c F w h s = absurd cc

pub and_left : (a b : Bool) → (a && b) ≡ true → a ≡ true
and_left true b h = refl
and_left false b h = cc

pub and_right : (a b : Bool) → (a && b) ≡ true → b ≡ true
and_right true b h = h
and_right false b h = absurd cc

end_cons : (b : Bool) (c : ℕ) (w : Word) (apart after : Bool) → (c == blank) ≡ b →
    (read_word w [] true ≡ Some ([], after) → SpellsGapped (blank ∷ w) []) →
    pick b false (read_word w [] true) None ≡ Some ([], after) → SpellsGapped (lead apart (c ∷ w)) []
end_cons true c w apart after h ih e = rw (eqb-true c blank h) (more_blanks apart [] w tt (ih e))
end_cons false c w apart after h ih e = absurd cc

letter_cons : (b m : Bool) (c : ℕ) (w : Word) (p : Gap × ℕ) (F : List (Gap × ℕ)) (apart after : Bool)
    → NoBlanks (p ∷ F) → (c == blank) ≡ b → (c == p.1 && fits p.0 apart) ≡ m →
    (read_word w (p ∷ F) true ≡ Some ([], after) → SpellsGapped (blank ∷ w) (p ∷ F)) →
    (read_word w F false ≡ Some ([], after) → SpellsGapped w F) →
    pick b m (read_word w (p ∷ F) true) (read_word w F false) ≡ Some ([], after) → SpellsGapped (lead apart (c ∷ w)) (p ∷ F)
letter_cons true m c w p F apart after n h k ih jh e = rw (eqb-true c blank h) (more_blanks apart (p ∷ F) w n (ih e))
letter_cons false true c w p F apart after n h k ih jh e =
    let same : c ≡ p.1 = eqb-true c p.1 (and_left (c == p.1) (fits p.0 apart) k) in
    rw same (at_letter apart p.0 p.1 F w (and_right (c == p.1) (fits p.0 apart) k) (jh e))
letter_cons false false c w p F apart after n h k ih jh e = absurd cc

read_spells : (w : Word) (F : List (Gap × ℕ)) (apart after : Bool) → NoBlanks F → read_word w F apart ≡ Some ([], after) → SpellsGapped (lead apart w) F
read_spells [] [] true after h e = (1, refl)
read_spells [] [] false after h e = (0, refl)
read_spells [] (p ∷ F) apart after h e = absurd (let f : (p ∷ F, apart) ≡ ([], after) = cc in let g : p ∷ F ≡ [] = ap (λ (s : State). s.0) f in cc)
read_spells (c ∷ w) [] apart after h e =
    end_cons (c == blank) c w apart after refl (read_spells w [] true after tt) e
read_spells (c ∷ w) (p ∷ F) apart after h e =
    letter_cons (c == blank) (c == p.1 && fits p.0 apart) c w p F apart after h refl refl
    (read_spells w (p ∷ F) true after h) (read_spells w F false after h.1) e

pub read-spells : (w : Word) (F : List (Gap × ℕ)) (after : Bool) → NoBlanks F → read_word w F false ≡ Some ([], after) → SpellsGapped w F
read-spells w F after h e = read_spells w F false after h e

read_blanks : (n : ℕ) (apart : Bool) → (a : Bool) × (read_word (blanks n) [] apart ≡ Some ([], a))
read_blanks zero apart = (apart, refl)
read_blanks (suc n) apart = read_blanks n true

-- some blanks, and then a letter
abbrev pub apart_by : ℕ → Bool → Bool
apart_by zero apart = apart
apart_by (suc n) apart = true

true_fits : (p : Gap × ℕ) (F : List (Gap × ℕ)) (v : Word) (apart b m : Bool) (x : Option State) → b ≡ false → m ≡ true
    → pick b m x (read_word v F false) ≡ read_word v F false
true_fits p F v apart true m x h k = absurd cc
true_fits p F v apart false true x h k = refl
true_fits p F v apart false false x h k = absurd cc

pub read_letter : (p : Gap × ℕ) (F : List (Gap × ℕ)) (v : Word) (apart : Bool) → (p.1 == blank) ≡ false → fits p.0 apart ≡ true →
    read_word (p.1 ∷ v) (p ∷ F) apart ≡ read_word v F false
read_letter p F v apart h k =
    true_fits p F v apart (p.1 == blank) (p.1 == p.1 && fits p.0 apart) (read_word v (p ∷ F) true) h
    (ap (λ x. x && fits p.0 apart) (eq-eqb p.1 p.1 refl) ∙ k)

pub read_gap : (n : ℕ) (p : Gap × ℕ) (F : List (Gap × ℕ)) (v : Word) (apart : Bool) → (p.1 == blank) ≡ false → fits p.0 (apart_by n apart) ≡ true →
    read_word (blanks n ++ p.1 ∷ v) (p ∷ F) apart ≡ read_word v F false
read_gap zero p F v apart h k = read_letter p F v apart h k
read_gap (suc zero) p F v apart h k = read_gap zero p F v true h k
read_gap (suc (suc n)) p F v apart h k = read_gap (suc n) p F v true h k

pub fits_allowed : (g : Gap) (n : ℕ) → Allows g n → fits g (apart_by n false) ≡ true
fits_allowed no_gap zero h = refl
fits_allowed no_gap (suc n) h = absurd cc
fits_allowed free n h = refl
fits_allowed needed zero h = absurd (omega arith)
fits_allowed needed (suc n) h = refl

pub spells-read : (F : List (Gap × ℕ)) (w : Word) → NoBlanks F → SpellsGapped w F → (after : Bool) × (read_word w F false ≡ Some ([], after))
spells-read [] w h s = rw s.1 (read_blanks s.0 false)
spells-read (p ∷ F) w h s =
    let rest = spells-read F s.2 h.1 s.4 in
    (rest.0, rw s.3 (read_gap s.0 p F s.2 false h.0 (fits_allowed p.0 s.0 s.1) ∙ rest.1))
