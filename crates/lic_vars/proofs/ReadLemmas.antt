-- Reading words.
use Rattle.std.proofs.Common.{◌≡◌, ℕ, suc, ◌≤◌, ◌==◌, ◌&&◌, Bool, true, false, List, [], ◌∷◌, ◌++◌, length, Option, Some, None, refl, ap, if◌then◌else◌, arith}
use Rattle.lic_words.specs.Words.{Word, blank}
use Rattle.lic_words.specs.Spelling.{Gap}
use Rattle.lic_words.specs.Letters.{letters_in}
use Rattle.lic_vars.proofs.Ways.{State, fits, pick, read_word}

pick_then : (blank next : Bool) (x y x' y' : Option State) (s : State) (z : Option State) →
    (x ≡ Some s → x' ≡ z) → (y ≡ Some s → y' ≡ z) → pick blank next x y ≡ Some s → pick blank next x' y' ≡ z
pick_then true next x y x' y' s z f g e = f e
pick_then false true x y x' y' s z f g e = g e
pick_then false false x y x' y' s z f g e = cc

-- a word, and then another
pub read-append : (u v : Word) (left : List (Gap × ℕ)) (apart : Bool) (s : State) →
    read_word u left apart ≡ Some s → read_word (u ++ v) left apart ≡ read_word v s.0 s.1
read-append [] v left apart s e =
    let f : (left, apart) ≡ s = cc in
    ap (λ (t : State). read_word v t.0 t.1) f
read-append (c ∷ u) v [] apart s e =
    pick_then (c == blank) false (read_word u [] true) None (read_word (u ++ v) [] true) None s (read_word v s.0 s.1)
    (read-append u v [] true s) (λ f. cc) e
read-append (c ∷ u) v (p ∷ left) apart s e =
    pick_then (c == blank) (c == p.1 && fits p.0 apart) (read_word u (p ∷ left) true) (read_word u left false)
    (read_word (u ++ v) (p ∷ left) true) (read_word (u ++ v) left false) s (read_word v s.0 s.1)
    (read-append u v (p ∷ left) true s) (read-append u v left false s) e

pick_split : (blank next : Bool) (x y x' y' : Option State) (t : State) (Q : State → Type 0) →
    (x' ≡ Some t → (s : State) × (x ≡ Some s) × Q s) → (y' ≡ Some t → (s : State) × (y ≡ Some s) × Q s) →
    pick blank next x' y' ≡ Some t → (s : State) × (pick blank next x y ≡ Some s) × Q s
pick_split true next x y x' y' t Q f g e = f e
pick_split false true x y x' y' t Q f g e = g e
pick_split false false x y x' y' t Q f g e = absurd cc

-- the state between two words
pub read-split : (u v : Word) (left : List (Gap × ℕ)) (apart : Bool) (t : State) → read_word (u ++ v) left apart ≡ Some t →
    (s : State) × (read_word u left apart ≡ Some s) × (read_word v s.0 s.1 ≡ Some t)
read-split [] v left apart t e = ((left, apart), refl, e)
read-split (c ∷ u) v [] apart t e =
    pick_split (c == blank) false (read_word u [] true) None (read_word (u ++ v) [] true) None t (λ s. read_word v s.0 s.1 ≡ Some t)
    (read-split u v [] true t) (λ f. absurd cc) e
read-split (c ∷ u) v (p ∷ left) apart t e =
    pick_split (c == blank) (c == p.1 && fits p.0 apart) (read_word u (p ∷ left) true) (read_word u left false)
    (read_word (u ++ v) (p ∷ left) true) (read_word (u ++ v) left false) t (λ s. read_word v s.0 s.1 ≡ Some t)
    (read-split u v (p ∷ left) true t) (read-split u v left false t) e

-- no more letters are read than there are
within_cons : (b m : Bool) (x y : Option State) (s : State) (n k : ℕ) →
    (x ≡ Some s → n ≤ suc k) → (y ≡ Some s → n ≤ k) → pick b m x y ≡ Some s → (if b then n else suc n) ≤ suc k
within_cons true m x y s n k f g e = f e
within_cons false true x y s n k f g e = let h = g e in omega arith
within_cons false false x y s n k f g e = absurd cc

within_nil : (b : Bool) (x : Option State) (s : State) (n : ℕ) → (x ≡ Some s → n ≤ 0) → pick b false x None ≡ Some s → (if b then n else suc n) ≤ 0
within_nil true x s n f e = f e
within_nil false x s n f e = absurd cc

pub read-within : (u : Word) (left : List (Gap × ℕ)) (apart : Bool) (s : State) → read_word u left apart ≡ Some s → letters_in u ≤ length left
read-within [] left apart s e = omega arith
read-within (c ∷ u) [] apart s e = within_nil (c == blank) (read_word u [] true) s (letters_in u) (read-within u [] true s) e
read-within (c ∷ u) (p ∷ left) apart s e =
    within_cons (c == blank) (c == p.1 && fits p.0 apart) (read_word u (p ∷ left) true) (read_word u left false) s (letters_in u) (length left)
    (read-within u (p ∷ left) true s) (read-within u left false s) e
