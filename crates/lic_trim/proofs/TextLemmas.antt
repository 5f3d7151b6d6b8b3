-- Texts, character by character; texts in reverse.
use Rattle.std.proofs.Common.{◌≡◌, ℕ, ◌-◌, ◌<◌, ◌≤◌, Bool, true, false, List, [], ◌∷◌, ◌++◌, length, take, drop, map, get_or, refl, sym, ap, ◌∙◌, arith}
use Rattle.std.specs.Prelude.{bytes_eq, reverse}
use Rattle.std.proofs.lemmas.Slice.Eq.{bytes_eq-Decides}
use Rattle.std.proofs.lemmas.List.{ext_get_or, map-append, reverse-reverse, reverse-append, length-reverse, length-drop, take-append-drop, take_at, drop_at}

-- two tests that pass together are one
pub same_truth : (a b : Bool) → (a ≡ true → b ≡ true) → (b ≡ true → a ≡ true) → a ≡ b
same_truth true b f g = sym (f refl)
same_truth false true f g = g refl
same_truth false false f g = refl

pub bytes_eq-same : (a b : List ℕ) → length a ≡ length b → ((k : ℕ) → k < length a → get_or a k 0 ≡ get_or b k 0) → true ≡ bytes_eq a b
bytes_eq-same a b long each = sym ((bytes_eq-Decides a b).1 (ext_get_or 0 a b long each))

pub bytes_eq-other : (a b : List ℕ) → (a ≡ b → ⊥) → false ≡ bytes_eq a b
bytes_eq-other a b other = same_truth false (bytes_eq a b) (λ e. absurd (true_false e)) (λ e. absurd (other ((bytes_eq-Decides a b).0 e)))
  where
    true_false : false ≡ true → ⊥
    true_false e = cc

pub bytes_eq-sym : (a b : List ℕ) → bytes_eq a b ≡ bytes_eq b a
bytes_eq-sym a b = same_truth _ _
    (λ h. (bytes_eq-Decides b a).1 (sym ((bytes_eq-Decides a b).0 h)))
    (λ h. (bytes_eq-Decides a b).1 (sym ((bytes_eq-Decides b a).0 h)))

pub reverse_same : {A : Type 0} (a b : List A) → reverse a ≡ reverse b → a ≡ b
reverse_same a b e = sym (reverse-reverse a) ∙ ap reverse e ∙ reverse-reverse b

pub bytes_eq-reverses : (a b : List ℕ) → bytes_eq a b ≡ bytes_eq (reverse a) (reverse b)
bytes_eq-reverses a b = same_truth (bytes_eq a b) (bytes_eq (reverse a) (reverse b))
    (λ h. (bytes_eq-Decides (reverse a) (reverse b)).1 (let same : a ≡ b = (bytes_eq-Decides a b).0 h in ap reverse same))
    (λ h. (bytes_eq-Decides a b).1 (reverse_same a b ((bytes_eq-Decides (reverse a) (reverse b)).0 h)))

pub reverse-map : {A B : Type 0} (f : A → B) (xs : List A) → reverse (map f xs) ≡ map f (reverse xs)
reverse-map f [] = refl
reverse-map f (x ∷ xs) = reverse-append (f x ∷ []) (map f xs) ∙ ap (λ l. l ++ f x ∷ []) (reverse-map f xs)
    ∙ sym (map-append f (reverse xs) (x ∷ [])) ∙ ap (map f) (sym (reverse-append (x ∷ []) xs))

-- the front of a text in reverse is its end in reverse
pub take-reverse : {A : Type 0} (n : ℕ) (xs : List A) → n ≤ length xs → take n (reverse xs) ≡ reverse (drop (length xs - n) xs)
take-reverse n xs h =
    let m = length xs - n in
    let long : length (reverse (drop m xs)) ≡ n = omega (arith, length-reverse (drop m xs), length-drop m xs) in
    ap (take n) (ap reverse (sym (take-append-drop m xs)) ∙ reverse-append (take m xs) (drop m xs))
    ∙ take_at (reverse (drop m xs)) (reverse (take m xs)) n long

pub drop-reverse : {A : Type 0} (n : ℕ) (xs : List A) → n ≤ length xs → drop n (reverse xs) ≡ reverse (take (length xs - n) xs)
drop-reverse n xs h =
    let m = length xs - n in
    let long : length (reverse (drop m xs)) ≡ n = omega (arith, length-reverse (drop m xs), length-drop m xs) in
    ap (drop n) (ap reverse (sym (take-append-drop m xs)) ∙ reverse-append (take m xs) (drop m xs))
    ∙ drop_at (reverse (drop m xs)) (reverse (take m xs)) n long
