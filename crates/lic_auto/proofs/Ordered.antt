-- Sequences from the last item on.
use Rattle.std.proofs.Common.{◌≡◌, Bool, true, false, ◌&&◌, List, [], ◌∷◌, ◌++◌, map, reverse, refl, sym, ap, ◌∙◌}
use Rattle.std.specs.List.{list_all}
use Rattle.std.proofs.lemmas.List.{reverse-append, map-append}
use Rattle.std.proofs.lemmas.List.Folds.{list_all-append}
use Rattle.lic_auto.specs.declared.direction.Direction.{Direction}
use Rattle.lic_auto.specs.declared.direction.Direction.TheVariants.{Forward, Backward}
use Rattle.lic_auto.specs.Directions.{ordered}

pub reverse-cons : {X : Type 0} (x : X) (xs : List X) → reverse (x ∷ xs) ≡ reverse xs ++ x ∷ []
reverse-cons x xs = reverse-append (x ∷ []) xs

pub map-reverse : {X Y : Type 0} (f : X → Y) (xs : List X) → map f (reverse xs) ≡ reverse (map f xs)
map-reverse f [] = refl
map-reverse f (x ∷ xs) =
    ap (map f) (reverse-cons x xs) ∙ map-append f (reverse xs) (x ∷ []) ∙ ap (λ ys. ys ++ f x ∷ []) (map-reverse f xs) ∙ sym (reverse-cons (f x) (map f xs))

and_both : (a b : Bool) → a ≡ true → b ≡ true → (a && b) ≡ true
and_both true b h k = k
and_both false b h k = h

and_left : (a b : Bool) → (a && b) ≡ true → a ≡ true
and_left true b h = refl
and_left false b h = h

and_right : (a b : Bool) → (a && b) ≡ true → b ≡ true
and_right true b h = h
and_right false b h = cc

pub list_all-reverse : {X : Type 0} (p : X → Bool) (xs : List X) → list_all p xs ≡ true → list_all p (reverse xs) ≡ true
list_all-reverse p [] h = h
list_all-reverse p (x ∷ xs) h =
    ap (list_all p) (reverse-cons x xs) ∙ list_all-append p (reverse xs) (x ∷ [])
    ∙ and_both (list_all p (reverse xs)) (list_all p (x ∷ [])) (list_all-reverse p xs (and_right (p x) (list_all p xs) h))
    (and_both (p x) true (and_left (p x) (list_all p xs) h) refl)

pub map-ordered : {X Y : Type 0} (d : Direction) (f : X → Y) (xs : List X) → map f (ordered d xs) ≡ ordered d (map f xs)
map-ordered Forward f xs = refl
map-ordered Backward f xs = map-reverse f xs

pub list_all-ordered : {X : Type 0} (d : Direction) (p : X → Bool) (xs : List X) → list_all p xs ≡ true → list_all p (ordered d xs) ≡ true
list_all-ordered Forward p xs h = h
list_all-ordered Backward p xs h = list_all-reverse p xs h
