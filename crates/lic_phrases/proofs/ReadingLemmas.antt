-- The reader of a word list, step by step.
use Rattle.std.proofs.Common.{◌≡◌, ◌≢◌, inl, inr, ℕ, zero, suc, ◌+◌, ◌<◌, ◌≤◌, List, [], ◌∷◌, ◌++◌, length, get_or, map, refl, sym, ap, ap₂, subst, ◌∙◌, arith, length-append, append_assoc, append-nil}
use Rattle.std.proofs.lemmas.Bool.{cases_lt}
use Rattle.std.proofs.lemmas.List.{map-append}
use Rattle.std.proofs.lemmas.List.Elements.{Contains-append_right}
use Rattle.std.specs.List.{Contains}
use Rattle.lic_phrases.specs.Classes.{AreRepresentatives}
use Rattle.lic_phrases.specs.WordLists.{in_order}
use Rattle.lic_phrases.specs.WordReading.{AreInOrder, HasRead}
use Rattle.lic_phrases.proofs.ClassLemmas.{new_phrase}
use Rattle.lic_phrases.proofs.WordClasses.{again, next_number}

get_before : {A : Type 0} (xs ys : List A) (k : ℕ) (d : A) → k < length xs → get_or (xs ++ ys) k d ≡ get_or xs k d
get_before [] ys k d h = absurd (omega arith)
get_before (x ∷ xs) ys zero d h = refl
get_before (x ∷ xs) ys (suc k) d h = get_before xs ys k d (omega arith)

get_after : {A : Type 0} (xs : List A) (y d : A) → get_or (xs ++ y ∷ []) (length xs) d ≡ y
get_after [] y d = refl
get_after (x ∷ xs) y d = get_after xs y d

map_alike : {A : Type 0} {B : Type 0} (f g : A → B) (xs : List A) → ((x : A) → Contains xs x → f x ≡ g x) → map f xs ≡ map g xs
map_alike f g [] alike = refl
map_alike f g (x ∷ xs) alike =
    ap₂ (λ y ys. y ∷ ys) (alike x (0, omega arith, refl))
    (map_alike f g xs (λ y has. alike y (suc has.0, omega (arith, has.1), has.2)))

in_order-append : (ls ms : List (List ℕ)) → in_order (ls ++ ms) ≡ in_order ls ++ in_order ms
in_order-append [] ms = refl
in_order-append (l ∷ ls) ms = ap (λ r. l ++ r) (in_order-append ls ms) ∙ sym (append_assoc l (in_order ls) (in_order ms))

module _ {A : Type 0} (d : A) (lines : List (List A)) (line : List A) (keys : List A) (heads line_numbers : List ℕ)
    (known : HasRead d lines line keys heads line_numbers) where
  abbrev key : ℕ → A
  key i = get_or keys i d

  -- a phrase that is known already
  pub read_again : (q : ℕ) → q < length keys → HasRead d lines (line ++ key q ∷ []) keys heads (line_numbers ++ q ∷ [])
  read_again q less = record {
    numbers = known.numbers;
    named = known.named;
    line_named = map-append key line_numbers (q ∷ []) ∙ ap (λ l. l ++ key q ∷ []) known.line_named;
    classes = known.classes;
    as_many = known.as_many;
    distinct = known.distinct;
    ordered = subst (λ l. AreInOrder l (length keys)) (append_assoc (in_order known.numbers) line_numbers (q ∷ []))
        (again (in_order known.numbers ++ line_numbers) (length keys) q less known.ordered);
  }

  pub line_below : (x : ℕ) → Contains line_numbers x → x < length keys
  line_below x has =
      let there = Contains-append_right (in_order known.numbers) line_numbers x has in
      let b = known.ordered.below there.0 there.1 in
      omega (arith, got (in_order known.numbers ++ line_numbers) there.0 x there.1 there.2)
    where
      got : (xs : List ℕ) (k y : ℕ) → k < length xs → get_or xs k y ≡ y → get_or xs k 0 ≡ y
      got [] k y h e = absurd (omega arith)
      got (z ∷ xs) zero y h e = e
      got (z ∷ xs) (suc k) y h e = got xs k y (omega arith) e

  -- a new one
  module _ (p : A) (new : (i : ℕ) → i < length keys → key i ≢ p) where
    abbrev key' : ℕ → A
    key' i = get_or (keys ++ p ∷ []) i d

    stays_named : (x : ℕ) → x < length keys → key' x ≡ key x
    stays_named x h = get_before keys (p ∷ []) x d h

    longer : length (keys ++ p ∷ []) ≡ length keys + 1
    longer = length-append keys (p ∷ [])

    is_last : (i : ℕ) → i < length (keys ++ p ∷ []) → length keys ≤ i → key' i ≡ p
    is_last i h l = ap key' (let e : i ≡ length keys = omega (arith, longer) in e) ∙ get_after keys p d

    pub read_new : HasRead d lines (line ++ p ∷ []) (keys ++ p ∷ []) (heads ++ length heads ∷ []) (line_numbers ++ length keys ∷ [])
    read_new = record {
      numbers = known.numbers;
      named =
          map_alike (map key') (map key) known.numbers (λ l there.
          map_alike key' key l (λ x has. let b = known.classes.numbered l x there has in
          stays_named x (omega (arith, known.as_many))))
          ∙ known.named;
      line_named =
          map-append key' line_numbers (length keys ∷ [])
          ∙ ap₂ (λ a b. a ++ b ∷ []) (map_alike key' key line_numbers (λ x has. stays_named x (line_below x has)) ∙ known.line_named) (get_after keys p d);
      classes = new_phrase known.numbers heads known.classes;
      as_many = omega (arith, known.as_many, length-append heads (length heads ∷ []), longer);
      distinct = λ i j hi hj e. elim (cases_lt i (length keys)) [
        | inl i_old ↦ elim (cases_lt j (length keys)) [
          | inl j_old ↦ known.distinct i j i_old j_old (sym (stays_named i i_old) ∙ e ∙ stays_named j j_old)
          | inr j_new ↦ absurd (new i i_old (sym (stays_named i i_old) ∙ e ∙ is_last j hj j_new))
        ]
        | inr i_new ↦ elim (cases_lt j (length keys)) [
          | inl j_old ↦ absurd (new j j_old (sym (stays_named j j_old) ∙ sym e ∙ is_last i hi i_new))
          | inr j_new ↦ omega (arith, longer)
        ]
      ];
      ordered = subst (AreInOrder (in_order known.numbers ++ (line_numbers ++ length keys ∷ []))) (sym longer)
          (subst (λ l. AreInOrder l (length keys + 1))
          (append_assoc (in_order known.numbers) line_numbers (length keys ∷ []))
          (next_number (in_order known.numbers ++ line_numbers) (length keys) known.ordered));
    }

  -- the line ends, and its phrases become one class
  pub read_line : (heads' : List ℕ) → length heads' ≡ length heads
      → AreRepresentatives (known.numbers ++ line_numbers ∷ []) heads' → HasRead d (lines ++ line ∷ []) [] keys heads' []
  read_line heads' same joined = record {
    numbers = known.numbers ++ line_numbers ∷ [];
    named = map-append (map key) known.numbers (line_numbers ∷ []) ∙ ap₂ (λ a b. a ++ b ∷ []) known.named known.line_named;
    line_named = refl;
    classes = joined;
    as_many = same ∙ known.as_many;
    distinct = known.distinct;
    ordered = subst (λ l. AreInOrder l (length keys))
        (ap (λ l. in_order known.numbers ++ l) (sym (append-nil line_numbers))
        ∙ sym (in_order-append known.numbers (line_numbers ∷ []))
        ∙ sym (append-nil (in_order (known.numbers ++ line_numbers ∷ [])))) known.ordered;
  }
