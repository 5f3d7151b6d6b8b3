-- From numbered phrases to phrases: the spelling of a class is that of its first phrase in the file.
use Rattle.std.proofs.Common.{◌≡◌, ◌≢◌, inl, inr, ℕ, zero, suc, ◌+◌, ◌<◌, ◌≤◌, List, [], ◌∷◌, ◌++◌, length, get_or, map, refl, sym, ap, subst, ◌∙◌, arith, length-append}
use Rattle.std.proofs.lemmas.Bool.{cases_lt, cases_eq}
use Rattle.std.proofs.lemmas.Grind.{common_steps}
use Rattle.std.proofs.lemmas.List.{length-map, map-append}
use Rattle.std.proofs.lemmas.List.Elements.{Contains-append_left, Contains-append_right}
use Rattle.std.specs.List.{Contains}
use Rattle.lic_phrases.specs.Classes.{OnOneLine, Leads, Equivalent, IsFirst, AreRepresentatives}
use Rattle.lic_phrases.specs.WordLists.{in_order, AreWords}
use Rattle.lic_phrases.specs.WordReading.{AreInOrder}
use Rattle.lic_phrases.specs.Spelling.{spelled}
use Rattle.lic_phrases.specs.Rewriting.{Phrase}
use Rattle.lic_phrases.proofs.ClassLemmas.{equivalent_self, equivalent_step, equivalent_through, head_is_least, head_is_one, heads_alike}

pub get-map : {A : Type 0} {B : Type 0} (f : A → B) (xs : List A) (k : ℕ) (a : A) (b : B) → k < length xs → get_or (map f xs) k b ≡ f (get_or xs k a)
get-map f [] k a b h = absurd (omega arith)
get-map f (x ∷ xs) zero a b h = refl
get-map f (x ∷ xs) (suc k) a b h = get-map f xs k a b (omega arith)

pub get_any : {A : Type 0} (xs : List A) (k : ℕ) (a b : A) → k < length xs → get_or xs k a ≡ get_or xs k b
get_any [] k a b h = absurd (omega arith)
get_any (x ∷ xs) zero a b h = refl
get_any (x ∷ xs) (suc k) a b h = get_any xs k a b (omega arith)

pub contains-map : {A : Type 0} {B : Type 0} (f : A → B) (xs : List A) (x : A) → Contains xs x → Contains (map f xs) (f x)
contains-map f xs x (k, within, is) = (k, omega (arith, length-map xs f), get-map f xs k x (f x) within ∙ ap f is)

pub contains-map_from : {A : Type 0} {B : Type 0} (f : A → B) (xs : List A) (y : B) → Contains (map f xs) y → (x : A) × Contains xs x × (f x ≡ y)
contains-map_from f [] y (k, within, is) = absurd (omega arith)
contains-map_from f (x ∷ xs) y (zero, within, is) = (x, (0, omega arith, refl), is)
contains-map_from f (x ∷ xs) y (suc k, within, is) =
    let rest = contains-map_from f xs y (k, omega arith, is) in
    (rest.0, (suc rest.1.0, omega (arith, rest.1.1), rest.1.2), rest.2)

-- where a number first occurs
record First (flat : List ℕ) (m : ℕ) : Type 0 where
  pub at : ℕ
  pub within : at < length flat
  pub is : get_or flat at 0 ≡ m
  pub none : (k : ℕ) → k < at → get_or flat k 0 ≢ m

first : (flat : List ℕ) (m : ℕ) → Contains flat m → First flat m
first [] m (k, within, is) = absurd (omega arith)
first (x ∷ flat) m (k, within, is) = elim (cases_eq x m) [
  | inl same ↦ record { at = 0; within = omega arith; is = same; none = λ j below. absurd (omega arith) }
  | inr other ↦
      let later = first flat m (rest k within is other) in
      let l = later.within in
      record { at = suc later.at; within = omega arith; is = later.is; none = λ j below e. before j later below e other }
]
  where
    rest : (j : ℕ) → j < length (x ∷ flat) → get_or (x ∷ flat) j m ≡ m → x ≢ m → Contains flat m
    rest zero w e n = absurd (n e)
    rest (suc j) w e n = (j, omega arith, e)

    before : (j : ℕ) → (later : First flat m) → j < suc later.at → get_or (x ∷ flat) j 0 ≡ m → x ≢ m → ⊥
    before zero later b e n = n e
    before (suc j) later b e n = later.none j (omega arith) e

module _ (keys : List (List (List ℕ))) (lines : List (List ℕ)) (heads : List ℕ) (known : AreRepresentatives lines heads) (as_many : length heads ≡ length keys)
    (distinct : (i j : ℕ) → i < length keys → j < length keys → get_or keys i [] ≡ get_or keys j [] → i ≡ j)
    (ordered : AreInOrder (in_order lines) (length keys)) where
  abbrev key : ℕ → List (List ℕ)
  key i = get_or keys i []

  abbrev phrases : List (List (List (List ℕ)))
  phrases = map (map key) lines

  abbrev flat : List ℕ
  flat = in_order lines

  flat_of : (ls : List (List ℕ)) → in_order (map (map key) ls) ≡ map key (in_order ls)
  flat_of [] = refl
  flat_of (l ∷ ls) = ap (λ r. map key l ++ r) (flat_of ls) ∙ sym (map-append key l (in_order ls))

  numbered : (a b : ℕ) → OnOneLine lines a b → (a < length keys) × (b < length keys)
  numbered a b o =
      let na = known.numbered o.0 a o.1 o.2 in
      let nb = known.numbered o.0 b o.1 o.3 in
      (omega (arith, as_many), omega (arith, as_many))

  on_down : (a b : ℕ) → OnOneLine lines a b → OnOneLine phrases (key a) (key b)
  on_down a b (line, there, has_a, has_b) = (
    map key line,
    contains-map (map key) lines line there,
    contains-map key line a has_a,
    contains-map key line b has_b,
  )

  on_up : (p x : List (List ℕ)) → OnOneLine phrases p x → (a : ℕ) × (b : ℕ) × OnOneLine lines a b × (key a ≡ p) × (key b ≡ x)
  on_up p x (pl, there, has_p, has_x) =
      let l = contains-map_from (map key) lines pl there in
      let a = contains-map_from key l.0 p (subst (λ t. Contains t p) (sym l.2) has_p) in
      let b = contains-map_from key l.0 x (subst (λ t. Contains t x) (sym l.2) has_x) in
      (a.0, b.0, (l.0, l.1, a.1, b.1), a.2, b.2)

  leads_down : (i j : ℕ) (xs : List ℕ) → Leads lines i xs j → Equivalent phrases (key i) (key j)
  leads_down i j [] e = subst (λ k. Equivalent phrases (key i) (key k)) e (equivalent_self phrases (key i))
  leads_down i j (x ∷ xs) (one, rest) =
      equivalent_through phrases (key i) (key x) (key j) (equivalent_step phrases (key i) (key x) (on_down i x one))
      (leads_down x j xs rest)

  leads_up : (i j : ℕ) (p : List (List ℕ)) (xs : List (List (List ℕ))) (q : List (List ℕ)) → i < length keys
      → j < length keys → key i ≡ p → key j ≡ q → Leads phrases p xs q → Equivalent lines i j
  leads_up i j p [] q hi hj ep eq e = subst (λ k. Equivalent lines i k) (distinct i j hi hj (ep ∙ e ∙ sym eq)) (equivalent_self lines i)
  leads_up i j p (x ∷ xs) q hi hj ep eq (one, rest) =
      let up = on_up p x one in
      let n = numbered up.0 up.1 up.2 in
      let same : up.0 ≡ i = distinct up.0 i n.0 hi (up.3 ∙ sym ep) in
      equivalent_through lines i up.1 j (equivalent_step lines i up.1 (subst (λ k. OnOneLine lines k up.1) same up.2))
      (leads_up up.1 j x xs q n.1 hj up.4 eq rest)

  -- two phrases have one class just where a chain of lines joins them
  pub class_from_chain : (i j : ℕ) → i < length keys → j < length keys → Equivalent phrases (key i) (key j) → get_or heads i 0 ≡ get_or heads j 0
  class_from_chain i j hi hj (xs, e) = heads_alike lines heads i j known (leads_up i j (key i) xs (key j) hi hj refl refl e)

  pub chain_from_class : (i j : ℕ) → i < length keys → j < length keys → get_or heads i 0 ≡ get_or heads j 0 → Equivalent phrases (key i) (key j)
  chain_from_class i j hi hj e = let c = known.same i j (omega (arith, as_many)) (omega (arith, as_many)) e in leads_down i j c.0 c.1

  -- and the head is the first phrase of the file that is of the class
  pub head_is_first : (i : ℕ) → i < length keys → IsFirst (in_order phrases) (Equivalent phrases (key i)) (key (get_or heads i 0))
  head_is_first i hi =
      let h = get_or heads i 0 in
      let hi' : i < length heads = omega (arith, as_many) in
      let low = known.low i hi' in
      let at_h = first flat h (ordered.all h (omega arith)) in
      let here = at_h.within in
      let chain = head_is_one lines heads i known hi' in
      record {
        at = at_h.at;
        within = omega (arith, ap length (flat_of lines), length-map flat key);
        is = ap (λ l. get_or l at_h.at (key h)) (flat_of lines) ∙ get-map key flat at_h.at 0 (key h) at_h.within ∙ ap key at_h.is;
        has = leads_down i h chain.0 chain.1;
        none = λ k before joined.
            let x = get_or flat k 0 in
            let x_in = ordered.below k (omega arith) in
            let it : get_or (in_order phrases) k (key h) ≡ key x = ap (λ l. get_or l k (key h)) (flat_of lines) ∙ get-map key flat k 0 (key h) (omega arith) in
            let number_chain = leads_up i x (key i) joined.0 (get_or (in_order phrases) k (key h)) hi x_in refl (sym it) joined.1 in
            let least : h ≤ x = head_is_least lines heads i x known (omega (arith, as_many)) number_chain in
            let other = at_h.none k before in
            let less : h < x = omega arith in
            let earlier = ordered.order k (omega arith) h less in
            at_h.none earlier.0 (omega (arith, earlier.1)) earlier.2;
      }

  pub words_are : (words : List Phrase) (d : Phrase) → length words ≡ length keys
      → ((i : ℕ) → i < length keys → get_or words i d ≡ record { texts = key i; spelling = spelled (key (get_or heads i 0)) }) → AreWords phrases words
  words_are words d many each = record {
    all = λ p has.
        let x = contains-map_from key flat p (subst (λ l. Contains l p) (flat_of lines) has) in
        let x_in : x.0 < length keys = subst (λ k. k < length keys) (get_any flat x.1.0 0 x.0 x.1.1 ∙ x.1.2) (ordered.below x.1.0 x.1.1) in (
          get_or words x.0 d,
          (
            x.0,
            omega (arith, many),
            get_any words x.0 (get_or words x.0 d) d (omega (arith, many)),
          ),
          ap (λ (w : Phrase). w.texts) (each x.0 x_in) ∙ x.2,
        );
    only = λ w has.
        let at = index_of w has in
        subst (Contains (in_order phrases)) (ap (λ (v : Phrase). v.texts) (sym at.2))
        (subst (λ l. Contains l (key at.0)) (sym (flat_of lines))
        (contains-map key flat at.0 (ordered.all at.0 at.1)));
    once = λ i j w hi hj same.
        let hi' : i < length keys = omega (arith, many) in
        let hj' : j < length keys = omega (arith, many) in
        distinct i j hi' hj' (sym (texts_at i w hi') ∙ same ∙ texts_at j w hj');
    order = λ i j k w p lower hj hk is.
        let hj' : j < length keys = omega (arith, many) in
        let at : k < length flat = omega (arith, hk, ap length (flat_of lines), length-map flat key) in
        let x : ℕ = get_or flat k 0 in
        let same : x ≡ j = distinct x j (ordered.below k at) hj' (sym (phrase_at k p at) ∙ is ∙ texts_at j w hj') in
        let earlier = ordered.order k at i (omega arith) in
        (earlier.0, earlier.1, phrase_at earlier.0 p (omega (arith, earlier.1)) ∙ ap key earlier.2 ∙ sym (texts_at i w (omega arith)));
    spellings = λ w has.
        let at = index_of w has in (
          key (get_or heads at.0 0),
          subst (λ t. IsFirst (in_order phrases) (Equivalent phrases t) (key (get_or heads at.0 0)))
              (ap (λ (v : Phrase). v.texts) (sym at.2)) (head_is_first at.0 at.1),
          ap (λ (v : Phrase). v.spelling) at.2,
        );
  }
    where
      phrase_at : (k : ℕ) (p : List (List ℕ)) → k < length flat → get_or (in_order phrases) k p ≡ key (get_or flat k 0)
      phrase_at k p hk = ap (λ l. get_or l k p) (flat_of lines) ∙ get-map key flat k 0 p hk

      texts_at : (i : ℕ) (w : Phrase) → i < length keys → (get_or words i w).texts ≡ key i
      texts_at i w hi = ap (λ (v : Phrase). v.texts) (get_any words i w d (omega (arith, many)) ∙ each i hi)

      index_of : (w : Phrase) → Contains words w → (i : ℕ) × (i < length keys) × (w ≡ record { texts = key i; spelling = spelled (key (get_or heads i 0)) })
      index_of w (i, within, is) =
          let i_in : i < length keys = omega (arith, many) in
          (i, i_in, sym is ∙ get_any words i w d within ∙ each i i_in)

-- a number that came before occurs again, or the next one comes
pub get_front : (flat more : List ℕ) (k : ℕ) → k < length flat → get_or (flat ++ more) k 0 ≡ get_or flat k 0
get_front flat more k h = grind (arith, common_steps)

pub get_last : (flat : List ℕ) (x k : ℕ) → k ≡ length flat → get_or (flat ++ x ∷ []) k 0 ≡ x
get_last flat x k e = grind (arith, common_steps)

index : (flat : List ℕ) (m : ℕ) → Contains flat m → (j : ℕ) × (j < length flat) × (get_or flat j 0 ≡ m)
index flat m (k, within, is) = (k, within, get_any flat k 0 m within ∙ is)

pub again : (flat : List ℕ) (n q : ℕ) → q < n → AreInOrder flat n → AreInOrder (flat ++ q ∷ []) n
again flat n q less known = record {
  all = λ m h. Contains-append_left flat (q ∷ []) m (known.all m h);
  order = λ k h m lower. elim (cases_lt k (length flat)) [
    | inl old ↦
        let e = known.order k old m (omega (arith, get_front flat (q ∷ []) k old)) in
        (e.0, e.1, get_front flat (q ∷ []) e.0 (omega (arith, e.1)) ∙ e.2)
    | inr new ↦
        let last : k ≡ length flat = omega (arith, length-append flat (q ∷ [])) in
        let e = index flat m (known.all m (omega (arith, get_last flat q k last))) in
        (e.0, omega (arith, e.1), get_front flat (q ∷ []) e.0 e.1 ∙ e.2)
  ];
  below = λ k h. elim (cases_lt k (length flat)) [
    | inl old ↦ omega (arith, get_front flat (q ∷ []) k old, known.below k old)
    | inr new ↦ omega (arith, get_last flat q k (let last : k ≡ length flat = omega (arith, length-append flat (q ∷ [])) in last))
  ];
}

pub next_number : (flat : List ℕ) (n : ℕ) → AreInOrder flat n → AreInOrder (flat ++ n ∷ []) (n + 1)
next_number flat n known = record {
  all = λ m h. elim (cases_lt m n) [
    | inl less ↦ Contains-append_left flat (n ∷ []) m (known.all m less)
    | inr last ↦ Contains-append_right flat (n ∷ []) m (0, omega arith, (let e : n ≡ m = omega arith in e))
  ];
  order = λ k h m lower. elim (cases_lt k (length flat)) [
    | inl old ↦
        let e = known.order k old m (omega (arith, get_front flat (n ∷ []) k old)) in
        (e.0, e.1, get_front flat (n ∷ []) e.0 (omega (arith, e.1)) ∙ e.2)
    | inr new ↦
        let last : k ≡ length flat = omega (arith, length-append flat (n ∷ [])) in
        let e = index flat m (known.all m (omega (arith, get_last flat n k last))) in
        (e.0, omega (arith, e.1), get_front flat (n ∷ []) e.0 e.1 ∙ e.2)
  ];
  below = λ k h. elim (cases_lt k (length flat)) [
    | inl old ↦ omega (arith, get_front flat (n ∷ []) k old, known.below k old)
    | inr new ↦ omega (arith, get_last flat n k (let last : k ≡ length flat = omega (arith, length-append flat (n ∷ [])) in last))
  ];
}
