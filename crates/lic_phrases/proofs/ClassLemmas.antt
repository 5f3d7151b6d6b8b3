-- Classes of equivalent phrases: merging keeps what is known of them.
use Rattle.std.proofs.Common.{◌≡◌, ◌≢◌, ◌⊎◌, inl, inr, ⊎_elim, ℕ, ◌<◌, ◌≤◌, List, [], ◌∷◌, ◌++◌, length, get_or, map, min, max, refl, sym, ap, subst, ◌∙◌, arith, length-append}
use Rattle.std.proofs.lemmas.List.{length-map}
use Rattle.std.proofs.lemmas.Bool.{cases_lt, cases_eq}
use Rattle.std.proofs.lemmas.Bool.Decides.{nat_tests}
use Rattle.std.proofs.lemmas.List.Elements.{Contains-push, Contains-push_cases, Contains-append_left}
use Rattle.std.proofs.lemmas.Grind.{common_steps}
use Rattle.std.specs.List.{Contains}
use Rattle.lic_phrases.specs.Classes.{OnOneLine, Leads, Equivalent, AreRepresentatives, replaced, classes_joined}

-- chains
pub equivalent_self : {A : Type 0} (lines : List (List A)) (p : A) → Equivalent lines p p
equivalent_self lines p = ([], refl)

pub equivalent_step : {A : Type 0} (lines : List (List A)) (p q : A) → OnOneLine lines p q → Equivalent lines p q
equivalent_step lines p q one = (q ∷ [], (one, refl))

leads-append : {A : Type 0} (lines : List (List A)) (p q r : A) (xs ys : List A) → Leads lines p xs q → Leads lines q ys r → Equivalent lines p r
leads-append lines p q r [] ys e more = subst (λ x. Equivalent lines x r) (sym e) (ys, more)
leads-append lines p q r (x ∷ xs) ys (one, rest) more = let later = leads-append lines x q r xs ys rest more in (x ∷ later.0, (one, later.1))

pub equivalent_through : {A : Type 0} (lines : List (List A)) (p q r : A) → Equivalent lines p q → Equivalent lines q r → Equivalent lines p r
equivalent_through lines p q r (xs, a) (ys, b) = leads-append lines p q r xs ys a b

pub on_one_line_back : {A : Type 0} (lines : List (List A)) (p q : A) → OnOneLine lines p q → OnOneLine lines q p
on_one_line_back lines p q (line, there, has_p, has_q) = (line, there, has_q, has_p)

leads_back : {A : Type 0} (lines : List (List A)) (p q : A) (xs : List A) → Leads lines p xs q → Equivalent lines q p
leads_back lines p q [] e = subst (λ x. Equivalent lines q x) (sym e) (equivalent_self lines q)
leads_back lines p q (x ∷ xs) (one, rest) =
    equivalent_through lines q x p (leads_back lines x q xs rest)
    (equivalent_step lines x p (on_one_line_back lines p x one))

pub equivalent_back : {A : Type 0} (lines : List (List A)) (p q : A) → Equivalent lines p q → Equivalent lines q p
equivalent_back lines p q (xs, a) = leads_back lines p q xs a

leads_more : {A : Type 0} (lines more : List (List A)) (p q : A) (xs : List A)
    → ((x y : A) → OnOneLine lines x y → OnOneLine more x y) → Leads lines p xs q → Leads more p xs q
leads_more lines more p q [] up e = e
leads_more lines more p q (x ∷ xs) up (one, rest) = (up p x one, leads_more lines more x q xs up rest)

pub equivalent_more : {A : Type 0} (lines more : List (List A)) (p q : A)
    → ((x y : A) → OnOneLine lines x y → OnOneLine more x y) → Equivalent lines p q → Equivalent more p q
equivalent_more lines more p q up (xs, a) = (xs, leads_more lines more p q xs up a)

-- what is alike on each line is alike along a chain
pub leads_alike : {A : Type 0} {B : Type 0} (lines : List (List A)) (f : A → B) (p q : A) (xs : List A)
    → ((x y : A) → OnOneLine lines x y → f x ≡ f y) → Leads lines p xs q → f p ≡ f q
leads_alike lines f p q [] alike e = ap f e
leads_alike lines f p q (x ∷ xs) alike (one, rest) = alike p x one ∙ leads_alike lines f x q xs alike rest

-- two phrases have one class just where they are equivalent
pub heads_alike : (lines : List (List ℕ)) (heads : List ℕ) (i j : ℕ) → AreRepresentatives lines heads → Equivalent lines i j → get_or heads i 0 ≡ get_or heads j 0
heads_alike lines heads i j known (xs, a) = leads_alike lines (λ k. get_or heads k 0) i j xs known.back a

-- no phrase of the class comes before its head, and the head is one of it
pub head_is_least : (lines : List (List ℕ)) (heads : List ℕ) (i j : ℕ) → AreRepresentatives lines heads → j < length heads → Equivalent lines i j → get_or heads i 0 ≤ j
head_is_least lines heads i j known within joined = let e = heads_alike lines heads i j known joined in let l = known.low j within in omega arith

pub head_is_one : (lines : List (List ℕ)) (heads : List ℕ) (i : ℕ) → AreRepresentatives lines heads → i < length heads → Equivalent lines i (get_or heads i 0)
head_is_one lines heads i known within = let l = known.low i within in known.same i (get_or heads i 0) within (omega arith) (sym (known.own i within))

-- a line more, without a phrase yet
on_new_line : (lines : List (List ℕ)) (i j : ℕ) → OnOneLine (lines ++ [] ∷ []) i j → OnOneLine lines i j
on_new_line lines i j (line, there, has_i, has_j) = ⊎_elim
    (λ before. (line, before, has_i, has_j))
    (λ last. absurd (let k = has_i.1 in omega (arith, ap length last)))
    (Contains-push_cases lines [] line there)

pub new_line : (lines : List (List ℕ)) (heads : List ℕ) → AreRepresentatives lines heads → AreRepresentatives (lines ++ [] ∷ []) heads
new_line lines heads known = record {
  numbered = λ line i there has_i. let o = on_new_line lines i i (line, there, has_i, has_i) in known.numbered o.0 i o.1 o.2;
  same = λ i j hi hj e. equivalent_more lines
      (lines ++ [] ∷ []) i j (λ x y o. (o.0, Contains-append_left lines ([] ∷ []) o.0 o.1, o.2, o.3))
      (known.same i j hi hj e);
  back = λ i j o. known.back i j (on_new_line lines i j o);
  low = known.low;
  own = known.own;
}

-- a phrase not seen before is a class of its own
get-push_before : (xs : List ℕ) (x i : ℕ) → i < length xs → get_or (xs ++ x ∷ []) i 0 ≡ get_or xs i 0
get-push_before xs x i h = grind (arith, common_steps)

get-push_at : (xs : List ℕ) (x : ℕ) → get_or (xs ++ x ∷ []) (length xs) 0 ≡ x
get-push_at xs x = grind (arith, common_steps)

pub new_phrase : (lines : List (List ℕ)) (heads : List ℕ) → AreRepresentatives lines heads → AreRepresentatives lines (heads ++ length heads ∷ [])
new_phrase lines heads known = record {
  numbered = λ line i there has_i. let h = known.numbered line i there has_i in omega (arith, length-append heads (length heads ∷ []));
  same = λ i j hi hj e. ⊎_elim
      (λ (i_old : i < length heads). ⊎_elim
      (λ (j_old : j < length heads). known.same i j i_old j_old
      (sym (get-push_before heads (length heads) i i_old) ∙ e ∙ get-push_before heads (length heads) j j_old))
      (λ (j_new : length heads ≤ j). absurd (clash lines heads known i j i_old (is_last heads j hj j_new) e))
      (cases_lt j (length heads)))
      (λ (i_new : length heads ≤ i). ⊎_elim
      (λ (j_old : j < length heads). absurd (clash lines heads known j i j_old (is_last heads i hi i_new) (sym e)))
      (λ (j_new : length heads ≤ j). let last_i = is_last heads i hi i_new in let last_j = is_last heads j hj j_new in
      subst (λ k. Equivalent lines i k) (last_i ∙ sym last_j) (equivalent_self lines i))
      (cases_lt j (length heads)))
      (cases_lt i (length heads));
  back = λ i j o.
      let hi = known.numbered o.0 i o.1 o.2 in
      let hj = known.numbered o.0 j o.1 o.3 in
      get-push_before heads (length heads) i hi ∙ known.back i j o ∙ sym (get-push_before heads (length heads) j hj);
  low = λ i hi. ⊎_elim
      (λ (old : i < length heads). let l = known.low i old in omega (arith, get-push_before heads (length heads) i old))
      (λ (new : length heads ≤ i). let last = is_last heads i hi new in omega (arith, at_last heads i last))
      (cases_lt i (length heads));
  own = λ i hi. ⊎_elim
      (λ (old : i < length heads).
      let same = get-push_before heads (length heads) i old in
      let l = known.low i old in
      ap (λ k. get_or (heads ++ length heads ∷ []) k 0) same
      ∙ get-push_before heads (length heads) (get_or heads i 0) (omega arith)
      ∙ known.own i old ∙ sym same)
      (λ (new : length heads ≤ i). let last = is_last heads i hi new in
      let here = at_last heads i last in ap (λ k. get_or (heads ++ length heads ∷ []) k 0) (here ∙ sym last))
      (cases_lt i (length heads));
}
  where
    is_last : (xs : List ℕ) (i : ℕ) → i < length (xs ++ length xs ∷ []) → length xs ≤ i → i ≡ length xs
    is_last xs i h l = omega (arith, length-append xs (length xs ∷ []))

    at_last : (xs : List ℕ) (i : ℕ) → i ≡ length xs → get_or (xs ++ length xs ∷ []) i 0 ≡ length xs
    at_last xs i e = ap (λ k. get_or (xs ++ length xs ∷ []) k 0) e ∙ get-push_at xs (length xs)

    clash : (ls : List (List ℕ)) (xs : List ℕ) → AreRepresentatives ls xs → (i j : ℕ) → i < length xs → j ≡ length xs
        → get_or (xs ++ length xs ∷ []) i 0 ≡ get_or (xs ++ length xs ∷ []) j 0 → ⊥
    clash ls xs k i j hi hj e = let l = k.low i hi in omega (arith, get-push_before xs (length xs) i hi, at_last xs j hj, e)

-- the classes of a and b are joined, and a line with a gets b
replaced_at : (f : ℕ → ℕ) (xs : List ℕ) (i : ℕ) → i < length xs → get_or (map f xs) i 0 ≡ f (get_or xs i 0)
replaced_at f xs i h = grind (arith, common_steps)

-- what the two heads become
joined_cases : (p q x : ℕ) → ((x ≡ max p q) × (replaced (max p q) (min p q) x ≡ min p q)) ⊎ ((x ≢ max p q) × (replaced (max p q) (min p q) x ≡ x))
joined_cases p q x = elim (cases_eq x (max p q)) [ inl e ↦ inl (e, grind (arith, nat_tests)) | inr n ↦ inr (n, grind (arith, nat_tests)) ]

both_joined : (p q : ℕ) → replaced (max p q) (min p q) p ≡ replaced (max p q) (min p q) q
both_joined p q = elim (joined_cases p q p) [
  | inl a ↦ elim (joined_cases p q q) [ inl b ↦ a.1 ∙ sym b.1 | inr b ↦ let bn = b.0 in let ae = a.0 in let b1 = b.1 in let a1 = a.1 in omega arith ]
  | inr a ↦ elim (joined_cases p q q) [
    | inl b ↦
        (let an = a.0 in let be = b.0 in let b1 = b.1 in let a1 = a.1 in omega arith)
    | inr b ↦
        (let an = a.0 in let bn = b.0 in absurd (omega arith))
  ]
]

min_is : (p q : ℕ) → (min p q ≡ p) ⊎ (min p q ≡ q)
min_is p q = ⊎_elim (λ (l : p < q). inl (omega arith)) (λ (l : q ≤ p). inr (omega arith)) (cases_lt p q)

max_is : (p q : ℕ) → (max p q ≡ p) ⊎ (max p q ≡ q)
max_is p q = ⊎_elim (λ (l : p < q). inr (omega arith)) (λ (l : q ≤ p). inl (omega arith)) (cases_lt p q)

-- the line that is being read gets one more phrase
module _ (lines : List (List ℕ)) (cur heads : List ℕ) (f q : ℕ) (known : AreRepresentatives (lines ++ cur ∷ []) heads)
    (has_f : Contains cur f) (q_in : q < length heads) where
  abbrev now : List (List ℕ)
  now = lines ++ cur ∷ []

  abbrev then_ : List (List ℕ)
  then_ = lines ++ (cur ++ q ∷ []) ∷ []

  abbrev h : ℕ → ℕ
  h i = get_or heads i 0

  abbrev h' : ℕ → ℕ
  h' i = get_or (classes_joined heads f q) i 0

  abbrev f' : ℕ → ℕ
  f' = replaced (max (h f) (h q)) (min (h f) (h q))

  f_in : f < length heads
  f_in = known.numbered cur f (Contains-push lines cur) has_f

  up : (x y : ℕ) → OnOneLine now x y → OnOneLine then_ x y
  up x y (line, there, has_x, has_y) = ⊎_elim
      (λ before. (line, Contains-append_left lines ((cur ++ q ∷ []) ∷ []) line before, has_x, has_y))
      (λ last. (
        cur ++ q ∷ [],
        Contains-push lines (cur ++ q ∷ []),
        Contains-append_left cur (q ∷ []) x (subst (λ l. Contains l x) (sym last) has_x),
        Contains-append_left cur (q ∷ []) y (subst (λ l. Contains l y) (sym last) has_y),
      ))
      (Contains-push_cases lines cur line there)

  abbrev On : ℕ → Type 0
  On x = Contains cur x ⊎ (q ≡ x)

  down : (x y : ℕ) → OnOneLine then_ x y → OnOneLine now x y ⊎ (On x × On y)
  down x y (line, there, has_x, has_y) = ⊎_elim
      (λ before. inl (line, Contains-append_left lines (cur ∷ []) line before, has_x, has_y))
      (λ last. inr (
        Contains-push_cases cur q x (subst (λ l. Contains l x) (sym last) has_x),
        Contains-push_cases cur q y (subst (λ l. Contains l y) (sym last) has_y),
      ))
      (Contains-push_cases lines (cur ++ q ∷ []) line there)

  at_new : (i : ℕ) → i < length heads → h' i ≡ f' (h i)
  at_new i hi = replaced_at f' heads i hi

  on_in : (x : ℕ) → On x → x < length heads
  on_in x (inl has) = known.numbered cur x (Contains-push lines cur) has
  on_in x (inr e) = subst (λ k. k < length heads) e q_in

  on_alike : (x : ℕ) → On x → f' (h x) ≡ f' (h f)
  on_alike x (inl has) = ap f' (known.back x f (cur, Contains-push lines cur, has, has_f))
  on_alike x (inr e) = ap (λ k. f' (h k)) (sym e) ∙ sym (both_joined (h f) (h q))

  by_step : Equivalent then_ q f
  by_step = equivalent_step then_ q f (cur ++ q ∷ [], Contains-push lines (cur ++ q ∷ []), Contains-push cur q, Contains-append_left cur (q ∷ []) f has_f)

  joins_f : (i : ℕ) → i < length heads → (h i ≡ h f) ⊎ (h i ≡ h q) → Equivalent then_ i f
  joins_f i hi (inl e) = equivalent_more now then_ i f up (known.same i f hi f_in e)
  joins_f i hi (inr e) = equivalent_through then_ i q f (equivalent_more now then_ i q up (known.same i q hi q_in e)) by_step

  is_max : (i : ℕ) → h i ≡ max (h f) (h q) → (h i ≡ h f) ⊎ (h i ≡ h q)
  is_max i e = elim (max_is (h f) (h q)) [ inl m ↦ inl (e ∙ m) | inr m ↦ inr (e ∙ m) ]

  is_min : (i : ℕ) → h i ≡ min (h f) (h q) → (h i ≡ h f) ⊎ (h i ≡ h q)
  is_min i e = elim (min_is (h f) (h q)) [ inl m ↦ inl (e ∙ m) | inr m ↦ inr (e ∙ m) ]

  through_f : (i j : ℕ) → Equivalent then_ i f → Equivalent then_ j f → Equivalent then_ i j
  through_f i j a b = equivalent_through then_ i f j a (equivalent_back then_ j f b)

  same_head : (i j : ℕ) → i < length heads → j < length heads → f' (h i) ≡ f' (h j) → Equivalent then_ i j
  same_head i j hi hj e = elim (joined_cases (h f) (h q) (h i)) [
    | inl a ↦ elim (joined_cases (h f) (h q) (h j)) [
      | inl b ↦ through_f i j (joins_f i hi (is_max i a.0)) (joins_f j hj (is_max j b.0))
      | inr b ↦ through_f i j (joins_f i hi (is_max i a.0)) (joins_f j hj (is_min j (sym b.1 ∙ sym e ∙ a.1)))
    ]
    | inr a ↦ elim (joined_cases (h f) (h q) (h j)) [
      | inl b ↦ through_f i j (joins_f i hi (is_min i (sym a.1 ∙ e ∙ b.1))) (joins_f j hj (is_max j b.0))
      | inr b ↦ equivalent_more now then_ i j up (known.same i j hi hj (sym a.1 ∙ e ∙ b.1))
    ]
  ]

  least_in : min (h f) (h q) < length heads
  least_in = let l = known.low f f_in in let i = f_in in omega arith

  own_min : h (min (h f) (h q)) ≡ min (h f) (h q)
  own_min = elim (min_is (h f) (h q)) [ inl m ↦ ap h m ∙ known.own f f_in ∙ sym m | inr m ↦ ap h m ∙ known.own q q_in ∙ sym m ]

  stays_min : f' (min (h f) (h q)) ≡ min (h f) (h q)
  stays_min = elim (joined_cases (h f) (h q) (min (h f) (h q))) [ inl a ↦ a.1 | inr a ↦ a.1 ]

  own_then : (i : ℕ) → i < length heads → h' (f' (h i)) ≡ f' (h i)
  own_then i hi = elim (joined_cases (h f) (h q) (h i)) [
    | inl a ↦ ap h' a.1 ∙ at_new (min (h f) (h q)) least_in ∙ ap f' own_min ∙ stays_min ∙ sym a.1
    | inr a ↦ let l = known.low i hi in ap h' a.1 ∙ at_new (h i) (omega arith) ∙ ap f' (known.own i hi)
  ]

  low_then : (i : ℕ) → i < length heads → f' (h i) ≤ i
  low_then i hi = let l = known.low i hi in elim (joined_cases (h f) (h q) (h i)) [
    | inl a ↦ let a0 = a.0 in let a1 = a.1 in omega arith
    | inr a ↦ let a1 = a.1 in omega arith
  ]

  as_long : length (classes_joined heads f q) ≡ length heads
  as_long = length-map heads f'

  pub next_phrase : AreRepresentatives (lines ++ (cur ++ q ∷ []) ∷ []) (classes_joined heads f q)
  next_phrase = record {
    numbered = λ line i there has_i. elim (down i i (line, there, has_i, has_i)) [
      | inl o ↦ let b = known.numbered o.0 i o.1 o.2 in omega (arith, as_long)
      | inr o ↦ let b = on_in i o.0 in omega (arith, as_long)
    ];
    same = λ i j hi hj e.
        let bi : i < length heads = omega (arith, as_long) in
        let bj : j < length heads = omega (arith, as_long) in
        same_head i j bi bj (sym (at_new i bi) ∙ e ∙ at_new j bj);
    back = λ i j o. elim (down i j o) [
      | inl old ↦
          at_new i (known.numbered old.0 i old.1 old.2) ∙ ap f' (known.back i j old) ∙ sym (at_new j (known.numbered old.0 j old.1 old.3))
      | inr both ↦
          at_new i (on_in i both.0) ∙ on_alike i both.0 ∙ sym (on_alike j both.1) ∙ sym (at_new j (on_in j both.1))
    ];
    low = λ i hi. let bi : i < length heads = omega (arith, as_long) in let l = low_then i bi in omega (arith, at_new i bi);
    own = λ i hi. let bi : i < length heads = omega (arith, as_long) in
        ap h' (at_new i bi) ∙ own_then i bi ∙ sym (at_new i bi);
  }

-- the first phrase of a line
only_itself : (x q : ℕ) → Contains (q ∷ []) x → q ≡ x
only_itself x q (k, within, is) = elim (cases_eq k 0) [ inl e ↦ subst (λ j. get_or (q ∷ []) j x ≡ x) e is | inr n ↦ absurd (omega arith) ]

pub first_phrase : (lines : List (List ℕ)) (heads : List ℕ) (q : ℕ) → AreRepresentatives (lines ++ [] ∷ []) heads
    → q < length heads → AreRepresentatives (lines ++ (q ∷ []) ∷ []) heads
first_phrase lines heads q known q_in = record {
  numbered = λ line i there has_i. ⊎_elim
      (λ before. known.numbered line i (Contains-append_left lines ([] ∷ []) line before) has_i)
      (λ last. subst (λ k. k < length heads) (only_itself i q (subst (λ l. Contains l i) (sym last) has_i)) q_in)
      (Contains-push_cases lines (q ∷ []) line there);
  same = λ i j hi hj e. equivalent_more (lines ++ [] ∷ []) (lines ++ (q ∷ []) ∷ []) i j
      (λ x y o. let old = on_new_line lines x y o in (old.0, Contains-append_left lines ((q ∷ []) ∷ []) old.0 old.1, old.2, old.3))
      (known.same i j hi hj e);
  back = λ i j o. ⊎_elim
      (λ before. known.back i j (o.0, Contains-append_left lines ([] ∷ []) o.0 before, o.2, o.3))
      (λ last. ap (λ k. get_or heads k 0)
      (sym (only_itself i q (subst (λ l. Contains l i) (sym last) o.2))
      ∙ only_itself j q (subst (λ l. Contains l j) (sym last) o.3)))
      (Contains-push_cases lines (q ∷ []) o.0 o.1);
  low = known.low;
  own = known.own;
}
