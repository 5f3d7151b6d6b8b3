-- Patterns as trees, sequences of them from one on, and choices of one more.
use Rattle.std.proofs.Common.{◌≡◌, ◌⊎◌, ◌↔◌, ℕ, suc, ◌+◌, ◌-◌, ◌<◌, ◌≤◌, List, [], ◌∷◌, ◌++◌, Option, Some, None, Result, Ok, Err, IfOk, Vec, Box, Global, true, false, length, map, drop, take, get_or, inl, inr, refl, sym, ap, arith, subst, ◌∙◌}
use Rattle.std.specs.Prelude.{MatchOption, is_some, zero}
use Rattle.std.proofs.lemmas.Bool.{true≢false}
use Rattle.std.proofs.Math.Seq.{drop-cons}
use Rattle.std.proofs.lemmas.List.{drop_all, get_or_default, map-append, take_all, take_more}
use Rattle.lic_words.specs.Words.{Word, Power}
use Rattle.lic_words.specs.Expressions.{Expression, Language, one}
use Rattle.lic_ere.specs.Sets.{Brackets}
use Rattle.lic_ere.specs.declared.ere.Ere.{Ere, Ere-F, fold-roll-Ere}
use Rattle.lic_ere.specs.declared.ere.Ere.TheVariants.{Alt, Any, Cat as Sequence, Char, Empty, Repeat, Set, rolls-Alt, rolls-Any, rolls-Cat, rolls-Char, rolls-Empty, rolls-Repeat, rolls-Set}
use Rattle.lic_ere.specs.Trees.{Tree, node_tree, sequence, tree_of}
use Rattle.lic_ere.specs.Trees as trees
use Rattle.lic_ere.specs.Meaning.{choice_words, sequence_words, tree_words}
use Rattle.lic_tokens.specs.Tokens.{TokenValue}
use Rattle.lic_spans.specs.declared.span.PlaceSpan.{PlaceSpan}
use Rattle.lic_reverse.specs.declared.ways.Ways.{Ways}
use Rattle.lic_reverse.specs.Passing.{is_one, passes_of}
use Rattle.lic_reverse.specs.Tidily.{IsRepeated, IsTakenBack, IsTidyBack, IsTidyBackFrom, Taken, UpTo, spans_of}
use Rattle.lic_view.specs.PlaceSets.{ArePlaced, Reaches}
use Rattle.lic_places.specs.Reads.{Reads}
use Rattle.lic_view.specs.Fresh.{AreFresh}
use Rattle.lic_reverse.specs.Reached.{IsFrontierOf}
use Rattle.lic_view.proofs.Placed.{ArePlaced-append, Reaches-append, Reaches-append_left, Reaches-append_right}
use Rattle.lic_view.proofs.Back.{Beats-same}
use Rattle.lic_view.proofs.FreshLemmas.{fresh-among, fresh-parted}
use Rattle.lic_reverse.proofs.TidyBack.{tidy-after, tidy-either, tidy-least, tidy-lists, tidy-none, tidy-same, tidy-stay}
use Rattle.lic_reverse.proofs.TidyPowers.{IsReached, from-least, reached-all, reached-first, reached-more, times-settled, to-least}
use Rattle.lic_view.specs.declared.sets.keep.Keep.{Keep}

-- ---- trees

pub tree_of-Cat : (subs : Vec Ere Global) → tree_of (Sequence subs) ≡ trees.cat (sequence (map tree_of subs.items))
tree_of-Cat subs = ap tree_of (sym (rolls-Cat subs)) ∙ fold-roll-Ere Tree node_tree (Ere-F.Cat subs)

pub tree_of-Alt : (subs : Vec Ere Global) → tree_of (Alt subs) ≡ trees.alt (sequence (map tree_of subs.items))
tree_of-Alt subs = ap tree_of (sym (rolls-Alt subs)) ∙ fold-roll-Ere Tree node_tree (Ere-F.Alt subs)

pub tree_of-Repeat : (body : Box Ere Global) (min : ℕ) (max : Option ℕ) → tree_of (Repeat body min max) ≡ trees.repeat (tree_of body.value) min max
tree_of-Repeat body min max = ap tree_of (sym (rolls-Repeat body min max)) ∙ fold-roll-Ere Tree node_tree (Ere-F.Repeat body min max)

-- ---- sequences

-- one pattern more in front
pub sequence-more : (keep : Keep) (tokens : List TokenValue) (Ends : Taken → ℕ → ℕ → Type 0) (subs : List Ere) (i n : ℕ) (d : Ere) (xs ys : Taken → List PlaceSpan) →
    n ≡ i + 1 → i < length subs →
    IsTidyBackFrom keep tokens (Language (sequence_words (sequence (map tree_of (drop n subs))))) Ends xs →
    IsTidyBack keep tokens (Language (tree_words (tree_of (get_or subs i d)))) xs ys →
    IsTidyBackFrom keep tokens (Language (sequence_words (sequence (map tree_of (drop i subs))))) Ends ys
sequence-more keep tokens Ends subs i n d xs ys next below back first =
    subst (λ s. IsTidyBackFrom keep tokens (Language (sequence_words (sequence (map tree_of s)))) Ends ys) (sym parted)
    (tidy-after keep tokens (Language (sequence_words (sequence (map tree_of (drop n subs))))) (Language (tree_words (tree_of (get_or subs i d)))) Ends xs ys back first)
  where
    parted : drop i subs ≡ get_or subs i d ∷ drop n subs
    parted = let e : suc i ≡ n = omega (arith, next) in drop-cons subs i d below ∙ ap (λ k. get_or subs i d ∷ drop k subs) e

-- the same of an item of the list
pub sequence-item : (keep : Keep) (tokens : List TokenValue) (Ends : Taken → ℕ → ℕ → Type 0) (subs : List Ere) (i n : ℕ) (e : Ere) (xs ys : Taken → List PlaceSpan) →
    n ≡ i + 1 → i < length subs → e ≡ get_or subs i e →
    IsTidyBackFrom keep tokens (Language (sequence_words (sequence (map tree_of (drop n subs))))) Ends xs →
    IsTidyBack keep tokens (Language (tree_words (tree_of e))) xs ys →
    IsTidyBackFrom keep tokens (Language (sequence_words (sequence (map tree_of (drop i subs))))) Ends ys
sequence-item keep tokens Ends subs i n e xs ys next below is back first =
    sequence-more keep tokens Ends subs i n e xs ys next below back (subst (λ x. IsTidyBack keep tokens (Language (tree_words (tree_of x))) xs ys) is first)

-- ---- choices

choice-more : (ts : List Tree) (t : Tree) (w : Word) →
    (Language (choice_words (sequence ts)) w ⊎ Language (tree_words t) w) ↔ Language (choice_words (sequence (ts ++ t ∷ []))) w
choice-more [] t w = (λ h. elim h [ inl none ↦ absurd none | inr is ↦ inl is ], λ h. elim h [ inl is ↦ inr is | inr none ↦ absurd none ])
choice-more (s ∷ ts) t w = (to (choice-more ts t w).0, from (choice-more ts t w).1)
  where
    to : ((Language (choice_words (sequence ts)) w ⊎ Language (tree_words t) w) → Language (choice_words (sequence (ts ++ t ∷ []))) w) →
        ((Language (tree_words s) w ⊎ Language (choice_words (sequence ts)) w) ⊎ Language (tree_words t) w) →
        Language (tree_words s) w ⊎ Language (choice_words (sequence (ts ++ t ∷ []))) w
    to more (inl (inl is)) = inl is
    to more (inl (inr is)) = inr (more (inl is))
    to more (inr is) = inr (more (inr is))

    from : (Language (choice_words (sequence (ts ++ t ∷ []))) w → Language (choice_words (sequence ts)) w ⊎ Language (tree_words t) w) →
        Language (tree_words s) w ⊎ Language (choice_words (sequence (ts ++ t ∷ []))) w →
        (Language (tree_words s) w ⊎ Language (choice_words (sequence ts)) w) ⊎ Language (tree_words t) w
    from more (inl is) = inl (inl is)
    from more (inr is) = elim (more is) [ inl has ↦ inl (inr has) | inr has ↦ inr has ]

-- one pattern more to choose from
pub choice-also : (keep : Keep) (tokens : List TokenValue) (Ends : Taken → ℕ → ℕ → Type 0) (subs : List Ere) (i : ℕ) (d : Ere) (xs ys zs : Taken → List PlaceSpan) →
    i < length subs → ((s : Taken) → zs s ≡ xs s ++ ys s) →
    IsTidyBackFrom keep tokens (Language (choice_words (sequence (map tree_of (take i subs))))) Ends xs →
    IsTidyBackFrom keep tokens (Language (tree_words (tree_of (get_or subs i d)))) Ends ys →
    IsTidyBackFrom keep tokens (Language (choice_words (sequence (map tree_of (take (i + 1) subs))))) Ends zs
choice-also keep tokens Ends subs i d xs ys zs below joined back other =
    subst (λ s. IsTidyBackFrom keep tokens (Language (choice_words (sequence s))) Ends zs) (sym parted)
    (tidy-same keep tokens (λ w. Language (choice_words (sequence (map tree_of (take i subs)))) w ⊎ Language (tree_words (tree_of (get_or subs i d))) w)
    (Language (choice_words (sequence (map tree_of (take i subs) ++ tree_of (get_or subs i d) ∷ [])))) Ends zs
    (λ w. (choice-more (map tree_of (take i subs)) (tree_of (get_or subs i d)) w).0)
    (λ w. (choice-more (map tree_of (take i subs)) (tree_of (get_or subs i d)) w).1)
    (tidy-either keep tokens (Language (choice_words (sequence (map tree_of (take i subs))))) (Language (tree_words (tree_of (get_or subs i d)))) Ends xs ys zs joined back other))
  where
    parted : map tree_of (take (i + 1) subs) ≡ map tree_of (take i subs) ++ tree_of (get_or subs i d) ∷ []
    parted = ap (map tree_of) (take_more subs i d below) ∙ map-append tree_of (take i subs) (get_or subs i d ∷ [])

-- the same of an item of the list
pub choice-item : (keep : Keep) (tokens : List TokenValue) (Ends : Taken → ℕ → ℕ → Type 0) (subs : List Ere) (i : ℕ) (e : Ere) (xs ys zs : Taken → List PlaceSpan) →
    i < length subs → e ≡ get_or subs i e → ((s : Taken) → zs s ≡ xs s ++ ys s) →
    IsTidyBackFrom keep tokens (Language (choice_words (sequence (map tree_of (take i subs))))) Ends xs →
    IsTidyBackFrom keep tokens (Language (tree_words (tree_of e))) Ends ys →
    IsTidyBackFrom keep tokens (Language (choice_words (sequence (map tree_of (take (i + 1) subs))))) Ends zs
choice-item keep tokens Ends subs i e xs ys zs below is joined back other =
    choice-also keep tokens Ends subs i e xs ys zs below joined back
    (subst (λ x. IsTidyBackFrom keep tokens (Language (tree_words (tree_of x))) Ends ys) is other)

-- two patterns in a row that are the same
pub again : (subs : List Ere) (i j : ℕ) (x y : Ere) → i < length subs → i ≡ suc j → x ≡ get_or subs j x → y ≡ get_or subs i y →
    tree_of x ≡ tree_of y → IsRepeated subs i
again subs i j x y below next is-x is-y same = (
  j,
  next,
  λ d. ap tree_of (get_or_default subs j d x (omega (arith, below, next)) ∙ sym is-x) ∙ same
      ∙ ap tree_of (is-y ∙ get_or_default subs i y d below),
)

-- a pattern that is the one before it once more adds no word
pub choice-again : (keep : Keep) (tokens : List TokenValue) (Ends : Taken → ℕ → ℕ → Type 0) (subs : List Ere) (i : ℕ) (d : Ere) (xs : Taken → List PlaceSpan) →
    i < length subs → IsRepeated subs i →
    IsTidyBackFrom keep tokens (Language (choice_words (sequence (map tree_of (take i subs))))) Ends xs →
    IsTidyBackFrom keep tokens (Language (choice_words (sequence (map tree_of (take (i + 1) subs))))) Ends xs
choice-again keep tokens Ends subs i d xs below (j, next, same) =
    subst (λ s. IsTidyBackFrom keep tokens (Language (choice_words (sequence (map tree_of (take i subs))))) Ends xs →
    IsTidyBackFrom keep tokens (Language (choice_words (sequence s))) Ends xs) (sym parted)
    (tidy-same keep tokens (Language (choice_words (sequence (map tree_of (take i subs)))))
    (Language (choice_words (sequence (map tree_of (take i subs) ++ tree_of (get_or subs i d) ∷ [])))) Ends xs
    (λ w has. (choice-more (map tree_of (take i subs)) (tree_of (get_or subs i d)) w).0 (inl has))
    known)
  where
    j-below : j < length subs
    j-below = omega (arith, next, below)

    next-of : i ≡ j + 1
    next-of = omega (arith, next)

    parted : map tree_of (take (i + 1) subs) ≡ map tree_of (take i subs) ++ tree_of (get_or subs i d) ∷ []
    parted = ap (map tree_of) (take_more subs i d below) ∙ map-append tree_of (take i subs) (get_or subs i d ∷ [])

    before : map tree_of (take i subs) ≡ map tree_of (take j subs) ++ tree_of (get_or subs j d) ∷ []
    before = ap (λ n. map tree_of (take n subs)) next-of ∙ ap (map tree_of) (take_more subs j d j-below)
        ∙ map-append tree_of (take j subs) (get_or subs j d ∷ [])

    known : (w : Word) → Language (choice_words (sequence (map tree_of (take i subs) ++ tree_of (get_or subs i d) ∷ []))) w →
        Language (choice_words (sequence (map tree_of (take i subs)))) w
    known w has = elim ((choice-more (map tree_of (take i subs)) (tree_of (get_or subs i d)) w).1 has) [
      | inl is ↦ is
      | inr is ↦ subst (λ s. Language (choice_words (sequence s)) w) (sym before)
          ((choice-more (map tree_of (take j subs)) (tree_of (get_or subs j d)) w).0
          (inr (subst (λ t. Language (tree_words t) w) (sym (same d)) is)))
    ]

-- from the first on there are all
pub sequence-all : (keep : Keep) (tokens : List TokenValue) (Ends : Taken → ℕ → ℕ → Type 0) (subs : List Ere) (i : ℕ) (xs : Taken → List PlaceSpan) → i ≡ 0 →
    IsTidyBackFrom keep tokens (Language (sequence_words (sequence (map tree_of (drop i subs))))) Ends xs →
    IsTidyBackFrom keep tokens (Language (sequence_words (sequence (map tree_of subs)))) Ends xs
sequence-all keep tokens Ends subs i xs first back = subst (λ n. IsTidyBackFrom keep tokens (Language (sequence_words (sequence (map tree_of (drop n subs))))) Ends xs) first back

-- nothing to choose from
pub choice-none : (keep : Keep) (tokens : List TokenValue) (Ends : Taken → ℕ → ℕ → Type 0) (subs : List Ere) (xs : Taken → List PlaceSpan) → ((s : Taken) → xs s ≡ []) →
    IsTidyBackFrom keep tokens (Language (choice_words (sequence (map tree_of (take 0 subs))))) Ends xs
choice-none keep tokens Ends subs xs none = tidy-none keep tokens (Language (choice_words (sequence (map tree_of (take 0 subs))))) Ends xs none (λ w is. is)

pub choice-all : (keep : Keep) (tokens : List TokenValue) (Ends : Taken → ℕ → ℕ → Type 0) (subs : List Ere) (i : ℕ) (xs : Taken → List PlaceSpan) → length subs ≤ i →
    IsTidyBackFrom keep tokens (Language (choice_words (sequence (map tree_of (take i subs))))) Ends xs →
    IsTidyBackFrom keep tokens (Language (choice_words (sequence (map tree_of subs)))) Ends xs
choice-all keep tokens Ends subs i xs all back = subst (λ s. IsTidyBackFrom keep tokens (Language (choice_words (sequence (map tree_of s)))) Ends xs) (take_all i subs all) back

-- the same lists once more as those to go back from
pub tidy-copied : (keep : Keep) (tokens : List TokenValue) (P : Word → Type 0) (xs copied ys : Taken → List PlaceSpan) → ((s : Taken) → copied s ≡ xs s) →
    IsTidyBack keep tokens P copied ys → IsTidyBack keep tokens P xs ys
tidy-copied keep tokens P xs copied ys same back = record {
  placed = back.placed;
  sound = λ s p l r. let a = back.sound s p l r in (a.0, a.1, subst (λ x. Reaches tokens x a.1 l) (same a.0) a.2, a.3, a.4, a.5, a.6);
  complete = λ s t p q l w e is taken reads. back.complete s t p q l w (subst (λ x. Reaches tokens x q l) (sym (same t)) e) is taken reads;
}

pub placed-copied : (tokens : List TokenValue) (xs copied : Taken → List PlaceSpan) → ((s : Taken) → copied s ≡ xs s) →
    ((s : Taken) → ArePlaced tokens (xs s)) → (s : Taken) → ArePlaced tokens (copied s)
placed-copied tokens xs copied same placed s = subst (λ x. ArePlaced tokens x) (sym (same s)) (placed s)

pub placed-joined : (tokens : List TokenValue) (xs ys zs : Taken → List PlaceSpan) → ((s : Taken) → zs s ≡ xs s ++ ys s) →
    ((s : Taken) → ArePlaced tokens (xs s)) → ((s : Taken) → ArePlaced tokens (ys s)) → (s : Taken) → ArePlaced tokens (zs s)
placed-joined tokens xs ys zs joined first second s = subst (λ x. ArePlaced tokens x) (sym (joined s)) (ArePlaced-append tokens (xs s) (ys s) (first s) (second s))

-- ---- where there is memory

module _ (keep : Keep) {E : Type 0} (tokens : List TokenValue) (Ends : Taken → ℕ → ℕ → Type 0) (r : Result Ways E) where
  -- the same words
  pub words-changed : (e f : Expression) → e ≡ f → IfOk r (λ found. IsTidyBackFrom keep tokens (Language e) Ends (spans_of found)) →
      IfOk r (λ found. IsTidyBackFrom keep tokens (Language f) Ends (spans_of found))
  words-changed e f same back = subst (λ x. IfOk r (λ found. IsTidyBackFrom keep tokens (Language x) Ends (spans_of found))) same back

-- what is done for each value that there is
pub ok-changed : {A E : Type 0} (P Q : A → Type 0) (r : Result A E) → ((a : A) → P a → Q a) → IfOk r P → IfOk r Q
ok-changed P Q (Ok a) change is = change a is
ok-changed P Q (Err e) change is = tt

-- what is done where there is no value, and for the value that there is
pub option-changed : {A : Type 0} (P P' : Type 0) (Q Q' : A → Type 0) (o : Option A) → (P → P') → ((a : A) → Q a → Q' a) → MatchOption o P Q → MatchOption o P' Q'
option-changed P P' Q Q' None none some is = none is
option-changed P P' Q Q' (Some a) none some is = some a is

-- of a value that there is, and of none
pub option-some : {A : Type 0} (P : Type 0) (Q : A → Type 0) (o : Option A) → is_some o ≡ true → MatchOption o P Q → (a : A) × Q a
option-some P Q None none is = absurd (true≢false (sym none))
option-some P Q (Some a) some is = (a, is)

pub option-none : {A : Type 0} (P : Type 0) (Q : A → Type 0) (o : Option A) → is_some o ≡ false → MatchOption o P Q → P
option-none P Q None none is = is
option-none P Q (Some a) some is = absurd (true≢false some)

-- ---- one letter

pub one-words : (t : Tree) → is_one t ≡ true → one (passes_of t) ≡ tree_words t
one-words trees.empty is = absurd (let e : false ≡ true = is in cc)
one-words (trees.char c) is = refl
one-words trees.any is = refl
one-words (trees.set brackets) is = refl
one-words (trees.cat ts) is = absurd (let e : false ≡ true = is in cc)
one-words (trees.alt ts) is = absurd (let e : false ≡ true = is in cc)
one-words (trees.repeat t min max) is = absurd (let e : false ≡ true = is in cc)

is_one-Char : (c : ℕ) → is_one (tree_of (Char c)) ≡ true
is_one-Char c = ap is_one (ap tree_of (sym (rolls-Char c)) ∙ fold-roll-Ere Tree node_tree (Ere-F.Char c))

is_one-Any : is_one (tree_of Any) ≡ true
is_one-Any = ap is_one (ap tree_of (sym rolls-Any) ∙ fold-roll-Ere Tree node_tree Ere-F.Any)

is_one-Set : (class : Brackets) → is_one (tree_of (Set class)) ≡ true
is_one-Set class = ap is_one (ap tree_of (sym (rolls-Set class)) ∙ fold-roll-Ere Tree node_tree (Ere-F.Set class))

-- a letter, any letter or one of a set
pub is_one-test : (e : Ere) → ((c : ℕ) × (e ≡ Char c)) ⊎ (e ≡ Any) ⊎ ((class : Brackets) × (e ≡ Set class)) → is_one (tree_of e) ≡ true
is_one-test e (inl is) = ap (λ x. is_one (tree_of x)) is.1 ∙ is_one-Char is.0
is_one-test e (inr (inl is)) = ap (λ x. is_one (tree_of x)) is ∙ is_one-Any
is_one-test e (inr (inr is)) = ap (λ x. is_one (tree_of x)) is.1 ∙ is_one-Set is.0

-- ---- repetitions

module _ (keep : Keep) (tokens : List TokenValue) (B : Word → Type 0) (Ends : Taken → ℕ → ℕ → Type 0) (xs copied led next : Taken → List PlaceSpan)
    (copies : (s : Taken) → copied s ≡ xs s) (goes : IsTidyBack keep tokens B copied led) (least : IsTidyBack keep tokens (λ w. w ≡ []) led next)
    (i : ℕ) (back : IsTidyBackFrom keep tokens (Power B i) Ends xs) where
  stepped : IsTidyBack keep tokens B xs next
  stepped = tidy-least keep tokens B (λ t q l. Reaches tokens (xs t) q l) led next (tidy-copied keep tokens B xs copied led copies goes) least

  -- one word more
  pub times-more : (n : ℕ) → n ≡ i + 1 → IsTidyBackFrom keep tokens (Power B n) Ends next
  times-more n is =
      let suc-i : n ≡ suc i = omega arith in
      subst (λ k. IsTidyBackFrom keep tokens (Power B k) Ends next) (sym suc-i) (tidy-after keep tokens (Power B i) B Ends xs next back stepped)

  -- where one word more changes nothing, no more words do
  pub times-same : ((s : Taken) → next s ≡ xs s) → (count : ℕ) → i ≤ count → IsTidyBackFrom keep tokens (Power B count) Ends xs
  times-same same count more =
      times-settled keep tokens B Ends xs i back
      (tidy-lists keep tokens B (λ t q l. Reaches tokens (xs t) q l) next xs (λ s. sym (same s)) stepped) (count - i) count (omega (arith, more))

pub times-all : (keep : Keep) (tokens : List TokenValue) (B : Word → Type 0) (Ends : Taken → ℕ → ℕ → Type 0) (xs : Taken → List PlaceSpan) (i count : ℕ) →
    i ≤ count → count ≤ i → IsTidyBackFrom keep tokens (Power B i) Ends xs → IsTidyBackFrom keep tokens (Power B count) Ends xs
times-all keep tokens B Ends xs i count few many back =
    let same : i ≡ count = omega arith in subst (λ k. IsTidyBackFrom keep tokens (Power B k) Ends xs) same back

module _ (keep : Keep) (tokens : List TokenValue) (B : Word → Type 0) (xs found front : Taken → List PlaceSpan) where
  -- at first nothing but the places themselves
  pub reached-start : ((s : Taken) → found s ≡ xs s) → ((s : Taken) → front s ≡ xs s) → ((s : Taken) → ArePlaced tokens (xs s)) →
      IsReached keep tokens B xs found front 0
  reached-start same again placed = record {
    back = first.back;
    placed = placed-copied tokens xs front again placed;
    among = λ s p l r. subst (λ x. Reaches tokens x p l) (sym (same s)) (subst (λ x. Reaches tokens x p l) (again s) r);
    followed = λ t q l r. inl (subst (λ x. Reaches tokens x q l) (sym (again t)) (subst (λ x. Reaches tokens x q l) (same t) r));
  }
    where
      first : IsReached keep tokens B xs found found 0
      first = reached-first keep tokens B xs found (tidy-lists keep tokens (λ w. w ≡ []) (λ t q l. Reaches tokens (xs t) q l) xs found same (tidy-stay keep tokens xs placed))

  -- all, once nothing is left to continue from
  pub reached-empty : (ways : Taken → List PlaceSpan) (i count : ℕ) → IsReached keep tokens B xs found front i → i ≤ count → ((s : Taken) → front s ≡ []) →
      ((s : Taken) → ways s ≡ found s) → IsTidyBack keep tokens (UpTo B count) xs ways
  reached-empty ways i count reached more empty same =
      tidy-lists keep tokens (UpTo B count) (λ t q l. Reaches tokens (xs t) q l) found ways same (reached-all keep tokens B xs found front i count more empty reached)

  -- or after `count` words
  pub reached-done : (ways : Taken → List PlaceSpan) (i count : ℕ) → IsReached keep tokens B xs found front i → i ≤ count → count ≤ i →
      ((s : Taken) → ways s ≡ found s) → IsTidyBack keep tokens (UpTo B count) xs ways
  reached-done ways i count reached few many same =
      let is : i ≡ count = omega arith in
      tidy-lists keep tokens (UpTo B count) (λ t q l. Reaches tokens (xs t) q l) found ways same
      (subst (λ k. IsTidyBack keep tokens (UpTo B k) xs found) is reached.back)

-- one word more, without the places from which it continued
pub reached-pruned : (keep : Keep) (tokens : List TokenValue) (B : Word → Type 0) (xs found front copied led next more all fresh : Taken → List PlaceSpan) (i n : ℕ) → n ≡ suc i →
    IsReached keep tokens B xs found front i → ((s : Taken) → copied s ≡ front s) → IsTidyBack keep tokens B copied led → IsTidyBack keep tokens (λ w. w ≡ []) led next →
    ((s : Taken) → AreFresh (next s) (front s) (more s)) → IsFrontierOf keep tokens found (λ s. found s ++ more s) all fresh →
    IsReached keep tokens B xs all fresh n
reached-pruned keep tokens B xs found front copied led next more all fresh i n one_more reached copies goes least are added =
    reached-more keep tokens B xs found front next both all fresh i n one_more reached step (λ s. refl) back added.placed added.among added.parted
  where
    both : Taken → List PlaceSpan
    both s = found s ++ next s

    step : IsTidyBack keep tokens B front next
    step = tidy-least keep tokens B (λ t q l. Reaches tokens (front t) q l) led next (tidy-copied keep tokens B front copied led copies goes) least

    pruned : Taken → List PlaceSpan
    pruned s = found s ++ more s

    sound : (s : Taken) (p l : ℕ) → Reaches tokens (found s) p l ⊎ Reaches tokens (more s) p l → Reaches tokens (found s ++ next s) p l
    sound s p l (inl r) = Reaches-append_left tokens (found s) (next s) p l r
    sound s p l (inr r) = Reaches-append_right tokens (found s) (next s) p l (fresh-among tokens (next s) (front s) (more s) (are s) p l r)

    from_more : (s : Taken) (p l : ℕ) → Reaches tokens (more s) p l ⊎ Reaches tokens (front s) p l → Reaches tokens (found s ++ more s) p l
    from_more s p l (inl r) = Reaches-append_right tokens (found s) (more s) p l r
    from_more s p l (inr r) = Reaches-append_left tokens (found s) (more s) p l (reached.among s p l r)

    whole : (s : Taken) (p l : ℕ) → Reaches tokens (found s) p l ⊎ Reaches tokens (next s) p l → Reaches tokens (found s ++ more s) p l
    whole s p l (inl r) = Reaches-append_left tokens (found s) (more s) p l r
    whole s p l (inr r) = from_more s p l (fresh-parted tokens (next s) (front s) (more s) (are s) p l r)

    back : IsTidyBack keep tokens (λ w. w ≡ []) both all
    back = record {
      placed = added.back.placed;
      sound = λ s p l r. (
        s,
        p,
        sound s p l (Reaches-append tokens (found s) (more s) p l (from-least keep tokens B pruned all added.back s p l r)),
        [],
        refl,
        refl,
        refl,
      );
      complete = λ s t p q l w e none taken reads.
          let here : p ≡ q = subst (λ x. Reads tokens p x q) none reads in
          let at : s ≡ t = subst (λ x. IsTakenBack s x t) none taken in
          to-least keep tokens B pruned all added.back s p l l (Beats-same keep tokens p l)
          (whole s p l (Reaches-append tokens (found s) (next s) p l
          (subst (λ x. Reaches tokens (found x ++ next x) p l) (sym at) (subst (λ x. Reaches tokens (found t ++ next t) x l) (sym here) e))));
    }

-- patterns in a row that are the one before once more add no word
pub choice-skip : (keep : Keep) (tokens : List TokenValue) (Ends : Taken → ℕ → ℕ → Type 0) (subs : List Ere) (i : ℕ) (d : Ere) (xs : Taken → List PlaceSpan) (more : ℕ) →
    i + more ≤ length subs → ((k : ℕ) → i ≤ k → k < i + more → IsRepeated subs k) →
    IsTidyBackFrom keep tokens (Language (choice_words (sequence (map tree_of (take i subs))))) Ends xs →
    IsTidyBackFrom keep tokens (Language (choice_words (sequence (map tree_of (take (i + more) subs))))) Ends xs
choice-skip keep tokens Ends subs i d xs zero within repeated back =
    let same : i ≡ i + 0 = omega arith in
    subst (λ n. IsTidyBackFrom keep tokens (Language (choice_words (sequence (map tree_of (take n subs))))) Ends xs) same back
choice-skip keep tokens Ends subs i d xs (suc more) within repeated back =
    let next : i + more + 1 ≡ i + suc more = omega arith in
    subst (λ n. IsTidyBackFrom keep tokens (Language (choice_words (sequence (map tree_of (take n subs))))) Ends xs) next
    (choice-again keep tokens Ends subs (i + more) d xs (omega (arith, within)) (repeated (i + more) (omega arith) (omega arith))
    (choice-skip keep tokens Ends subs i d xs more (omega (arith, within)) (λ k from to. repeated k from (omega (arith, to))) back))

pub choice-to : (keep : Keep) (tokens : List TokenValue) (Ends : Taken → ℕ → ℕ → Type 0) (subs : List Ere) (i j : ℕ) (d : Ere) (xs : Taken → List PlaceSpan) →
    i ≤ j → j ≤ length subs → ((k : ℕ) → i ≤ k → k < j → IsRepeated subs k) →
    IsTidyBackFrom keep tokens (Language (choice_words (sequence (map tree_of (take i subs))))) Ends xs →
    IsTidyBackFrom keep tokens (Language (choice_words (sequence (map tree_of (take j subs))))) Ends xs
choice-to keep tokens Ends subs i j d xs order within repeated back =
    let same : i + (j - i) ≡ j = omega (arith, order) in
    subst (λ n. IsTidyBackFrom keep tokens (Language (choice_words (sequence (map tree_of (take n subs))))) Ends xs) same
    (choice-skip keep tokens Ends subs i d xs (j - i) (omega (arith, order, within)) (λ k from to. repeated k from (omega (arith, to, order))) back)
