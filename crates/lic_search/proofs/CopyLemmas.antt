-- Optional copies of a text among the parts of a template.
use Rattle.std.proofs.Common.{◌≡◌, ◌⊎◌, ◌↔◌, inl, inr, ℕ, suc, ◌+◌, ◌-◌, ◌<◌, ◌≤◌, List, [], ◌∷◌, ◌++◌, length, map, get_or, drop, Option, Some, None, Vec, Global, refl, sym, ap, subst, ◌∙◌, arith, drop-cons}
use Rattle.std.specs.Prelude.{slice_get, IfSome, MatchOption}
use Rattle.std.specs.Option.{SomeIff}
use Rattle.std.specs.Str.{chars}
use Rattle.std.proofs.Math.Seq.{drop-length}
use Rattle.std.proofs.lemmas.List.{append-nil, drop-map}
use Rattle.std.proofs.lemmas.Option.{get_or_from_slice_get, slice_get_within}
use Rattle.lic_words.specs.Words.{Word, Cat}
use Rattle.lic_words.specs.Expressions.{Language, letters}
use Rattle.lic_markup.specs.declared.part.Part.{Part, Part-F, fold-roll-Part}
use Rattle.lic_markup.specs.declared.part.Part.TheVariants.{Optional, rolls-Optional}
use Rattle.lic_markup.specs.Meaning.{node_words, part_words, parts_words}
use Rattle.lic_markup.specs.Parts as nodes
use Rattle.lic_markup.specs.Parts.{Node, part_node, part_of, sequence}
use Rattle.lic_search.specs.Copies.{AreCopies, words_from}
use Rattle.lic_reverse.specs.Tidily.{UpTo}
use Rattle.lic_search.proofs.CopyWords.{copies-joined, copies-none, copies-within}

-- the words of a text
abbrev pub TextWords : List ℕ → Word → Type 0
TextWords text = Language (letters (chars text))

-- ---- in a row

cat-changed : (P Q L : Word → Type 0) → ((w : Word) → P w ↔ Q w) → (w : Word) → Cat P L w ↔ Cat Q L w
cat-changed P Q L same w = (
  λ cat. (cat.0, cat.1, (same cat.0).0 cat.2, cat.3, cat.4),
  λ cat. (cat.0, cat.1, (same cat.0).1 cat.2, cat.3, cat.4),
)

cat-later : (P L M : Word → Type 0) → ((w : Word) → L w ↔ M w) → (w : Word) → Cat P L w ↔ Cat P M w
cat-later P L M same w = (
  λ cat. (cat.0, cat.1, cat.2, (same cat.1).0 cat.3, cat.4),
  λ cat. (cat.0, cat.1, cat.2, (same cat.1).1 cat.3, cat.4),
)

-- the words of a part and of those after it
part-first : (parts : List Part) (i : ℕ) (d : Part) (w : Word) → 0 < i → i ≤ length parts →
    words_from parts (i - 1) w ↔ Cat (Language (part_words (get_or parts (i - 1) d))) (words_from parts i) w
part-first parts i d w some within = (
  λ is. subst (λ x. Language (parts_words (map part_of x)) w) cut is,
  λ is. subst (λ x. Language (parts_words (map part_of x)) w) (sym cut) is,
)
  where
    next : suc (i - 1) ≡ i
    next = omega arith

    cut : drop (i - 1) parts ≡ get_or parts (i - 1) d ∷ drop i parts
    cut = drop-cons parts (i - 1) d (omega arith) ∙ ap (λ n. get_or parts (i - 1) d ∷ drop n parts) next

-- the copies of one part more
pub copies-more : (parts : List Part) (end : ℕ) (text : List ℕ) (i count more sum : ℕ) (d : Part) → 0 < i → end ≤ length parts → sum ≡ more + count →
    AreCopies parts end text i count → ((w : Word) → Language (part_words (get_or parts (i - 1) d)) w ↔ UpTo (TextWords text) more w) →
    AreCopies parts end text (i - 1) sum
copies-more parts end text i count more sum d some within is copies part = record {
  within = omega (arith, copies.within);
  words = λ w.
      let here = part-first parts i d w some (omega (arith, copies.within)) in
      let one = cat-changed (Language (part_words (get_or parts (i - 1) d))) (UpTo (TextWords text) more) (words_from parts i) part w in
      let other = cat-later (UpTo (TextWords text) more) (words_from parts i) (Cat (UpTo (TextWords text) count) (words_from parts end)) copies.words w in
      let joined = copies-joined (TextWords text) (words_from parts end) more count w in
      let all : words_from parts (i - 1) w ↔ Cat (UpTo (TextWords text) (more + count)) (words_from parts end) w =
      (λ a. joined.0 (other.0 (one.0 (here.0 a))), λ c. here.1 (one.1 (other.1 (joined.1 c)))) in
      subst (λ n. words_from parts (i - 1) w ↔ Cat (UpTo (TextWords text) n) (words_from parts end) w) (sym is) all;
}

-- the same where a part may be no copies
pub copies-step : (parts : List Part) (end : ℕ) (text : List ℕ) (i count sum : ℕ) (part : Part) (o : Option ℕ) → 0 < i → end ≤ length parts → part ≡ get_or parts (i - 1) part →
    AreCopies parts end text i count → IfSome o (λ more. (w : Word) → Language (part_words part) w ↔ UpTo (TextWords text) more w) →
    MatchOption o ⊥ (λ more. sum ≡ more + count) → AreCopies parts end text (i - 1) sum
copies-step parts end text i count sum part None some within at copies are is = absurd is
copies-step parts end text i count sum part (Some more) some within at copies are is =
    copies-more parts end text i count more sum part some within is copies
    (subst (λ p. (w : Word) → Language (part_words p) w ↔ UpTo (TextWords text) more w) at are)

-- ---- within a part

-- nothing more after the last part
nothing-after : (P : Word → Type 0) (parts : List Part) (w : Word) → Cat P (words_from parts (length parts)) w ↔ P w
nothing-after P parts w = (
  λ cat. let none : cat.1 ≡ [] = subst (λ x. Language (parts_words (map part_of x)) cat.1) (drop-length parts) cat.3 in
      subst P (sym (cat.4 ∙ ap (λ x. cat.0 ++ x) none ∙ append-nil cat.0)) cat.2,
  λ is. (w, [], is, subst (λ x. Language (parts_words (map part_of x)) []) (sym (drop-length parts)) refl, sym (append-nil w)),
)

-- the parts, of which the first is a text
text-first : (body : List Part) (text : List ℕ) → slice_get (map part_of body) 0 ≡ Some (nodes.letters text) →
    map part_of body ≡ nodes.letters text ∷ map part_of (drop 1 body)
text-first body text is =
    let n = nodes.letters text in
    drop-cons (map part_of body) 0 n (slice_get_within (map part_of body) 0 n is)
    ∙ ap (λ x. x ∷ drop 1 (map part_of body)) (get_or_from_slice_get (map part_of body) 0 n n is)
    ∙ ap (λ x. n ∷ x) (drop-map part_of 1 body)

part_of-Optional : (body : Vec Part Global) → part_of (Optional body) ≡ nodes.optional (sequence (map part_of body.items))
part_of-Optional body = ap part_of (sym (rolls-Optional body)) ∙ fold-roll-Part Node part_node (Part-F.Optional body)

-- a text, and then copies of it
pub copies-part : (part : Part) (body : Vec Part Global) (text : List ℕ) (first count : ℕ) → part ≡ Optional body → first ≡ 1 →
    slice_get (map part_of body.items) 0 ≡ Some (nodes.letters text) → AreCopies body.items (length body.items) text first count →
    (w : Word) → Language (part_words part) w ↔ UpTo (TextWords text) (count + 1) w
copies-part part body text first count is one begins copies w = (
  λ a. (copies-within (TextWords text) count w).0 (to (subst (λ n. Language (node_words n) w) nodes_are a)),
  λ b. subst (λ n. Language (node_words n) w) (sym nodes_are) (from ((copies-within (TextWords text) count w).1 b)),
)
  where
    items : List Part
    items = body.items

    nodes_are : part_of part ≡ nodes.optional (sequence (nodes.letters text ∷ map part_of (drop 1 items)))
    nodes_are = ap part_of is ∙ part_of-Optional body ∙ ap (λ x. nodes.optional (sequence x)) (text-first items text begins)

    others : (v : Word) → words_from items 1 v ↔ UpTo (TextWords text) count v
    others v =
        let after = nothing-after (UpTo (TextWords text) count) items v in
        let here = copies.words v in
        subst (λ n. words_from items n v ↔ UpTo (TextWords text) count v) one (λ a. after.0 (here.0 a), λ b. here.1 (after.1 b))

    to : (w ≡ []) ⊎ Cat (TextWords text) (words_from items 1) w → (w ≡ []) ⊎ Cat (TextWords text) (UpTo (TextWords text) count) w
    to (inl none) = inl none
    to (inr cat) = inr (cat.0, cat.1, cat.2, (others cat.1).0 cat.3, cat.4)

    from : (w ≡ []) ⊎ Cat (TextWords text) (UpTo (TextWords text) count) w → (w ≡ []) ⊎ Cat (TextWords text) (words_from items 1) w
    from (inl none) = inl none
    from (inr cat) = inr (cat.0, cat.1, cat.2, (others cat.1).1 cat.3, cat.4)

-- the same where their number is one
pub copies-sum : (part : Part) (body : Vec Part Global) (text : List ℕ) (first count : ℕ) (o : Option ℕ) (Fits : Type 0) → part ≡ Optional body → first ≡ 1 →
    slice_get (map part_of body.items) 0 ≡ Some (nodes.letters text) → AreCopies body.items (length body.items) text first count →
    SomeIff o Fits (count + 1) → IfSome o (λ n. (w : Word) → Language (part_words part) w ↔ UpTo (TextWords text) n w)
copies-sum part body text first count None Fits is one begins copies sum = tt
copies-sum part body text first count (Some n) Fits is one begins copies sum = λ w.
    subst (λ m. Language (part_words part) w ↔ UpTo (TextWords text) m w) (sym sum.1) (copies-part part body text first count is one begins copies w)
