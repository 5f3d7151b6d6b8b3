-- How many letters words of patterns have at most, and how many bytes words of parts take.
use Rattle.std.proofs.Common.{◌≡◌, ◌⊎◌, ℕ, zero, suc, ◌+◌, ◌*◌, ◌<◌, ◌≤◌, List, [], ◌∷◌, ◌++◌, length, map, take, get_or, Option, Some, None, Box, Vec, Global, inl, inr, refl, sym, ap, arith, subst, ◌∙◌, append_assoc, append-nil, encode_utf8_all, length-append, lit<, String}
use Rattle.std.specs.Prelude.{MatchOption, min as lesser}
use Rattle.std.proofs.Math.Nat.{mul-le-mul_right, suc-mul}
use Rattle.std.proofs.lemmas.List.{take_more, map-append}
use Rattle.std.specs.Char.{encode_utf8}
use Rattle.std.specs.Str.{IsUtf8, chars}
use Rattle.std.specs.String.{string_bytes}
use Rattle.std.proofs.lemmas.Str.{encode_ascii, encodes-chars}
use Rattle.lic_words.specs.Words.{Word, Cat, Power, blank}
use Rattle.lic_words.specs.Expressions as words
use Rattle.lic_words.specs.Expressions.{Expression, Language}
use Rattle.lic_words.proofs.Languages.{letters_sound}
use Rattle.lic_ere.specs.declared.ere.Ere.{Ere, Ere-F, fold-roll-Ere}
use Rattle.lic_ere.specs.declared.ere.Ere.TheVariants.{rolls-Alt, rolls-Cat, rolls-Repeat}
use Rattle.lic_ere.specs.declared.ere.Ere.TheVariants as ere
use Rattle.lic_ere.specs.Trees.{Tree, node_tree, tree_of}
use Rattle.lic_ere.specs.Trees as trees
use Rattle.lic_markup.specs.declared.part.Part.{Part, Part-F, fold-roll-Part}
use Rattle.lic_markup.specs.declared.part.Part.TheVariants.{rolls-Var}
use Rattle.lic_markup.specs.declared.part.Part.TheVariants as part
use Rattle.lic_ere.specs.Meaning.{choice_words, sequence_words, tree_words}
use Rattle.lic_markup.specs.Meaning.{node_words, part_words, parts_words}
use Rattle.lic_markup.specs.Parts.{Node, part_node, part_of}
use Rattle.lic_markup.specs.Parts as nodes
use Rattle.lic_norm.specs.Tokens.{TokenValue}
use Rattle.lic_places.specs.Reads.{Reads, Takes}
use Rattle.lic_places.proofs.Reading.{Reads-cut, Reads-most}
use Rattle.lic_places.proofs.TokenPlaces.{OverBlank-order}
use Rattle.lic_search.specs.Ends.{HasAtMost, TakesAtMost}
use Rattle.lic_keys.proofs.RequiredEndLemmas.{parts-joined}

-- ---- letters

-- a greater number is a bound too
pub letters-more : (e : Expression) (m n : ℕ) → m ≤ n → HasAtMost e m → HasAtMost e n
letters-more e m n order has = record { letters = λ w is. let few = has.letters w is in omega arith }

-- words of the set in a row
power-length : (P : Word → Type 0) (most : ℕ) → ((w : Word) → P w → length w ≤ most) → (n : ℕ) (w : Word) → Power P n w → length w ≤ n * most
power-length P most few zero w is = let none : length w ≡ 0 = ap length is in omega arith
power-length P most few (suc n) w is =
    let all : length w ≡ length (is.0 ++ is.1) = ap length is.4 in
    let one = few is.0 is.2 in
    let more = power-length P most few n is.1 is.3 in
    omega (arith, length-append is.0 is.1, suc-mul n most)

pub letters-repeat : (e : Expression) (min max most : ℕ) → HasAtMost e most → HasAtMost (words.repeat min (Some max) e) (most * max)
letters-repeat e min max most has = record {
  letters = λ w is.
      let few = power-length (Language e) most has.letters is.0 w is.3 in
      let times = mul-le-mul_right most is.2 in
      omega arith;
}

pub letters-none : (e : Expression) (min most : ℕ) → HasAtMost (words.repeat min (Some 0) e) most
letters-none e min most = record {
  letters = λ w is.
      let none : is.0 ≡ 0 = omega (arith, is.2) in
      let empty : w ≡ [] = subst (λ n. Power (Language e) n w) none is.3 in
      let size : length w ≡ 0 = ap length empty in
      omega arith;
}

-- the words of one pattern more in a row
sequence-more : (ts : List Tree) (t : Tree) (w : Word) → Language (sequence_words (trees.sequence (ts ++ t ∷ []))) w →
    Cat (Language (sequence_words (trees.sequence ts))) (Language (tree_words t)) w
sequence-more [] t w is = ([], w, refl, subst (Language (tree_words t)) (sym (is.4 ∙ ap (λ x. is.0 ++ x) is.3 ∙ append-nil is.0)) is.2, refl)
sequence-more (s ∷ ts) t w is =
    let more = sequence-more ts t is.1 is.3 in (
      is.0 ++ more.0,
      more.1,
      (is.0, more.0, is.2, more.2, refl),
      more.3,
      is.4 ∙ ap (λ x. is.0 ++ x) more.4 ∙ sym (append_assoc is.0 more.0 more.1),
    )

-- the words of one alternative more
choice-more : (ts : List Tree) (t : Tree) (w : Word) → Language (choice_words (trees.sequence (ts ++ t ∷ []))) w →
    Language (choice_words (trees.sequence ts)) w ⊎ Language (tree_words t) w
choice-more [] t w (inl is) = inr is
choice-more [] t w (inr none) = absurd none
choice-more (s ∷ ts) t w (inl is) = inl (inl is)
choice-more (s ∷ ts) t w (inr is) = elim (choice-more ts t w is) [ inl one ↦ inl (inr one) | inr other ↦ inr other ]

-- one element more, and what is computed of it
mapped-more : {X Y : Type 0} (f : X → Y) (xs : List X) (i : ℕ) (x : X) → i < length xs → x ≡ get_or xs i x →
    map f (take (i + 1) xs) ≡ map f (take i xs) ++ f x ∷ []
mapped-more f xs i x inside is =
    ap (map f) (take_more xs i x inside ∙ ap (λ y. take i xs ++ y ∷ []) (sym is)) ∙ map-append f (take i xs) (x ∷ [])

pub letters-sequence : (subs : List Ere) (i : ℕ) (sub : Ere) (m n : ℕ) → i < length subs → sub ≡ get_or subs i sub →
    HasAtMost (sequence_words (trees.sequence (map tree_of (take i subs)))) m → HasAtMost (tree_words (tree_of sub)) n →
    HasAtMost (sequence_words (trees.sequence (map tree_of (take (i + 1) subs)))) (m + n)
letters-sequence subs i sub m n inside is before here = record {
  letters = λ w has.
      let cut = sequence-more (map tree_of (take i subs)) (tree_of sub) w
      (subst (λ ts. Language (sequence_words (trees.sequence ts)) w) (mapped-more tree_of subs i sub inside is) has) in
      let all : length w ≡ length (cut.0 ++ cut.1) = ap length cut.4 in
      let one = before.letters cut.0 cut.2 in
      let other = here.letters cut.1 cut.3 in
      omega (arith, length-append cut.0 cut.1);
}

pub letters-choice : (subs : List Ere) (i : ℕ) (sub : Ere) (m : ℕ) → i < length subs → sub ≡ get_or subs i sub →
    HasAtMost (choice_words (trees.sequence (map tree_of (take i subs)))) m → HasAtMost (tree_words (tree_of sub)) m →
    HasAtMost (choice_words (trees.sequence (map tree_of (take (i + 1) subs)))) m
letters-choice subs i sub m inside is before here = record {
  letters = λ w has.
      elim (choice-more (map tree_of (take i subs)) (tree_of sub) w
      (subst (λ ts. Language (choice_words (trees.sequence ts)) w) (mapped-more tree_of subs i sub inside is) has)) [
        | inl one ↦ before.letters w one
        | inr other ↦ here.letters w other
      ];
}

-- the greatest `usize`: from there on nothing is said
abbrev pub most_number : ℕ
most_number = 18446744073709551615

-- a bound below the greatest number
abbrev pub IsBound : (ℕ → Type 0) → ℕ → Type 0
IsBound Has most = most < most_number → Has most

-- the trees of patterns of patterns
tree_of-Cat : (subs : Vec Ere Global) → tree_of (ere.Cat subs) ≡ trees.cat (trees.sequence (map tree_of subs.items))
tree_of-Cat subs = ap tree_of (sym (rolls-Cat subs)) ∙ fold-roll-Ere Tree node_tree (Ere-F.Cat subs)

tree_of-Alt : (subs : Vec Ere Global) → tree_of (ere.Alt subs) ≡ trees.alt (trees.sequence (map tree_of subs.items))
tree_of-Alt subs = ap tree_of (sym (rolls-Alt subs)) ∙ fold-roll-Ere Tree node_tree (Ere-F.Alt subs)

tree_of-Repeat : (body : Box Ere Global) (min : ℕ) (max : Option ℕ) → tree_of (ere.Repeat body min max) ≡ trees.repeat (tree_of body.value) min max
tree_of-Repeat body min max = ap tree_of (sym (rolls-Repeat body min max)) ∙ fold-roll-Ere Tree node_tree (Ere-F.Repeat body min max)

pub letters-cat : (e : Ere) (subs : Vec Ere Global) (m : ℕ) → e ≡ ere.Cat subs → HasAtMost (sequence_words (trees.sequence (map tree_of subs.items))) m →
    HasAtMost (tree_words (tree_of e)) m
letters-cat e subs m is has = subst (λ t. HasAtMost (tree_words t) m) (sym (ap tree_of is ∙ tree_of-Cat subs)) has

pub letters-alt : (e : Ere) (subs : Vec Ere Global) (m : ℕ) → e ≡ ere.Alt subs → HasAtMost (choice_words (trees.sequence (map tree_of subs.items))) m →
    HasAtMost (tree_words (tree_of e)) m
letters-alt e subs m is has = subst (λ t. HasAtMost (tree_words t) m) (sym (ap tree_of is ∙ tree_of-Alt subs)) has

-- a repetition, by how often at most
repeated : (a : Expression) (min : ℕ) (times m r : ℕ) → r ≡ lesser (m * times) most_number → IsBound (HasAtMost a) m → IsBound (HasAtMost (words.repeat min (Some times) a)) r
repeated a min zero m r is has below = letters-none a min r
repeated a min (suc k) m r is has below =
    let all : r ≡ m * suc k = omega arith in
    let part : m ≤ m * suc k = omega arith in
    subst (λ x. HasAtMost (words.repeat min (Some (suc k)) a) x) (sym all) (letters-repeat a min (suc k) m (has (omega arith)))

pub letters-repetition : (e : Ere) (body : Box Ere Global) (min : ℕ) (max : Option ℕ) (m r : ℕ) → e ≡ ere.Repeat body min max →
    MatchOption max (r ≡ most_number) (λ times. r ≡ lesser (m * times) most_number) → IsBound (HasAtMost (tree_words (tree_of body.value))) m →
    IsBound (HasAtMost (tree_words (tree_of e))) r
letters-repetition e body min max m r is known has below =
    subst (λ t. HasAtMost (tree_words t) r) (sym (ap tree_of is ∙ tree_of-Repeat body min max)) (by_max max known)
  where
    by_max : (max : Option ℕ) → MatchOption max (r ≡ most_number) (λ times. r ≡ lesser (m * times) most_number) →
        HasAtMost (words.repeat min max (tree_words (tree_of body.value))) r
    by_max None at = absurd (omega arith)
    by_max (Some times) at = repeated (tree_words (tree_of body.value)) min times m r at has below

-- ---- bytes

-- each letter takes four bytes at most
pub bytes-tidy : (e : Expression) (m : ℕ) → HasAtMost e m → TakesAtMost (words.tidy e) (m * 4)
bytes-tidy e m has = record {
  bytes = λ tokens w p q is reads.
      let few = has.letters w is.0 in
      let most = Reads-most tokens w p q reads in
      omega arith;
}

-- a word takes no more bytes than it has in UTF-8
Takes-bytes : (tokens : List TokenValue) (p c q : ℕ) → Takes tokens p c q → q ≤ p + length (encode_utf8 c)
Takes-bytes tokens p c q (inl is) =
    let order = OverBlank-order tokens p q is.1 in
    let size : length (encode_utf8 c) ≡ length (encode_utf8 blank) = ap (λ d. length (encode_utf8 d)) is.0 in
    omega (arith, order.1, size, blank-size)
  where
    blank-size : length (encode_utf8 blank) ≡ 1
    blank-size = ap length (encode_ascii 0x20 (lit< tt))
Takes-bytes tokens p c q (inr is) = omega (arith, is.2.0)

Reads-bytes : (tokens : List TokenValue) (w : Word) (p q : ℕ) → Reads tokens p w q → q ≤ p + length (encode_utf8_all w)
Reads-bytes tokens [] p q reads = omega (arith, reads)
Reads-bytes tokens (c ∷ w) p q reads =
    let first = Takes-bytes tokens p c reads.0 reads.1 in
    let more = Reads-bytes tokens w reads.0 q reads.2 in
    omega (arith, length-append (encode_utf8 c) (encode_utf8_all w))

-- a text takes no more bytes than it has
pub bytes-text : (text : List ℕ) → IsUtf8 text → TakesAtMost (words.letters (chars text)) (length text)
bytes-text text utf8 = record {
  bytes = λ tokens w p q is reads.
      let most = Reads-bytes tokens w p q reads in
      let same : length (encode_utf8_all w) ≡ length text = ap (λ x. length (encode_utf8_all x)) (letters_sound (chars text) w is) ∙ ap length (encodes-chars text utf8) in
      omega arith;
}

-- the words of one part
part-alone : (n : Node) (w : Word) → Language (parts_words (n ∷ [])) w → Language (node_words n) w
part-alone n w is = subst (Language (node_words n)) (sym (is.4 ∙ ap (λ x. is.0 ++ x) is.3 ∙ append-nil is.0)) is.2

pub bytes-parts : (parts : List Part) (i : ℕ) (part : Part) (m n : ℕ) → i < length parts → part ≡ get_or parts i part →
    TakesAtMost (parts_words (map part_of (take i parts))) m → TakesAtMost (part_words part) n →
    TakesAtMost (parts_words (map part_of (take (i + 1) parts))) (m + n)
bytes-parts parts i part m n inside is before here = record {
  bytes = λ tokens w p q has reads.
      let cut = parts-joined (map part_of (take i parts)) (part_of part ∷ []) w
      (subst (λ ns. Language (parts_words ns) w) (mapped-more part_of parts i part inside is) has) in
      let middle = Reads-cut tokens cut.0 cut.1 p q (subst (λ x. Reads tokens p x q) cut.4 reads) in
      let one = before.bytes tokens cut.0 p middle.0 cut.2 middle.1 in
      let other = here.bytes tokens cut.1 middle.0 q (part-alone (part_of part) cut.1 cut.3) middle.2 in
      omega arith;
}

-- a variable
part_of-Var : (name original : String Global) (e : Ere) → part_of (part.Var name original e) ≡ nodes.variable (string_bytes name) (string_bytes original) (tree_of e)
part_of-Var name original e = ap part_of (sym (rolls-Var name original e)) ∙ fold-roll-Part Node part_node (Part-F.Var name original e)

pub bytes-variable : (p : Part) (name original : String Global) (e : Ere) (m : ℕ) → p ≡ part.Var name original e → HasAtMost (tree_words (tree_of e)) m →
    TakesAtMost (part_words p) (m * 4)
bytes-variable p name original e m is has =
    subst (λ n. TakesAtMost (node_words n) (m * 4)) (sym (ap part_of is ∙ part_of-Var name original e)) (bytes-tidy (tree_words (tree_of e)) m has)
