-- The words of patterns and parts whose trees are compiled.
use Rattle.std.proofs.Common.{◌≡◌, ℕ, ◌+◌, ◌<◌, ◌==◌, true, List, [], ◌∷◌, ◌++◌, map, take, length, get_or, reverse, Option, Result, Ok, Err, Vec, Box, Global, refl, sym, ap, ◌∙◌, subst}
use Rattle.std.specs.List.{list_all}
use Rattle.std.specs.Result.{IfOk}
use Rattle.std.proofs.lemmas.List.{take_more, map-append}
use Rattle.lic_words.specs.Words.{Word}
use Rattle.lic_words.specs.Expressions.{Expression, Language}
use Rattle.lic_words.specs.Expressions as words
use Rattle.lic_ere.specs.declared.ere.Ere.{Ere, Ere-F, fold-roll-Ere}
use Rattle.lic_ere.specs.declared.ere.Ere.TheVariants.{Cat, Alt, Repeat, rolls-Cat, rolls-Alt, rolls-Repeat}
use Rattle.lic_ere.specs.Trees.{Tree, tree_of, node_tree}
use Rattle.lic_ere.specs.Trees as trees
use Rattle.lic_markup.specs.declared.part.Part.{Part}
use Rattle.lic_markup.specs.Parts.{part_of}
use Rattle.lic_ere.specs.Meaning.{tree_words, sequence_words, choice_words}
use Rattle.lic_markup.specs.Meaning.{part_words, parts_words}
use Rattle.lic_marks.specs.Cores.{WordsOf, one, cat_all}
use Rattle.lic_marks.specs.Nodes.{core_of, is_measured, letter_cores, IsBuilt}
use Rattle.lic_marks.specs.declared.node.Node.{Node}
use Rattle.lic_marks.proofs.Cuts.{and_both}
use Rattle.lic_auto.specs.Compiling.{AreSame, HasWords, AllHaveWords, Repeats, pattern_words}
use Rattle.lic_auto.proofs.WordSets.{AreSame-refl, AreSame-trans, Cat-same}
use Rattle.lic_auto.specs.declared.direction.Direction.{Direction}
use Rattle.lic_auto.specs.declared.direction.Direction.TheVariants.{Forward, Backward}
use Rattle.lic_auto.specs.Directions.{ordered, read}
use Rattle.lic_words.specs.Reversal.{reversed_expression}
use Rattle.lic_auto.proofs.Ordered.{reverse-cons}
use Rattle.lic_auto.proofs.Sequences.{cat_all-push}
use Rattle.lic_auto.proofs.Repetitions.{Repeats-same}

pub AllHaveWords-push : (ns : List Node) (es : List Expression) (n : Node) (e : Expression) →
    AllHaveWords ns es → HasWords (Language e) n → AllHaveWords (ns ++ n ∷ []) (es ++ e ∷ [])
AllHaveWords-push [] [] n e all has = (has, tt)
AllHaveWords-push [] (d ∷ es) n e all has = absurd all
AllHaveWords-push (m ∷ ns) [] n e all has = absurd all
AllHaveWords-push (m ∷ ns) (d ∷ es) n e all has = (all.0, AllHaveWords-push ns es n e all.1 has)

pub AllHaveWords-measured : (ns : List Node) (es : List Expression) → AllHaveWords ns es → list_all is_measured ns ≡ true
AllHaveWords-measured [] es all = refl
AllHaveWords-measured (n ∷ ns) [] all = absurd all
AllHaveWords-measured (n ∷ ns) (e ∷ es) all = and_both (is_measured n) (list_all is_measured ns) all.0.measured (AllHaveWords-measured ns es all.1)

pub tree_of-Cat : (subs : Vec Ere Global) → tree_of (Cat subs) ≡ trees.cat (trees.sequence (map tree_of subs.items))
tree_of-Cat subs = ap tree_of (sym (rolls-Cat subs)) ∙ fold-roll-Ere Tree node_tree (Ere-F.Cat subs)

pub tree_of-Alt : (subs : Vec Ere Global) → tree_of (Alt subs) ≡ trees.alt (trees.sequence (map tree_of subs.items))
tree_of-Alt subs = ap tree_of (sym (rolls-Alt subs)) ∙ fold-roll-Ere Tree node_tree (Ere-F.Alt subs)

pub tree_of-Repeat : (body : Box Ere Global) (min : ℕ) (max : Option ℕ) → tree_of (Repeat body min max) ≡ trees.repeat (tree_of body.value) min max
tree_of-Repeat body min max = ap tree_of (sym (rolls-Repeat body min max)) ∙ fold-roll-Ere Tree node_tree (Ere-F.Repeat body min max)

pub sequence_words-list : (subs : List Ere) → words.cat_all (map pattern_words subs) ≡ sequence_words (trees.sequence (map tree_of subs))
sequence_words-list [] = refl
sequence_words-list (s ∷ subs) = ap (words.cat (pattern_words s)) (sequence_words-list subs)

pub choice_words-list : (subs : List Ere) → words.alt_all (map pattern_words subs) ≡ choice_words (trees.sequence (map tree_of subs))
choice_words-list [] = refl
choice_words-list (s ∷ subs) = ap (words.alt (pattern_words s)) (choice_words-list subs)

pub parts_words-list : (all : List Part) → words.cat_all (map part_words all) ≡ parts_words (map part_of all)
parts_words-list [] = refl
parts_words-list (p ∷ all) = ap (words.cat (part_words p)) (parts_words-list all)

-- one element more
pub more : {X Y : Type 0} (f : X → Y) (xs : List X) (i : ℕ) (x : X) → i < length xs → x ≡ get_or xs i x →
    map f (take (i + 1) xs) ≡ map f (take i xs) ++ f x ∷ []
more f xs i x inside is =
    ap (map f) (take_more xs i x inside ∙ ap (λ y. take i xs ++ y ∷ []) (sym is)) ∙ map-append f (take i xs) (x ∷ [])

-- one more element, and what is computed of that
pub more_of : {X Y Z : Type 0} (g : Y → Z) (f : X → Y) (xs : List X) (i : ℕ) (x : X) → i < length xs → x ≡ get_or xs i x →
    map g (map f (take (i + 1) xs)) ≡ map g (map f (take i xs)) ++ g (f x) ∷ []
more_of g f xs i x inside is = ap (map g) (more f xs i x inside is) ∙ map-append g (map f (take i xs)) (f x ∷ [])

-- two expressions that are one have the same words
pub language_same : {a b : Expression} → a ≡ b → AreSame (Language a) (Language b)
language_same {a = a} e = subst (λ x. AreSame (Language a) (Language x)) e (AreSame-refl (Language a))

pub read-alt_all : (d : Direction) (es : List Expression) → words.alt_all (map (read d) es) ≡ read d (words.alt_all es)
read-alt_all Forward [] = refl
read-alt_all Forward (e ∷ es) = ap (words.alt e) (read-alt_all Forward es)
read-alt_all Backward [] = refl
read-alt_all Backward (e ∷ es) = ap (words.alt (reversed_expression e)) (read-alt_all Backward es)

read-repeat : (d : Direction) (min : ℕ) (max : Option ℕ) (a : Expression) → words.repeat min max (read d a) ≡ read d (words.repeat min max a)
read-repeat Forward min max a = refl
read-repeat Backward min max a = refl

-- a sequence of nodes whose words are read in a direction, in the order of that direction
pub sequence_read : (d : Direction) (ns : List Node) (es : List Expression) → AllHaveWords ns (map (read d) es) →
    AreSame (WordsOf (cat_all (ordered d (map core_of ns)))) (Language (read d (words.cat_all es)))
sequence_read Forward [] [] all = AreSame-refl (Language words.empty)
sequence_read Forward [] (e ∷ es) all = absurd all
sequence_read Forward (n ∷ ns) [] all = absurd all
sequence_read Forward (n ∷ ns) (e ∷ es) all = Cat-same all.0.words (sequence_read Forward ns es all.1)
sequence_read Backward [] [] all = AreSame-refl (Language words.empty)
sequence_read Backward [] (e ∷ es) all = absurd all
sequence_read Backward (n ∷ ns) [] all = absurd all
sequence_read Backward (n ∷ ns) (e ∷ es) all =
    subst (λ rs. AreSame (WordsOf (cat_all rs)) (Language (words.cat (reversed_expression (words.cat_all es)) (reversed_expression e))))
    (sym (reverse-cons (core_of n) (map core_of ns)))
    (AreSame-trans (cat_all-push (reverse (map core_of ns)) (core_of n)) (Cat-same (sequence_read Backward ns es all.1) all.0.words))

-- a compiled sequence, a choice and a compiled repetition of a pattern
module _ (d : Direction) (ere : Ere) (subs : Vec Ere Global) (ns : List Node) (all : AllHaveWords ns (map (read d) (map pattern_words subs.items))) where
  pub compiled_sequence : ere ≡ Cat subs → AreSame (WordsOf (cat_all (ordered d (map core_of ns)))) (Language (read d (pattern_words ere)))
  compiled_sequence e =
      AreSame-trans (sequence_read d ns (map pattern_words subs.items) all)
      (language_same (ap (read d) (sequence_words-list subs.items ∙ sym (ap tree_words (ap tree_of e ∙ tree_of-Cat subs)))))

pub compiled_choice : (d : Direction) (ere : Ere) (subs : Vec Ere Global) → ere ≡ Alt subs →
    AreSame (Language (words.alt_all (map (read d) (map pattern_words subs.items)))) (Language (read d (pattern_words ere)))
compiled_choice d ere subs e =
    language_same (read-alt_all d (map pattern_words subs.items)
    ∙ ap (read d) (choice_words-list subs.items ∙ sym (ap tree_words (ap tree_of e ∙ tree_of-Alt subs))))

pub compiled_repetition : (d : Direction) (ere : Ere) (body : Box Ere Global) (min : ℕ) (max : Option ℕ) (node : Node) → ere ≡ Repeat body min max →
    HasWords (Language (read d (pattern_words body.value))) node → AreSame (Repeats (WordsOf (core_of node)) min max) (Language (read d (pattern_words ere)))
compiled_repetition d ere body min max node e has =
    AreSame-trans (Repeats-same has.words min max)
    (language_same (read-repeat d min max (pattern_words body.value) ∙ ap (read d) (sym (ap tree_words (ap tree_of e ∙ tree_of-Repeat body min max)))))

pub compiled_parts : (d : Direction) (all : List Part) (ns : List Node) → AllHaveWords ns (map (read d) (map part_words all)) →
    AreSame (WordsOf (cat_all (ordered d (map core_of ns)))) (Language (read d (parts_words (map part_of all))))
compiled_parts d all ns has = AreSame-trans (sequence_read d ns (map part_words all) has) (language_same (ap (read d) (parts_words-list all)))

-- compiled nodes with the words of another set that is the same
pub changed : {E : Type 0} {P Q : Word → Type 0} (r : Result Node E) → AreSame P Q → IfOk r (HasWords P) → IfOk r (HasWords Q)
changed (Ok node) s h = record { words = AreSame-trans h.words s; measured = h.measured }
changed (Err e) s h = tt

-- letters
text_words : (cs : List ℕ) → AreSame (WordsOf (cat_all (letter_cores cs))) (Language (words.letters cs))
text_words [] = AreSame-refl (Language words.empty)
text_words (c ∷ cs) = Cat-same (AreSame-refl (Language (words.letter c))) (text_words cs)

text_read : (d : Direction) (cs : List ℕ) → AreSame (WordsOf (cat_all (letter_cores (ordered d cs)))) (Language (read d (words.letters cs)))
text_read Forward cs = text_words cs
text_read Backward [] = AreSame-refl (Language words.empty)
text_read Backward (c ∷ cs) =
    subst (λ rs. AreSame (WordsOf (cat_all rs)) (Language (words.cat (reversed_expression (words.letters cs)) (words.letter c))))
    (sym (ap letter_cores (reverse-cons c cs) ∙ map-append (λ d. one (λ c. c == d)) (reverse cs) (c ∷ [])))
    (AreSame-trans (cat_all-push (letter_cores (reverse cs)) (one (λ d. d == c))) (Cat-same (text_read Backward cs) (AreSame-refl (Language (words.letter c)))))

pub letters_compiled : (d : Direction) (cs items : List ℕ) (node : Node) → items ≡ ordered d cs → IsBuilt (cat_all (letter_cores items)) node →
    HasWords (Language (read d (words.letters cs))) node
letters_compiled d cs items node same built = record {
  words = subst (λ r. AreSame (WordsOf r) (Language (read d (words.letters cs))))
      (sym (built.core ∙ ap (λ x. cat_all (letter_cores x)) same)) (text_read d cs);
  measured = built.measured;
}
