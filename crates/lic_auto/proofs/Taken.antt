-- The children that a sequence or a choice has taken so far.
use Rattle.std.proofs.Common.{◌≡◌, ◌<◌, Bool, true, false, ◌||◌, List, [], ◌∷◌, ◌++◌, map, take, length, get_or, Option, Some, None, arith, refl, sym, ap, ◌∙◌, subst, inl, ⊎_elim}
use Rattle.std.specs.List.{list_all}
use Rattle.std.specs.Option.{IfSome, ok_or}
use Rattle.std.specs.Result.{IfOk}
use Rattle.std.proofs.lemmas.List.{length_push, map-append, take_all}
use Rattle.std.proofs.lemmas.List.Folds.{list_all-append}
use Rattle.lic_words.specs.Words.{Word}
use Rattle.lic_words.specs.Expressions.{Expression, Language}
use Rattle.lic_words.specs.Expressions as words
use Rattle.lic_marks.specs.Cores.{Core, WordsOf, cat_all, alt_all}
use Rattle.lic_marks.specs.Marks.{is_nullable}
use Rattle.lic_marks.specs.Rows.{weight}
use Rattle.lic_marks.specs.Nodes.{core_of, is_measured, IsBuilt}
use Rattle.lic_marks.specs.declared.node.Node.{Node}
use Rattle.lic_marks.proofs.Cuts.{and_both}
use Rattle.lic_auto.specs.Compiling.{AreSame, HasWords}
use Rattle.lic_auto.proofs.WordSets.{AreSame-refl, AreSame-sym, AreSame-trans, Either, EmptyIf, IsEmpty, Either-same, Either-reversed_tokens, Either-none, Either-none_left, Either-assoc, EmptyIf-or}
use Rattle.lic_auto.proofs.Sequences.{cat_all-keep, alt_all-push}
use Rattle.lic_auto.proofs.Weightless.{cat_all-leave_out, cat_all-none, weightless, weightless_none, weightless_words}
use Rattle.lic_auto.proofs.Trees.{more}

cores-push : (ns new : List Node) (n : Node) → new ≡ ns ++ n ∷ [] → map core_of new ≡ map core_of ns ++ core_of n ∷ []
cores-push ns new n e = ap (map core_of) e ∙ map-append core_of ns (n ∷ [])

pub measured-push : (ns new : List Node) (n : Node) → new ≡ ns ++ n ∷ [] → list_all is_measured ns ≡ true → is_measured n ≡ true →
    list_all is_measured new ≡ true
measured-push ns new n e h k =
    ap (list_all is_measured) e ∙ list_all-append is_measured ns (n ∷ [])
    ∙ and_both (list_all is_measured ns) _ h (and_both (is_measured n) true k refl)

-- one child is taken
module _ (all ys : List Node) (n : Node) (turn : (length ys < length all) × (n ≡ get_or all (length ys) n)) where
  taken : map core_of (take (length (ys ++ n ∷ [])) all) ≡ map core_of (take (length ys) all) ++ core_of n ∷ []
  taken = ap (λ k. map core_of (take k all)) (length_push ys n) ∙ more core_of all (length ys) n turn.0 turn.1

  module _ (ns : List Node) where
    pub sequence_keeps : (new : List Node) → new ≡ ns ++ n ∷ [] →
        AreSame (WordsOf (cat_all (map core_of ns))) (WordsOf (cat_all (map core_of (take (length ys) all)))) →
        AreSame (WordsOf (cat_all (map core_of new))) (WordsOf (cat_all (map core_of (take (length (ys ++ n ∷ [])) all))))
    sequence_keeps new e same =
        rw (cores-push ns new n e, taken) (cat_all-keep (map core_of ns) (map core_of (take (length ys) all)) (core_of n) same)

    pub sequence_leaves_out : weight (core_of n) ≡ 0 → is_nullable (core_of n) ≡ true →
        AreSame (WordsOf (cat_all (map core_of ns))) (WordsOf (cat_all (map core_of (take (length ys) all)))) →
        AreSame (WordsOf (cat_all (map core_of ns))) (WordsOf (cat_all (map core_of (take (length (ys ++ n ∷ [])) all))))
    sequence_leaves_out light empty_too same =
        rw taken (cat_all-leave_out (map core_of ns) (map core_of (take (length ys) all)) (core_of n) light empty_too same)

  pub sequence_ends : (node : Node) → weight (core_of n) ≡ 0 → is_nullable (core_of n) ≡ false → HasWords (Language words.none) node →
      HasWords (WordsOf (cat_all (map core_of all))) node
  sequence_ends node light never has = record {
    words = AreSame-trans has.words (AreSame-sym (cat_all-none all (length ys) n turn.0 turn.1 (weightless_none (core_of n) light never)));
    measured = has.measured;
  }

-- all children are taken
pub all_taken : (all ys : List Node) → length ys ≡ length all → take (length ys) all ≡ all
all_taken all ys e = take_all (length ys) all (omega (arith, e))

-- the empty word is among the words of a choice
pub choice_with_empty : (ns new : List Node) (n : Node) (b : Bool) (Q : Word → Type 0) → new ≡ ns ++ n ∷ [] → HasWords (Language words.empty) n →
    b ≡ true → AreSame (Either (EmptyIf b) (WordsOf (alt_all (map core_of ns)))) Q → AreSame (WordsOf (alt_all (map core_of new))) Q
choice_with_empty ns new n b Q e has is same =
    rw (cores-push ns new n e)
    (AreSame-trans (alt_all-push (map core_of ns) (core_of n))
    (AreSame-trans (Either-same (AreSame-refl (WordsOf (alt_all (map core_of ns)))) has.words)
    (AreSame-trans (Either-reversed_tokens (WordsOf (alt_all (map core_of ns))) IsEmpty) (rw is at same))))

-- it is not, or by the others
pub choice_without : (P Q : Word → Type 0) (b : Bool) → b ≡ false → AreSame (Either (EmptyIf b) P) Q → AreSame P Q
choice_without P Q b is same = AreSame-trans (AreSame-sym (Either-none_left P)) (rw is at same)

-- ---- a choice of patterns

alternatives-push : (es : List Expression) (e : Expression)
    → AreSame (Language (words.alt_all (es ++ e ∷ []))) (Either (Language (words.alt_all es)) (Language e))
alternatives-push [] e = AreSame-trans (Either-none (Language e)) (AreSame-sym (Either-none_left (Language e)))
alternatives-push (d ∷ es) e =
    AreSame-trans (Either-same (AreSame-refl (Language d)) (alternatives-push es e))
    (AreSame-sym (Either-assoc (Language d) (Language (words.alt_all es)) (Language e)))

-- one pattern more, whose node is kept, or left out but for the empty word
module _ (es more : List Expression) (e : Expression) (ns : List Node) (n : Node) (b : Bool) (grew : more ≡ es ++ e ∷ []) (has : HasWords (Language e) n)
    (same : AreSame (Either (EmptyIf b) (WordsOf (alt_all (map core_of ns)))) (Language (words.alt_all es))) where
  pub choice_keeps : (new : List Node) → new ≡ ns ++ n ∷ [] →
      AreSame (Either (EmptyIf b) (WordsOf (alt_all (map core_of new)))) (Language (words.alt_all more))
  choice_keeps new is =
      rw (cores-push ns new n is, grew)
      (AreSame-trans (Either-same (AreSame-refl (EmptyIf b)) (alt_all-push (map core_of ns) (core_of n)))
      (AreSame-trans (AreSame-sym (Either-assoc (EmptyIf b) (WordsOf (alt_all (map core_of ns))) (WordsOf (core_of n))))
      (AreSame-trans (Either-same same has.words) (AreSame-sym (alternatives-push es e)))))

  pub choice_leaves_out : (d : Bool) → d ≡ is_nullable (core_of n) → weight (core_of n) ≡ 0 →
      AreSame (Either (EmptyIf (b || d)) (WordsOf (alt_all (map core_of ns)))) (Language (words.alt_all more))
  choice_leaves_out d is light =
      rw (is, grew)
      (AreSame-trans (EmptyIf-or (WordsOf (alt_all (map core_of ns))) b (is_nullable (core_of n)))
      (AreSame-trans (Either-same same (AreSame-trans (AreSame-sym (weightless_words (core_of n) light)) has.words)) (AreSame-sym (alternatives-push es e))))

-- ---- the node that was made

-- the body or the empty word, where the body has no letter position
pub optional_light : (r : Core) → weight r ≡ 0 → AreSame IsEmpty (Either IsEmpty (WordsOf r))
optional_light r light = record {
  to = λ w e. inl e;
  from = λ w h. ⊎_elim (λ e. e) (λ v. weightless r light w v) h;
}

-- a node that could be made is the answer
pub node_given : {E : Type 0} (r : Option Node) (e : E) (core : Core) (Q : Word → Type 0) → AreSame (WordsOf core) Q →
    IfSome r (IsBuilt core) → IfOk (ok_or r e) (HasWords Q)
node_given None e core Q same built = tt
node_given (Some node) e core Q same built = record {
  words = subst (λ r. AreSame (WordsOf r) Q) (sym built.core) same;
  measured = built.measured;
}
