-- Letters that are joined to one text.
use Rattle.std.proofs.Common.{◌≡◌, ℕ, ◌==◌, List, [], ◌∷◌, ◌++◌, map, ap, ◌∙◌, subst}
use Rattle.std.proofs.lemmas.List.{map-append}
use Rattle.lic_marks.specs.Cores.{Core, WordsOf, one, cat_all}
use Rattle.lic_marks.specs.Nodes.{core_of, letter_cores, passes}
use Rattle.lic_marks.specs.declared.test.Test.{Test}
use Rattle.lic_marks.specs.declared.test.Test.TheVariants.{Letter}
use Rattle.lic_marks.specs.declared.node.Node.{Node}
use Rattle.lic_auto.specs.Compiling.{AreSame}
use Rattle.lic_auto.proofs.WordSets.{AreSame-refl, AreSame-sym, AreSame-trans, Cat-same, Cat-assoc, Cat-empty_right}
use Rattle.lic_auto.proofs.Sequences.{cat_all-push}

-- sequences that differ in the last child alone, by a child with the same words
same_end : (rs : List Core) (a b : Core) → AreSame (WordsOf a) (WordsOf b) → AreSame (WordsOf (cat_all (rs ++ a ∷ []))) (WordsOf (cat_all (rs ++ b ∷ [])))
same_end rs a b same =
    AreSame-trans (cat_all-push rs a)
    (AreSame-trans (Cat-same (AreSame-refl (WordsOf (cat_all rs))) same) (AreSame-sym (cat_all-push rs b)))

cores_end : (ns : List Node) (n : Node) → map core_of (ns ++ n ∷ []) ≡ map core_of ns ++ core_of n ∷ []
cores_end ns n = map-append core_of ns (n ∷ [])

module _ (ns : List Node) where
  -- the last child is a letter
  pub letter_taken : (test : Test) (letter : ℕ) (text : List ℕ) → test ≡ Letter letter → text ≡ letter ∷ [] →
      AreSame (WordsOf (cat_all (map core_of ns ++ cat_all (letter_cores text) ∷ []))) (WordsOf (cat_all (map core_of ns ++ one (passes test) ∷ [])))
  letter_taken test letter text is e =
      rw (is, e) (same_end (map core_of ns) (cat_all (one (λ c. c == letter) ∷ [])) (one (λ c. c == letter))
      (Cat-empty_right (WordsOf (one (λ c. c == letter)))))

  -- it is put after the others, and the text is empty
  pub nothing_taken : (new : List Node) (last : Node) (text : List ℕ) → new ≡ ns ++ last ∷ [] → text ≡ [] →
      AreSame (WordsOf (cat_all (map core_of new ++ cat_all (letter_cores text) ∷ []))) (WordsOf (cat_all (map core_of (ns ++ last ∷ []))))
  nothing_taken new last text e none =
      rw (e, none) (AreSame-trans (cat_all-push (map core_of (ns ++ last ∷ [])) (cat_all []))
      (Cat-empty_right (WordsOf (cat_all (map core_of (ns ++ last ∷ []))))))

  -- the same of a node that is made of a core
  pub core_put : (new : List Node) (node : Node) (core : Core) (text : List ℕ) → core_of node ≡ core → new ≡ ns ++ node ∷ [] → text ≡ [] →
      AreSame (WordsOf (cat_all (map core_of new ++ cat_all (letter_cores text) ∷ []))) (WordsOf (cat_all (map core_of ns ++ core ∷ [])))
  core_put new node core text is e none =
      subst (λ cs. AreSame (WordsOf (cat_all (map core_of new ++ cat_all (letter_cores text) ∷ []))) (WordsOf (cat_all cs)))
      (cores_end ns node ∙ ap (λ r. map core_of ns ++ r ∷ []) is) (nothing_taken new node text e none)

-- a letter more in the text at the end
letter_more : (rs qs : List Core) (text : List ℕ) (letter : ℕ) →
    AreSame (WordsOf (cat_all (rs ++ cat_all (letter_cores text) ∷ []))) (WordsOf (cat_all qs)) →
    AreSame (WordsOf (cat_all (rs ++ cat_all (letter_cores (text ++ letter ∷ [])) ∷ []))) (WordsOf (cat_all (qs ++ one (λ c. c == letter) ∷ [])))
letter_more rs qs text letter same =
    let last = one (λ c. c == letter) in
    let more : letter_cores (text ++ letter ∷ []) ≡ letter_cores text ++ last ∷ [] = map-append (λ d. one (λ c. c == d)) text (letter ∷ []) in
    rw more
    (AreSame-trans (cat_all-push rs (cat_all (letter_cores text ++ last ∷ [])))
    (AreSame-trans (Cat-same (AreSame-refl (WordsOf (cat_all rs))) (cat_all-push (letter_cores text) last))
    (AreSame-trans (AreSame-sym (Cat-assoc (WordsOf (cat_all rs)) (WordsOf (cat_all (letter_cores text))) (WordsOf last)))
    (AreSame-trans (Cat-same (AreSame-sym (cat_all-push rs (cat_all (letter_cores text)))) (AreSame-refl (WordsOf last)))
    (AreSame-trans (Cat-same same (AreSame-refl (WordsOf last))) (AreSame-sym (cat_all-push qs last)))))))

-- the text with the letter comes after the others
pub letter_joined : (ns old new : List Node) (node child : Node) (text : List ℕ) (letter : ℕ) → new ≡ ns ++ node ∷ [] →
    core_of node ≡ cat_all (letter_cores (text ++ letter ∷ [])) → core_of child ≡ one (λ c. c == letter) →
    AreSame (WordsOf (cat_all (map core_of ns ++ cat_all (letter_cores text) ∷ []))) (WordsOf (cat_all (map core_of old))) →
    AreSame (WordsOf (cat_all (map core_of new))) (WordsOf (cat_all (map core_of (old ++ child ∷ []))))
letter_joined ns old new node child text letter e is letter_is same =
    rw (e, cores_end ns node, cores_end old child, is, letter_is) (letter_more (map core_of ns) (map core_of old) text letter same)
