-- Cutting a template into pieces and rules, one after another.
use Rattle.std.proofs.Common.{◌≡◌, ◌≤◌, ℕ, zero, suc, ◌+◌, Bool, true, false, ◌||◌, ◌==◌, List, [], ◌∷◌, ◌++◌, length, drop, Option, Some, None, Result, Ok, Err, refl, sym, ap, ◌∙◌, append_assoc, append-nil, arith}
use Rattle.std.specs.Option.{option_map}
use Rattle.std.proofs.lemmas.List.{drop-drop, length-drop}
use Rattle.lic_ere.specs.Located.{Located, with_remaining, further}
use Rattle.lic_elements.specs.declared.rule.tag.Tag.{Tag}
use Rattle.lic_elements.specs.declared.fault.MarkupFault.{MarkupFault}
use Rattle.lic_elements.specs.declared.fault.MarkupCause.{MarkupCause}
use Rattle.lic_elements.specs.declared.fault.MarkupCause.TheVariants.{OutOfMemory}
use Rattle.lic_elements.specs.Faults.{fault_at, map_ok, Fails}
use Rattle.lic_elements.specs.Signs.{less}
use Rattle.lic_elements.specs.Pieces.{has_sign}
use Rattle.lic_elements.specs.Rules.{Rule, tag_at, rule_at}
use Rattle.lic_elements.specs.Elements.{Element, text, rule, rule_after, and_then, elements, element_read, after_rule}
use Rattle.lic_elements.proofs.LocatedLemmas.{same_front}

-- a fault that is not lack of memory is what reading meets
pub Fails-lasting : {A : Type 0} (cause : MarkupCause) (offset : ℕ) (r : Result A MarkupFault)
    → (cause ≡ OutOfMemory → ⊥) → Fails cause offset r → r ≡ Err (fault_at offset cause)
Fails-lasting OutOfMemory offset r lasting h = absurd (lasting refl)
Fails-lasting cause offset r lasting h = h

pub elements-skipped : (piece : List Located) (n : ℕ) (xs : List Located) → elements piece n xs ≡ elements piece 0 (drop n xs)
unfolding elements
elements-skipped piece zero xs = refl
elements-skipped piece (suc n) [] = refl
elements-skipped piece (suc n) (x ∷ xs) = elements-skipped piece n xs

-- what an answer of the code that is no `Some`, or one that is, says of what it represents
pub none_there : {A B : Type 0} (f : A → B) (o : Option A) (t : Option B) → ((x : A) → o ≡ Some x → ⊥) → option_map f o ≡ t → t ≡ None
none_there f None t never is = sym is
none_there f (Some x) t never is = absurd (never x refl)

pub some_there : {A B : Type 0} (f : A → B) (o : Option A) (x : A) (t : Option B) → o ≡ Some x → option_map f o ≡ t → Some (f x) ≡ t
some_there f o x t here is = sym (ap (option_map f) here) ∙ is

-- the elements from a character on, by whether a rule begins there
abbrev pub step : List Located → Located → List Located → Option (Tag × ℕ) → List Element
step piece x after t = elim t [
  | None ↦ elements (piece ++ x ∷ []) 0 after
  | Some tag ↦ text piece ∷ and_then (rule_after x after tag) (λ taken. elements [] taken after)
]

pub elements-step : (piece : List Located) (x : Located) (after : List Located) → elements piece 0 (x ∷ after) ≡ step piece x after (tag_at x after)
unfolding elements
elements-step piece x after = refl

-- what comes after a rule that was read
abbrev pub others : List Located → Result (Rule × ℕ) MarkupFault → List Element
others rest (Ok read) = elements [] 0 (drop read.1 rest)
others rest (Err e) = []

rule_turn : (x : Located) (after : List Located) (n : ℕ) (r : Result (Rule × ℕ) MarkupFault)
    → and_then (map_ok (further n) r) (λ taken. elements [] taken after) ≡ element_read r ∷ others (drop n after) r
rule_turn x after n (Ok y) = ap (λ es. rule y.0 ∷ es) (elements-skipped [] (n + y.1) after ∙ ap (elements [] 0) (sym (drop-drop y.1 n after)))
rule_turn x after n (Err e) = refl

step-tagged : (piece : List Located) (x : Located) (after : List Located) (tag : Tag) (following : List Located)
    (t : Option (Tag × ℕ)) → Some (tag, following) ≡ option_map (with_remaining after) t
    → step piece x after t ≡ text piece ∷ element_read (rule_at x.0 tag following) ∷ others following (rule_at x.0 tag following)
step-tagged piece x after tag following None is = absurd cc
step-tagged piece x after tag following (Some t) is =
    let one : t.0 ≡ tag = ap (λ (o : Option (Tag × List Located)). elim o [ Some y ↦ y.0 | None ↦ tag ]) (sym is) in
    let two : drop t.1 after ≡ following = ap (λ (o : Option (Tag × List Located)). elim o [ Some y ↦ y.1 | None ↦ following ]) (sym is) in
    ap (λ es. text piece ∷ es) (rule_turn x after t.1 (rule_at x.0 t.0 (drop t.1 after)))
    ∙ (λ i. text piece ∷ element_read (rule_at x.0 (one i) (two i)) ∷ others (two i) (rule_at x.0 (one i) (two i)))

step-plain : (piece : List Located) (x : Located) (after : List Located) (t : Option (Tag × ℕ))
    → option_map (with_remaining after) t ≡ None → step piece x after t ≡ elements (piece ++ x ∷ []) 0 after
step-plain piece x after None is = refl
step-plain piece x after (Some t) is = absurd cc

-- the last piece
pub elements-end : (piece rest : List Located) → length rest ≡ 0 → elements piece 0 rest ≡ text piece ∷ []
unfolding elements
elements-end piece [] none = refl
elements-end piece (x ∷ rest) none = absurd (omega arith)

-- no rule begins with another character than `<`
neither : (a b : Bool) → (a || b) ≡ false → (a ≡ false) × (b ≡ false)
neither true b h = absurd cc
neither false b h = (refl, h)

no_tag : (x : Located) (rest : List Located) → (x.1 == less) ≡ false → tag_at x rest ≡ None
unfolding tag_at
no_tag x rest h = rw h refl

pub plain_sequence : (front plain following : List Located) → has_sign plain ≡ false
    → elements front 0 (plain ++ following) ≡ elements (front ++ plain) 0 following
plain_sequence front [] following none = ap (λ (p : List Located). elements p 0 following) (sym (append-nil front))
plain_sequence front (x ∷ plain) following none =
    let two = neither (x.1 == less) (has_sign plain) none in
    elements-step front x (plain ++ following)
    ∙ ap (step front x (plain ++ following)) (no_tag x (plain ++ following) two.0)
    ∙ plain_sequence (front ++ x ∷ []) plain following two.1
    ∙ ap (λ (p : List Located). elements p 0 following) (append_assoc front (x ∷ []) plain)

-- ---- the loop

-- the elements so far, and those from the rest of a piece on, are all
pub record HasCut (found : List Element) (piece rest : List Located) (total : List Element) : Type 0 where
  pub front : List Located
  pub parts : front ++ rest ≡ piece
  pub so_far : found ++ elements front 0 rest ≡ total

pub cut_begins : (found : List Element) (piece all : List Located) → found ≡ [] → piece ≡ all → HasCut found piece piece (elements [] 0 all)
cut_begins found piece all none is = record { front = []; parts = refl; so_far = λ i. none i ++ elements [] 0 (is i) }

module _ (found : List Element) (piece rest plain here : List Located) (total : List Element) (parts : rest ≡ plain ++ here)
    (none : has_sign plain ≡ false) (cut : HasCut found piece rest total) where
  -- up to a `<`
  cut_to : HasCut found piece here total
  cut_to =
      let f = cut.front in
      record {
        front = f ++ plain;
        parts = append_assoc f plain here ∙ ap (λ l. f ++ l) (sym parts) ∙ cut.parts;
        so_far = ap (λ es. found ++ es) (sym (plain_sequence f plain here none))
            ∙ ap (λ (l : List Located). found ++ elements f 0 l) (sym parts) ∙ cut.so_far;
      }

  module _ (x : Located) (after : List Located) (is : here ≡ x ∷ after) where
    -- over a `<` at which no rule begins
    pub cut_on : option_map (with_remaining after) (tag_at x after) ≡ None → HasCut found piece after total
    cut_on other =
        let f = cut_to.front in
        record {
          front = f ++ x ∷ [];
          parts = append_assoc f (x ∷ []) after ∙ ap (λ l. f ++ l) (sym is) ∙ cut_to.parts;
          so_far = ap (λ es. found ++ es) (sym (elements-step f x after ∙ step-plain f x after (tag_at x after) other))
              ∙ ap (λ (l : List Located). found ++ elements f 0 l) (sym is) ∙ cut_to.so_far;
        }

    -- a piece and the rule after it
    pub cut_rule : (now : List Element) (front : List Located) (tag : Tag) (following : List Located) → front ++ here ≡ piece
        → Some (tag, following) ≡ option_map (with_remaining after) (tag_at x after)
        → now ≡ (found ++ text front ∷ []) ++ element_read (rule_at x.0 tag following) ∷ []
        → now ++ others following (rule_at x.0 tag following) ≡ total
    cut_rule now front tag following before tagged pushed =
        let r : Result (Rule × ℕ) MarkupFault = rule_at x.0 tag following in
        ap (λ es. es ++ others following r) pushed
        ∙ append_assoc (found ++ text front ∷ []) (element_read r ∷ []) (others following r)
        ∙ append_assoc found (text front ∷ []) (element_read r ∷ others following r)
        ∙ ap (λ es. found ++ es) (sym (elements-step front x after ∙ step-tagged front x after tag following (tag_at x after) tagged))
        ∙ ap (λ (l : List Located). found ++ elements front 0 l) (sym is)
        ∙ ap (λ (p : List Located). found ++ elements p 0 here) (same_front front cut_to.front here piece before cut_to.parts)
        ∙ cut_to.so_far

-- the last piece
pub cut_ends : (found : List Element) (piece rest : List Located) (total : List Element) → has_sign rest ≡ false
    → HasCut found piece rest total → found ++ text piece ∷ [] ≡ total
cut_ends found piece rest total none cut =
    let f = cut.front in
    ap (λ p. found ++ text p ∷ []) (sym cut.parts)
    ∙ ap (λ es. found ++ es)
    (sym (ap (λ (l : List Located). elements f 0 l) (sym (append-nil rest)) ∙ plain_sequence f rest [] none ∙ elements-end (f ++ rest) [] refl))
    ∙ cut.so_far

pub others-none : (rest : List Located) (r : Result (Rule × ℕ) MarkupFault) → after_rule rest r ≡ None → others rest r ≡ []
others-none rest (Ok y) is = absurd cc
others-none rest (Err e) is = refl

pub others-some : (rest next : List Located) (r : Result (Rule × ℕ) MarkupFault) → Some next ≡ after_rule rest r → others rest r ≡ elements [] 0 next
others-some rest next (Ok y) is = ap (λ (o : Option (List Located)). elements [] 0 (elim o [ Some l ↦ l | None ↦ next ])) (sym is)
others-some rest next (Err e) is = absurd cc

-- what follows is not longer than what was read
pub following-shorter : {A : Type 0} (rest : List Located) (t : Option (A × ℕ)) (a : A) (following : List Located)
    → Some (a, following) ≡ option_map (with_remaining rest) t → length following ≤ length rest
following-shorter rest None a following is = absurd cc
following-shorter {A = A} rest (Some y) a following is =
    let two : following ≡ drop y.1 rest = ap (λ (o : Option (A × List Located)). elim o [ Some z ↦ z.1 | None ↦ following ]) is in
    omega (arith, ap length two, length-drop y.1 rest)

pub next-shorter : (rest next : List Located) (r : Result (Rule × ℕ) MarkupFault) → Some next ≡ after_rule rest r → length next ≤ length rest
next-shorter rest next (Err e) is = absurd cc
next-shorter rest next (Ok y) is =
    let two : next ≡ drop y.1 rest = ap (λ (o : Option (List Located)). elim o [ Some z ↦ z | None ↦ next ]) is in
    omega (arith, ap length two, length-drop y.1 rest)
