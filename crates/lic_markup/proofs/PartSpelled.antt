-- The parts that items are read into are those of the markup.
use Rattle.std.proofs.Common.{◌≡◌, ℕ, suc, ◌<◌, Bool, true, false, cond, ltb, List, [], ◌∷◌, ◌++◌, length, Option, Some, None, refl, sym, ap, subst, ◌∙◌, append_assoc, append-nil, arith}
use Rattle.std.proofs.lemmas.Bool.Decides.{nat_tests}
use Rattle.lic_markup.specs.Parts as parts
use Rattle.lic_markup.specs.Parts.{Node, sequence}
use Rattle.lic_markup.specs.Reading.{max_depth}
use Rattle.lic_markup.specs.Templates.{Item, letters, variable, begin, finish, AreParts, no_part, no_letters, some_letters, replaceable, optional}

-- letters are a part; none are no part
abbrev pub with_letters : List ℕ → List Node → List Node
with_letters [] ps = ps
with_letters (c ∷ cs) ps = ps ++ parts.letters (c ∷ cs) ∷ []

abbrev pub ended : List Node → List (List Node) → Option (List Node)
ended ps [] = Some ps
ended ps (o ∷ outer) = None

-- the parts of items, after the parts so far, innermost first
unfoldable pub run : List Node → List (List Node) → List Item → Option (List Node)
run ps outer [] = ended ps outer
run ps outer (letters text ∷ is) = run (with_letters text ps) outer is
run ps outer (variable name original tree ∷ is) = run (ps ++ parts.variable name original tree ∷ []) outer is
run ps outer (begin ∷ is) = cond (ltb (length outer) max_depth) (run [] (ps ∷ outer) is) None
run ps [] (finish ∷ is) = None
run ps (o ∷ outer) (finish ∷ is) = run (o ++ parts.optional (sequence ps) ∷ []) outer is

abbrev pub got : List Node → Option (List Node)
got ps = Some ps

pub same : (ps qs : List Node) → got ps ≡ got qs → ps ≡ qs
same ps qs e = ap (λ o. elim o [ Some x ↦ x | None ↦ ps ]) e

-- ---- what is read is spelled

-- the rest of the items: of the innermost optional part, and after its end of those round it
abbrev Completes : List Node → List (List Node) → List Item → List Node → Type 0
Completes ps [] is all = (ns : List Node) × AreParts 0 is ns × (all ≡ ps ++ ns)
Completes ps (o ∷ outer) is all =
    (js : List Item) × (ks : List Item) × (ns : List Node) × (is ≡ js ++ finish ∷ ks)
    × AreParts (suc (length outer)) js ns × Completes (o ++ parts.optional (sequence (ps ++ ns)) ∷ []) outer ks all

-- one more item, which gives some parts
one_item : (i : Item) (ps extra : List Node) (outer : List (List Node)) (is : List Item) (all : List Node)
    → ((depth : ℕ) (js : List Item) (ns : List Node) → AreParts depth js ns → AreParts depth (i ∷ js) (extra ++ ns))
    → Completes (ps ++ extra) outer is all → Completes ps outer (i ∷ is) all
one_item i ps extra [] is all each h = (extra ++ h.0, each _ _ _ h.1, h.2 ∙ append_assoc ps extra h.0)
one_item i ps extra (o ∷ outer) is all each h = (
  i ∷ h.0,
  h.1,
  extra ++ h.2,
  ap (λ l. i ∷ l) h.3,
  each _ _ _ h.4,
  subst (λ l. Completes (o ++ parts.optional (sequence l) ∷ []) outer h.1 all) (append_assoc ps extra h.2) h.5,
)

letters_item : (text : List ℕ) (ps : List Node) (outer : List (List Node)) (is : List Item) (all : List Node)
    → Completes (with_letters text ps) outer is all → Completes ps outer (letters text ∷ is) all
letters_item [] ps outer is all h =
    one_item (letters []) ps [] outer is all (λ depth js ns a. no_letters a)
    (subst (λ l. Completes l outer is all) (sym (append-nil ps)) h)
letters_item (c ∷ cs) ps outer is all h = one_item (letters (c ∷ cs)) ps (parts.letters (c ∷ cs) ∷ []) outer is all (λ depth js ns a. some_letters a) h

begin_item : (ps : List Node) (outer : List (List Node)) (is : List Item) (all : List Node) → length outer < max_depth
    → Completes [] (ps ∷ outer) is all → Completes ps outer (begin ∷ is) all
begin_item ps [] is all small h =
    let opt : Node = parts.optional (sequence h.2) in
    let ms = h.5.0 in
    (opt ∷ ms, subst (λ l. AreParts 0 (begin ∷ l) (opt ∷ ms)) (sym h.3) (optional small h.4 h.5.1), h.5.2 ∙ append_assoc ps (opt ∷ []) ms)
begin_item ps (o ∷ outer) is all small h =
    let opt : Node = parts.optional (sequence h.2) in
    let more = h.5 in
    let js : List Item = begin ∷ (h.0 ++ finish ∷ more.0) in
    let cut : begin ∷ is ≡ js ++ finish ∷ more.1 =
    ap (λ (l : List Item). begin ∷ l) (h.3 ∙ ap (λ (l : List Item). h.0 ++ finish ∷ l) more.3 ∙ sym (append_assoc h.0 (finish ∷ more.0) (finish ∷ more.1))) in (
      js,
      more.1,
      opt ∷ more.2,
      cut,
      optional small h.4 more.4,
      subst (λ l. Completes (o ++ parts.optional (sequence l) ∷ []) outer more.1 all)
          (append_assoc ps (opt ∷ []) more.2) more.5,
    )

abbrev Sound : List Item → Type 0
Sound is = (ps : List Node) (outer : List (List Node)) (all : List Node) → run ps outer is ≡ got all → Completes ps outer is all

begin_by : (is : List Item) → Sound is → (ps : List Node) (outer : List (List Node)) (all : List Node) (t : Bool)
    → ltb (length outer) max_depth ≡ t → cond t (run [] (ps ∷ outer) is) None ≡ got all
    → Completes ps outer (begin ∷ is) all
begin_by is others ps outer all false lt e = absurd cc
begin_by is others ps outer all true lt e =
    let small : length outer < max_depth = grind (arith, nat_tests) in
    begin_item ps outer is all small (others [] (ps ∷ outer) all e)

sound : (is : List Item) → Sound is
unfolding run
sound [] ps [] all e = ([], no_part, sym (same ps all e) ∙ sym (append-nil ps))
sound [] ps (o ∷ outer) all e = absurd cc
sound (letters text ∷ is) ps outer all e = letters_item text ps outer is all (sound is (with_letters text ps) outer all e)
sound (variable name original tree ∷ is) ps outer all e =
    one_item (variable name original tree) ps
    (parts.variable name original tree ∷ []) outer is all (λ depth js ns a. replaceable a)
    (sound is (ps ++ parts.variable name original tree ∷ []) outer all e)
sound (begin ∷ is) ps outer all e = begin_by is (sound is) ps outer all (ltb (length outer) max_depth) refl e
sound (finish ∷ is) ps [] all e = absurd cc
sound (finish ∷ is) ps (o ∷ outer) all e = (
  [],
  is,
  [],
  refl,
  no_part,
  subst (λ l. Completes (o ++ parts.optional (sequence l) ∷ []) outer is all)
      (sym (append-nil ps)) (sound is (o ++ parts.optional (sequence ps) ∷ []) outer all e),
)

pub run_spelled : (is : List Item) (ns : List Node) → run [] [] is ≡ Some ns → AreParts 0 is ns
run_spelled is ns e =
    let all = sound is [] [] ns e in
    subst (AreParts 0 is) (sym all.2) all.1

-- ---- what is spelled is read

spelled_by : {depth : ℕ} {is : List Item} {ns : List Node} → AreParts depth is ns
    → (ps : List Node) (outer : List (List Node)) → length outer ≡ depth → (more : List Item)
    → run ps outer (is ++ more) ≡ run (ps ++ ns) outer more
unfolding run
spelled_by no_part ps outer deep more = ap (λ (l : List Node). run l outer more) (sym (append-nil ps))
spelled_by (no_letters others) ps outer deep more = spelled_by others ps outer deep more
spelled_by (some_letters {c = c} {cs = cs} {ns = ns} others) ps outer deep more =
    spelled_by others (ps ++ parts.letters (c ∷ cs) ∷ []) outer deep more
    ∙ ap (λ (l : List Node). run l outer more) (append_assoc ps (parts.letters (c ∷ cs) ∷ []) ns)
spelled_by (replaceable {name = name} {original = original} {tree = tree} {ns = ns} others) ps outer deep more =
    spelled_by others (ps ++ parts.variable name original tree ∷ []) outer deep more
    ∙ ap (λ (l : List Node). run l outer more) (append_assoc ps (parts.variable name original tree ∷ []) ns)
spelled_by (optional {depth = depth} {is = is} {js = js} {ns = ns} {ms = ms} small inner others) ps outer deep more =
    let opt : Node = parts.optional (sequence ns) in
    let test : ltb (length outer) max_depth ≡ true = grind (arith, nat_tests, deep, small) in
    ap (λ b. cond b (run [] (ps ∷ outer) ((is ++ finish ∷ js) ++ more)) None) test
    ∙ ap (run [] (ps ∷ outer)) (append_assoc is (finish ∷ js) more)
    ∙ spelled_by inner [] (ps ∷ outer) (ap suc deep) (finish ∷ (js ++ more))
    ∙ spelled_by others (ps ++ opt ∷ []) outer deep more
    ∙ ap (λ (l : List Node). run l outer more) (append_assoc ps (opt ∷ []) ms)

pub spelled_run : (is : List Item) (ns : List Node) → AreParts 0 is ns → run [] [] is ≡ Some ns
unfolding run
spelled_run is ns spelled = ap (run [] []) (sym (append-nil is)) ∙ spelled_by spelled [] [] refl []
