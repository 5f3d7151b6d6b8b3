-- The pieces and rules that a template is cut into are those of the markup.
use Rattle.std.proofs.Common.{◌≡◌, ℕ, zero, suc, ◌+◌, List, [], ◌∷◌, ◌++◌, drop, Option, Some, None, Result, Ok, Err, refl, sym, ap, subst, ◌∙◌, append_assoc, append-nil}
use Rattle.std.proofs.lemmas.List.{drop-drop}
use Rattle.lic_ere.specs.Located.{Located, further}
use Rattle.lic_elements.specs.declared.rule.tag.Tag.{Tag}
use Rattle.lic_elements.specs.declared.fault.MarkupFault.{MarkupFault}
use Rattle.lic_elements.specs.Texts.{offset_of}
use Rattle.lic_elements.specs.Faults.{map_ok}
use Rattle.lic_elements.specs.Rules.{Rule, tag_at, rule_at}
use Rattle.lic_elements.specs.Elements.{Element, text, rule, refused, and_then, elements}
use Rattle.lic_elements.specs.Markup.{IsRule, BeginsRule}
use Rattle.lic_elements.specs.RuleFaults.{IsRuleFault}
use Rattle.lic_elements.specs.Cut as all
use Rattle.lic_elements.specs.Cut.{HasNoRule, AreElements}
use Rattle.lic_elements.specs.CutFaults.{AreCut, last, further as one_further, unreadable}
use Rattle.lic_elements.proofs.RuleLemmas.{read}
use Rattle.lic_elements.proofs.ElementLemmas.{step, elements-step, elements-skipped, elements-end}
use Rattle.lic_elements.proofs.TagSpelled.{there, tag_spelled, tag_read}
use Rattle.lic_elements.proofs.Spelled.{got, empty_no, head_same, tail_same, read_was}
use Rattle.lic_elements.proofs.RuleSpelled.{rule_spelled, rule_read}
use Rattle.lic_elements.proofs.RuleFaultSpelled.{rule_faulty}
use Rattle.lic_elements.proofs.RuleFaultRead.{rule_refused}

-- ---- where a rule begins

none_is_some : {A : Type 0} (x : A) → None ≡ there x → ⊥
none_is_some x e = cc

begins_none : (x : Located) (rest : List Located) → tag_at x rest ≡ None → BeginsRule (x ∷ rest) → ⊥
begins_none x rest none begins =
    let was = tag_read (x ∷ rest) begins.0 begins.1 begins.2 in
    none_is_some (begins.1, was.taken)
    (sym none ∙ (λ i. tag_at (head_same x was.first rest was.after was.all i) (tail_same x was.first rest was.after was.all i)) ∙ was.read)

none_begins : (x : Located) (rest : List Located) → (BeginsRule (x ∷ rest) → ⊥) → tag_at x rest ≡ None
none_begins x rest never = by_tag (tag_at x rest) refl
  where
    by_tag : (o : Option (Tag × ℕ)) → tag_at x rest ≡ o → o ≡ None
    by_tag None is = refl
    by_tag (Some t) is = absurd (never (drop t.1 rest, t.0, tag_spelled x rest t.0 t.1 is))

no_rule-nil : (following : List Located) → HasNoRule [] following
no_rule-nil following before x after e = absurd (empty_no before x after e)

no_rule-cons : (x : Located) (piece following : List Located) → (BeginsRule (x ∷ (piece ++ following)) → ⊥) → HasNoRule piece following → HasNoRule (x ∷ piece) following
no_rule-cons x piece following never more [] y after e begins = never (subst BeginsRule (ap (λ (l : List Located). l ++ following) (sym e)) begins)
no_rule-cons x piece following never more (z ∷ before) y after e begins = more before y after (tail_same x z piece (before ++ y ∷ after) e) begins

no_rule-tail : (x : Located) (piece following : List Located) → HasNoRule (x ∷ piece) following → HasNoRule piece following
no_rule-tail x piece following none before y after e = none (x ∷ before) y after (ap (λ l. x ∷ l) e)

-- ---- a piece that grows at its start

onto : List Located → List Element → List Element
onto front [] = []
onto front (text piece ∷ es) = text (front ++ piece) ∷ es
onto front (rule r ∷ es) = rule r ∷ es
onto front (refused e ∷ es) = refused e ∷ es

onto-onto : (one two : List Located) (es : List Element) → onto one (onto two es) ≡ onto (one ++ two) es
unfolding onto
onto-onto one two [] = refl
onto-onto one two (text piece ∷ es) = ap (λ p. text p ∷ es) (sym (append_assoc one two piece))
onto-onto one two (rule r ∷ es) = refl
onto-onto one two (refused e ∷ es) = refl

step-onto : (piece : List Located) (x : Located) (rest : List Located) (t : Option (Tag × ℕ))
    → ((p : List Located) → elements p 0 rest ≡ onto p (elements [] 0 rest))
    → step piece x rest t ≡ onto piece (step [] x rest t)
unfolding onto
step-onto piece x rest None others =
    others (piece ++ x ∷ []) ∙ sym (onto-onto piece (x ∷ []) (elements [] 0 rest)) ∙ ap (onto piece) (sym (others (x ∷ [])))
step-onto piece x rest (Some t) others =
    ap (λ p. text p ∷ and_then (map_ok (further t.1) (rule_at x.0 t.0 (drop t.1 rest))) (λ taken.
    elements [] taken rest)) (sym (append-nil piece))

elements-onto : (xs piece : List Located) → elements piece 0 xs ≡ onto piece (elements [] 0 xs)
unfolding onto
elements-onto [] piece = elements-end piece [] refl ∙ ap (λ p. text p ∷ []) (sym (append-nil piece)) ∙ ap (onto piece) (sym (elements-end [] [] refl))
elements-onto (x ∷ xs) piece =
    elements-step piece x xs ∙ step-onto piece x xs (tag_at x xs) (elements-onto xs) ∙ ap (onto piece) (sym (elements-step [] x xs))

-- ---- what is cut is spelled

grow : (x : Located) {cs : List Located} {es : List Element} → (BeginsRule (x ∷ cs) → ⊥) → AreCut cs es → AreCut (x ∷ cs) (onto (x ∷ []) es)
unfolding onto
grow x never (last {piece = piece} none) = last (no_rule-cons x piece [] (λ begins. never (subst (λ l. BeginsRule (x ∷ l)) (append-nil piece) begins)) none)
grow x never (one_further {piece = piece} {following = following} is none r others) =
    one_further (ap (λ l. x ∷ l) is) (no_rule-cons x piece following (λ begins. never (subst (λ l. BeginsRule (x ∷ l)) (sym is) begins)) none) r others
grow x never (unreadable {piece = piece} {following = following} is none fault) =
    unreadable (ap (λ l. x ∷ l) is) (no_rule-cons x piece following (λ begins. never (subst (λ l. BeginsRule (x ∷ l)) (sym is) begins)) none) fault

-- the rules and pieces that are cut, from after some characters
abbrev Cut : List Located → Type 0
Cut xs = (n : ℕ) → AreCut (drop n xs) (elements [] n xs)

plain_cut : (x : Located) (xs : List Located) → tag_at x xs ≡ None → Cut xs → AreCut (x ∷ xs) (elements (x ∷ []) 0 xs)
plain_cut x xs none others = subst (AreCut (x ∷ xs)) (sym (elements-onto xs (x ∷ []))) (grow x (begins_none x xs none) (others 0))

rule_cut : (x : Located) (xs : List Located) (tag : Tag) (n : ℕ) → tag_at x xs ≡ Some (tag, n) → Cut xs
    → (r : Result (Rule × ℕ) MarkupFault) → rule_at x.0 tag (drop n xs) ≡ r
    → AreCut (x ∷ xs) (text [] ∷ and_then (map_ok (further n) r) (λ taken. elements [] taken xs))
rule_cut x xs tag n is others (Err e) was =
    unreadable refl (no_rule-nil (x ∷ xs)) (rule_faulty (x ∷ xs) (drop n xs) tag e (tag_spelled x xs tag n is) was)
rule_cut x xs tag n is others (Ok y) was =
    let rest : List Located = drop (n + y.1) xs in
    let spelled : IsRule (x ∷ xs) rest y.0 =
    rule_spelled x.0 tag (x ∷ xs) (drop n xs) rest y.0 refl (tag_spelled x xs tag n is)
    (ap (read (drop n xs)) was ∙ ap (λ (l : List Located). got y.0 l) (drop-drop y.1 n xs)) in
    one_further refl (no_rule-nil (x ∷ xs)) spelled (others (n + y.1))

tag_cut : (x : Located) (xs : List Located) (t : Option (Tag × ℕ)) → tag_at x xs ≡ t → Cut xs → AreCut (x ∷ xs) (step [] x xs t)
tag_cut x xs None is others = plain_cut x xs is others
tag_cut x xs (Some t) is others = rule_cut x xs t.0 t.1 is others (rule_at x.0 t.0 (drop t.1 xs)) refl

cut : (xs : List Located) → Cut xs
unfolding elements
cut [] zero = last (no_rule-nil [])
cut [] (suc n) = last (no_rule-nil [])
cut (x ∷ xs) (suc n) = cut xs n
cut (x ∷ xs) zero = tag_cut x xs (tag_at x xs) refl (cut xs)

pub elements_are_cut : (cs : List Located) → AreCut cs (elements [] 0 cs)
elements_are_cut cs = cut cs 0

-- no rule is refused
unfoldable pub NotRefused : List Element → Type 0
NotRefused [] = Unit {0}
NotRefused (text piece ∷ es) = NotRefused es
NotRefused (rule r ∷ es) = NotRefused es
NotRefused (refused e ∷ es) = ⊥

all_read : {cs : List Located} {es : List Element} → AreCut cs es → NotRefused es → AreElements cs es
unfolding NotRefused
all_read (last none) h = all.last none
all_read (one_further is none r others) h = all.further is none r (all_read others h)
all_read (unreadable is none fault) h = absurd h

pub elements_spelled : (cs : List Located) → NotRefused (elements [] 0 cs) → AreElements cs (elements [] 0 cs)
elements_spelled cs h = all_read (elements_are_cut cs) h

-- ---- what is spelled is cut so

plain_elements : (piece following front : List Located) → HasNoRule piece following → elements front 0 (piece ++ following) ≡ elements (front ++ piece) 0 following
plain_elements [] following front none = ap (λ (p : List Located). elements p 0 following) (sym (append-nil front))
plain_elements (x ∷ piece) following front none =
    elements-step front x (piece ++ following)
    ∙ ap (step front x (piece ++ following)) (none_begins x (piece ++ following) (none [] x piece refl))
    ∙ plain_elements piece following (front ++ x ∷ []) (no_rule-tail x piece following none)
    ∙ ap (λ (p : List Located). elements p 0 following) (append_assoc front (x ∷ []) piece)

rule_elements : (piece following rest : List Located) (r : Rule) → IsRule following rest r → elements piece 0 following ≡ text piece ∷ rule r ∷ elements [] 0 rest
rule_elements piece following rest r is =
    let one = rule_read is in
    let two = tag_read following one.following one.tag one.is in
    let three = read_was one.following (rule_at (offset_of following) one.tag one.following) r rest one.read in
    let gives : rule_at two.first.0 one.tag (drop two.taken two.after) ≡ Ok (r, three.0) =
    (λ i. rule_at (offset_of (sym two.all i)) one.tag (two.rest i)) ∙ three.1 in
    ap (elements piece 0) two.all
    ∙ elements-step piece two.first two.after
    ∙ ap (step piece two.first two.after) two.read
    ∙ ap (λ (m : Result (Rule × ℕ) MarkupFault). text piece ∷ and_then (map_ok (further two.taken) m) (λ taken. elements [] taken two.after)) gives
    ∙ ap (λ es. text piece ∷ rule r ∷ es)
    (elements-skipped [] (two.taken + three.0) two.after
    ∙ ap (elements [] 0) (sym (drop-drop three.0 two.taken two.after) ∙ ap (λ (l : List Located). drop three.0 l) two.rest ∙ three.2))

fault_elements : (piece following : List Located) (e : MarkupFault) → IsRuleFault following e → elements piece 0 following ≡ text piece ∷ refused e ∷ []
fault_elements piece following e is =
    let one = rule_refused is in
    let two = tag_read following one.following one.tag one.is in
    let gives : rule_at two.first.0 one.tag (drop two.taken two.after) ≡ Err e =
    (λ i. rule_at (offset_of (sym two.all i)) one.tag (two.rest i)) ∙ one.refuses in
    ap (elements piece 0) two.all
    ∙ elements-step piece two.first two.after
    ∙ ap (step piece two.first two.after) two.read
    ∙ ap (λ (m : Result (Rule × ℕ) MarkupFault). text piece ∷ and_then (map_ok (further two.taken) m) (λ taken. elements [] taken two.after)) gives

pub cut_elements : {cs : List Located} {es : List Element} → AreCut cs es → elements [] 0 cs ≡ es
cut_elements (last {piece = piece} none) =
    ap (elements [] 0) (sym (append-nil piece)) ∙ plain_elements piece [] [] none ∙ elements-end piece [] refl
cut_elements (one_further {piece = piece} {following = following} {rest = rest} {r = r} is none spelled others) =
    ap (elements [] 0) is ∙ plain_elements piece following [] none ∙ rule_elements piece following rest r spelled
    ∙ ap (λ es. text piece ∷ rule r ∷ es) (cut_elements others)
cut_elements (unreadable {piece = piece} {following = following} {e = e} is none fault) =
    ap (elements [] 0) is ∙ plain_elements piece following [] none ∙ fault_elements piece following e fault

are_cut : {cs : List Located} {es : List Element} → AreElements cs es → AreCut cs es
are_cut (all.last none) = last none
are_cut (all.further is none r others) = one_further is none r (are_cut others)

-- what is cut as it is read is what the markup says, and nothing else is
pub read_is_cut : (cs : List Located) (es : List Element) → es ≡ elements [] 0 cs → AreCut cs es
read_is_cut cs es is = subst (AreCut cs) (sym is) (elements_are_cut cs)

pub cut_is_read : (cs : List Located) (es others : List Element) → es ≡ elements [] 0 cs → AreCut cs others → es ≡ others
cut_is_read cs es others is cut = is ∙ cut_elements cut

pub elements_cut : {cs : List Located} {es : List Element} → AreElements cs es → elements [] 0 cs ≡ es
elements_cut is = cut_elements (are_cut is)
