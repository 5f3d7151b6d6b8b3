use Rattle.std.proofs.Common.{◌≡◌, ◌≤◌, ◌∷◌, ◌++◌, [], List, length, map, refl, sym, ap, ◌∙◌, arith}
use Rattle.std.proofs.lemmas.List.{map-append, append-nil}
use Rattle.lic_ere.specs.Located.{located}
use Rattle.lic_elements.specs.declared.elements.Element.TheVariants.{Text}
use Rattle.lic_elements.specs.Pieces.{characters}
use Rattle.lic_elements.specs.Rules.{rule_at}
use Rattle.lic_elements.specs.Elements.{Element, text, element_read}
use Rattle.lic_elements.specs.Signs.{less}
use Rattle.lic_elements.specs.Views.{element_of}
use Rattle.lic_elements.proofs.ElementLemmas.{none_there, some_there, cut_begins, cut_on, cut_rule, cut_ends, others-none, others-some, following-shorter, next-shorter}
use Rattle.lic_elements.proofs.CutSpelled.{read_is_cut, cut_is_read}
use Rattle.lic_elements.proofs.LocatedLemmas.{ends_all, ends_on}
use Rattle.lic_elements.proofs.SignLemmas.{next_sign-shorter}
use Rattle.lic_elements.proofs.elements.pieces_and_rules.Goals as goal

pub loop-sign-init : goal.loop-sign-init
loop-sign-init c = record {
  ends = ends_all c.new-piece.result;
  cut = cut_begins (map element_of c.new-found.result.items) (characters c.new-piece.result) (located c.args.text.now)
      (ap (map element_of) c.new-found.ensures.items) c.new-piece.ensures;
}

pub up_to-requires : goal.up_to-requires
up_to-requires c = ends_on c.loop-sign.piece c.loop-sign.rest c.in-Some.sign c.loop-sign.invariant.ends c.in-Some.ensures.some.ends

pub loop-sign-preserved-in_default-read_tag : goal.loop-sign-preserved-in_default-read_tag
loop-sign-preserved-in_default-read_tag c =
    let next = c.in-Some.ensures.some in
    let inv = c.loop-sign.invariant in
    record {
      ends = ends_on c.loop-sign.piece c.loop-sign.rest c.in-Some.after inv.ends next.ends_after;
      cut = cut_on (map element_of c.loop-sign.found.items) (characters c.loop-sign.piece) (characters c.loop-sign.rest)
          next.front (characters c.in-Some.sign) _ next.parts next.first inv.cut (c.in-Some.sign.offset, less) (characters c.in-Some.after) next.sign
          (none_there _ _ _ c.in_default-read_tag.not-Some (c.read_tag.ensures c.in-Some.sign.offset));
    }

pub loop-sign-smaller-in_default-read_tag : goal.loop-sign-smaller-in_default-read_tag
loop-sign-smaller-in_default-read_tag c = next_sign-shorter c.loop-sign.rest c.in-Some.sign c.in-Some.after c.in-Some.ensures.some

pub returns-in_default-2-clause-exact : goal.returns-in_default-2-clause-exact
returns-in_default-2-clause-exact c =
    let next = c.in-Some.ensures.some in
    let offset = c.in-Some.sign.offset in
    let following = characters c.in-Some-read_tag.following in
    let r = rule_at offset c.in-Some-read_tag.tag following in
    let F = map element_of c.loop-sign.found.items in
    let E = map element_of c.push_rule.new.found.items in
    let now : E ≡ (F ++ text (characters c.up_to.result) ∷ []) ++ element_read r ∷ [] =
    c.in_ok-following.ensures.found ∙ ap (λ (es : List Element). es ++ element_read r ∷ [])
    (ap (map element_of) c.in_ok-push.ensures.items
    ∙ map-append element_of c.loop-sign.found.items (Text c.up_to.result ∷ [])) in
    let all = cut_rule F (characters c.loop-sign.piece) (characters c.loop-sign.rest) next.front (characters c.in-Some.sign) _ next.parts next.first
    c.loop-sign.invariant.cut (offset, less) (characters c.in-Some.after) next.sign E (characters c.up_to.result) c.in-Some-read_tag.tag following
    c.up_to.ensures (some_there _ _ (c.in-Some-read_tag.tag, c.in-Some-read_tag.following) _ c.in-Some-read_tag.is (c.read_tag.ensures offset)) now in
    sym (append-nil E) ∙ ap (λ (es : List Element). E ++ es)
    (sym (others-none following r (none_there _ _ _ c.in_default-2.not-Some c.in_ok-following.ensures.following))) ∙ all

pub returns-in_default-2-clause-cut : goal.returns-in_default-2-clause-cut
returns-in_default-2-clause-cut c =
    read_is_cut (located c.args.text.now) (map element_of c.push_rule.new.found.items) (returns-in_default-2-clause-exact c)

pub returns-in_default-2-clause-only : goal.returns-in_default-2-clause-only
returns-in_default-2-clause-only c es cut =
    cut_is_read (located c.args.text.now) (map element_of c.push_rule.new.found.items) es (returns-in_default-2-clause-exact c) cut

pub loop-sign-preserved : goal.loop-sign-preserved
loop-sign-preserved c =
    let next = c.in-Some.ensures.some in
    let offset = c.in-Some.sign.offset in
    let following = characters c.in-Some-read_tag.following in
    let r = rule_at offset c.in-Some-read_tag.tag following in
    let F = map element_of c.loop-sign.found.items in
    let E = map element_of c.push_rule.new.found.items in
    let now : E ≡ (F ++ text (characters c.up_to.result) ∷ []) ++ element_read r ∷ [] =
    c.in_ok-following.ensures.found ∙ ap (λ (es : List Element). es ++ element_read r ∷ [])
    (ap (map element_of) c.in_ok-push.ensures.items
    ∙ map-append element_of c.loop-sign.found.items (Text c.up_to.result ∷ [])) in
    let all = cut_rule F (characters c.loop-sign.piece) (characters c.loop-sign.rest) next.front (characters c.in-Some.sign) _ next.parts next.first
    c.loop-sign.invariant.cut (offset, less) (characters c.in-Some.after) next.sign E (characters c.up_to.result) c.in-Some-read_tag.tag following
    c.up_to.ensures (some_there _ _ (c.in-Some-read_tag.tag, c.in-Some-read_tag.following) _ c.in-Some-read_tag.is (c.read_tag.ensures offset)) now in
    record {
      ends = ends_all c.in-Some-2.following;
      cut = record {
        front = [];
        parts = refl;
        so_far = ap (λ (es : List Element). E ++ es)
            (sym (others-some following (characters c.in-Some-2.following) r
            (some_there _ _ c.in-Some-2.following _ c.in-Some-2.is c.in_ok-following.ensures.following))) ∙ all;
      };
    }

pub loop-sign-smaller : goal.loop-sign-smaller
loop-sign-smaller c =
    let offset = c.in-Some.sign.offset in
    let following = characters c.in-Some-read_tag.following in
    let one = next_sign-shorter c.loop-sign.rest c.in-Some.sign c.in-Some.after c.in-Some.ensures.some in
    let two : length following ≤ length (characters c.in-Some.after) =
    following-shorter (characters c.in-Some.after) _ c.in-Some-read_tag.tag following
    (some_there _ _ (c.in-Some-read_tag.tag, c.in-Some-read_tag.following) _ c.in-Some-read_tag.is (c.read_tag.ensures offset)) in
    let three : length (characters c.in-Some-2.following) ≤ length following =
    next-shorter following (characters c.in-Some-2.following) (rule_at offset c.in-Some-read_tag.tag following)
    (some_there _ _ c.in-Some-2.following _ c.in-Some-2.is c.in_ok-following.ensures.following) in
    omega (arith, one, two, three)

pub returns-clause-exact : goal.returns-clause-exact
returns-clause-exact c =
    let F = map element_of c.loop-sign.found.items in
    ap (map element_of) c.in_ok-push-2.ensures.items ∙ map-append element_of c.loop-sign.found.items (Text c.loop-sign.piece ∷ [])
    ∙ cut_ends F (characters c.loop-sign.piece) (characters c.loop-sign.rest) _ c.in_default.ensures.none c.loop-sign.invariant.cut

pub returns-clause-cut : goal.returns-clause-cut
returns-clause-cut c = read_is_cut (located c.args.text.now) _ (returns-clause-exact c)

pub returns-clause-only : goal.returns-clause-only
returns-clause-only c es cut = cut_is_read (located c.args.text.now) _ es (returns-clause-exact c) cut
