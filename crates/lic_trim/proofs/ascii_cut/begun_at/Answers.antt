use Rattle.std.proofs.Common.{◌≡◌, ◌+◌, ◌∙◌, drop, get_or, sym, ap, length-drop, arith}
use Rattle.std.proofs.lemmas.List.{get_or-drop}
use Rattle.lic_kind.proofs.BeginningLemmas.{some_weaker}
use Rattle.lic_trim.specs.Walks.{walked}
use Rattle.lic_trim.proofs.Walking.{length-walked}
use Rattle.lic_trim.proofs.ascii_cut.begun_at.Goals as goal

pub returns : goal.returns
returns c =
    let line = walked c.args.side c.args.line.now in
    let index = c.args.index in
    let many = length-walked c.args.side c.args.line.now in
    let long = length-drop index line in
    let start : index + 0 ≡ index = omega arith in
    some_weaker c.begun_texts.result _ _ (λ mask is. is (drop index line) (record {
      some = omega (arith, many, long);
      first = c.byte_at-first.ensures ∙ ap (λ k. get_or line k 0) (sym start) ∙ sym (get_or-drop index line 0 0);
      second = λ more. c.byte_after-second.ensures (omega (arith, many, long)) ∙ sym (get_or-drop index line 1 0);
    })) c.begun_texts.ensures
