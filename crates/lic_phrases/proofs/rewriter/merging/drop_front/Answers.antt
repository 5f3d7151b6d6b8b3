-- One more token is dropped.
use Rattle.std.proofs.Common.{◌<◌, ◌++◌, ℕ, length, drop, take, sym, ap, ◌∙◌, add-one, length-drop, arith}
use Rattle.std.specs.Prelude.{option_to_list}
use Rattle.std.proofs.lemmas.List.{get_or-map, length-map}
use Rattle.lic_lines.specs.Tokens.{tokens_in, token_in}
use Rattle.lic_phrases.specs.Rewriting.{end_of_last}
use Rattle.lic_phrases.proofs.MergingLemmas.{drop_head, end_of_last-more, none_from}
use Rattle.lic_phrases.proofs.rewriter.merging.drop_front.Goals as goal
use Rattle.lic_phrases.proofs.rewriter.merging.drop_front.Goals.{in-Some, in_default}

pub loop-preserved : goal.loop-preserved
loop-preserved c =
    let items = c.args.waiting.now.items in
    let n : ℕ = c.loop.counter in
    let inside : n < length items = omega arith in
    elim c.match-pop_front.branch [
      | in-Some w ↦
          let token = w.in-Some.token in
          let parts = drop_head items c.pop_front.new.self.items n token inside
          (sym c.loop.invariant.left ∙ c.pop_front.ensures.items
          ∙ ap (λ o. option_to_list o ++ c.pop_front.new.self.items) w.in-Some.is) in
          record {
            left = parts.1 ∙ ap (λ k. drop k items) (sym (add-one n));
            ends = λ t same.
                w.end-is ∙ w.end_of-end.ensures
                ∙ sym (ap (λ u. u.end) (get_or-map token_in items n token (token_in token) inside ∙ ap token_in parts.0))
                ∙ sym (end_of_last-more t (tokens_in items) n (token_in token) (omega (arith, length-map items token_in)))
                ∙ ap (λ k. end_of_last t (take k (tokens_in items))) (sym (add-one n));
          }
      | in_default w ↦ absurd (omega (
        arith,
        (rw (none_from c.pop_front.result w.in_default.not-Some) at c.pop_front.ensures.cases).0,
        length-drop n items,
        ap length c.loop.invariant.left,
        inside,
      ))
    ]
