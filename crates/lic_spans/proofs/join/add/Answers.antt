-- The span is put alone after the others, or makes the last one longer.
use Rattle.std.proofs.Common.{◌≡◌, ◌↔◌, ◌⊎◌, ◌+◌, ◌-◌, ◌∙◌, [], ◌∷◌, ◌++◌, ap, arith, length, subst, sym}
use Rattle.lic_spans.specs.Spans.{AreBefore, FitsKind, Holds}
use Rattle.std.specs.List.{All}
use Rattle.std.proofs.lemmas.List.Elements.{All-push}
use Rattle.lic_spans.specs.Sweeps.{IsSettled}
use Rattle.lic_spans.proofs.Settling.{Holds-push, IsSettled-push, Holds-joined_last, IsSettled-joined_last, Fits-joined_last, not_joined_last}
use Rattle.lic_spans.proofs.Lasts.{AreBefore-first, AreBefore-joined_last, AreBefore-not_joined, empty_list}
use Rattle.lic_spans.proofs.join.add.Goals as goal
use Rattle.lic_spans.proofs.join.add.Goals.{else-count-gt0-via-then-count-gt0+else-join, else-count-gt0-via-else-count-gt0}

pub returns-then-join-clause-holds : goal.returns-then-join-clause-holds
returns-then-join-clause-holds c =
    let long = c.args.spans.now.ok.0 in
    let here : c.len-count.result - 1 + 1 ≡ length c.args.spans.now.items = omega arith in
    Holds-joined_last c.args.spans.now.items (c.len-count.result - 1) c.index_mut.result.now c.join.new.before c.args.span c.join.result
    here c.index_mut.ensures.value c.join.ensures.continued c.join.ensures.length c.if-join.true

pub returns-then-join-clause-settled : goal.returns-then-join-clause-settled
returns-then-join-clause-settled c =
    let long = c.args.spans.now.ok.0 in
    let here : c.len-count.result - 1 + 1 ≡ length c.args.spans.now.items = omega arith in
    IsSettled-joined_last c.args.spans.now.items (c.len-count.result - 1) c.index_mut.result.now c.join.new.before c.args.span c.join.result
    here c.index_mut.ensures.value c.join.ensures.continued c.join.ensures.length c.requires c.if-join.true

pub returns-then-join-clause-fits : goal.returns-then-join-clause-fits
returns-then-join-clause-fits c =
    let long = c.args.spans.now.ok.0 in
    let here : c.len-count.result - 1 + 1 ≡ length c.args.spans.now.items = omega arith in
    Fits-joined_last c.args.spans.now.items (c.len-count.result - 1) c.index_mut.result.now c.join.new.before c.args.span c.join.result
    here c.index_mut.ensures.value c.join.ensures.continued c.join.ensures.length c.if-join.true

-- where the span continues none, the list stays as it was until it is pushed
stays : (c : goal.In_ok-push) → c.else-count-gt0.spans.items ≡ c.args.spans.now.items
stays c =
    let long = c.args.spans.now.ok.0 in
    elim c.else-count-gt0.branch [
      | else-count-gt0-via-then-count-gt0+else-join w ↦
          let here : c.len-count.result - 1 + 1 ≡ length c.args.spans.now.items = omega arith in
          ap (λ v. v.items) w.spans-is
          ∙ not_joined_last c.args.spans.now.items (c.len-count.result - 1) w.index_mut.result.now w.join.new.before c.args.span w.join.result
          here w.index_mut.ensures.value w.join.ensures.continued w.join.ensures.length w.if-join.false
      | else-count-gt0-via-else-count-gt0 w ↦ ap (λ v. v.items) w.spans-is
    ]

pushed : (c : goal.In_ok-push) → c.push.new.self.items ≡ c.args.spans.now.items ++ c.args.span ∷ []
pushed c = c.in_ok-push.ensures.items ∙ ap (λ xs. xs ++ c.args.span ∷ []) (stays c)

pub returns-clause-holds : goal.returns-clause-holds
returns-clause-holds c = λ k p l.
    subst (λ xs. Holds xs k p l ↔ (Holds c.args.spans.now.items k p l ⊎ Holds (c.args.span ∷ []) k p l)) (sym (pushed c))
    (Holds-push c.args.spans.now.items c.args.span k p l)

pub returns-clause-settled : goal.returns-clause-settled
returns-clause-settled c = λ h.
    subst (λ xs. IsSettled xs c.args.span.kind (c.args.span.high + 1)) (sym (pushed c))
    (IsSettled-push c.args.spans.now.items c.args.span c.requires h)

pub returns-clause-fits : goal.returns-clause-fits
returns-clause-fits c = λ one all. subst (All FitsKind) (sym (pushed c)) (All-push FitsKind c.args.spans.now.items c.args.span all one)

pub returns-then-join-clause-before : goal.returns-then-join-clause-before
returns-then-join-clause-before c =
    let long = c.args.spans.now.ok.0 in
    let here : c.len-count.result - 1 + 1 ≡ length c.args.spans.now.items = omega arith in
    AreBefore-joined_last c.args.spans.now.items (c.len-count.result - 1) c.index_mut.result.now c.join.new.before c.args.span c.join.result
    here c.index_mut.ensures.value c.join.ensures.continued c.join.ensures.length c.if-join.true

-- a span that continues none ends after those before it
alone : (c : goal.In_ok-push) → AreBefore c.args.spans.now.items c.args.span → AreBefore (c.args.spans.now.items ++ c.args.span ∷ []) c.args.span
alone c before =
    let long = c.args.spans.now.ok.0 in
    elim c.else-count-gt0.branch [
      | else-count-gt0-via-then-count-gt0+else-join w ↦
          let here : c.len-count.result - 1 + 1 ≡ length c.args.spans.now.items = omega arith in
          AreBefore-not_joined c.args.spans.now.items (c.len-count.result - 1) w.index_mut.result.now w.join.new.before c.args.span w.join.result
          here w.index_mut.ensures.value w.join.ensures.continued w.join.ensures.length w.if-join.false before
      | else-count-gt0-via-else-count-gt0 w ↦
          let none : c.args.spans.now.items ≡ [] = empty_list c.args.spans.now.items (omega (arith, w.if-count-gt0.false, c.len-count.ensures)) in
          subst (λ xs. AreBefore (xs ++ c.args.span ∷ []) c.args.span) (sym none) (AreBefore-first c.args.span)
    ]

pub returns-clause-before : goal.returns-clause-before
returns-clause-before c = λ before. subst (λ xs. AreBefore xs c.args.span) (sym (pushed c)) (alone c before)
