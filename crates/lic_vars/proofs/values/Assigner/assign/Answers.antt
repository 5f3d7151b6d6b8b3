-- The values of a match.
use Rattle.std.proofs.Common.{◌≡◌, ◌+◌, ◌-◌, List, ap, map, refl, sym, subst, ◌∙◌}
use Rattle.std.specs.List.{slice_range}
use Rattle.lic_norm.specs.Tokens.{TokenValue}
use Rattle.lic_vars.specs.Cuts.{moves_of}
use Rattle.lic_vars.specs.Moves.{moves}
use Rattle.lic_vars.specs.Values.{AreValues, nodes_of}
use Rattle.lic_vars.specs.Views.{value_of}
use Rattle.lic_vars.specs.declared.values.Value.{Value}
use Rattle.lic_vars.proofs.AssignLemmas.{assigned, match-can, moves-of, some-tokens, tokens-of}
use Rattle.lic_vars.proofs.NoValueLemmas.{no-values}
use Rattle.lic_vars.proofs.SetLemmas.{ok-then}
use Rattle.lic_vars.proofs.values.Assigner.assign.Goals as goal

pub least_values-requires-clause-can : goal.least_values-requires-clause-can
least_values-requires-clause-can c =
    let own = c.self.inside in
    let v = c.args.self.now in
    let is = c.requires.is_match in
    let tokens = c.args.text.now.tokens in
    let triple = c.args.triple in
    let moved : moves_of own.instructions.items ≡ moves (nodes_of is.known) =
    moves-of own.set.now own.template own.instructions.items v triple.template is.known c.self.invariant c.self.view_is c.requires.template is.number in
    let part : c.of-view.result ≡ slice_range tokens triple.first (triple.last + 1) =
    tokens-of tokens c.of-view.result triple.first triple.last (triple.last - triple.first + 1) is.order refl
    (c.of-view.ensures ∙ ap (λ (l : List TokenValue). slice_range l triple.first (triple.first + (triple.last - triple.first + 1))) c.tokens.ensures) in
    let some = some-tokens tokens c.of-view.result triple.first triple.last is.order is.within part in
    rw c.deref-2.ensures.value
    (match-can v.set tokens c.of-view.result triple is.known own.instructions.items is is.number moved c.tokens_have_texts.ensures some part)

pub returns : goal.returns
returns c =
    let own = c.self.inside in
    let v = c.args.self.now in
    let is = c.requires.is_match in
    let tokens = c.args.text.now.tokens in
    let triple = c.args.triple in
    let moved : moves_of own.instructions.items ≡ moves (nodes_of is.known) =
    moves-of own.set.now own.template own.instructions.items v triple.template is.known c.self.invariant c.self.view_is c.requires.template is.number in
    let part : c.of-view.result ≡ slice_range tokens triple.first (triple.last + 1) =
    tokens-of tokens c.of-view.result triple.first triple.last (triple.last - triple.first + 1) is.order refl
    (c.of-view.ensures ∙ ap (λ (l : List TokenValue). slice_range l triple.first (triple.first + (triple.last - triple.first + 1))) c.tokens.ensures) in
    let some = some-tokens tokens c.of-view.result triple.first triple.last is.order is.within part in
    ok-then c.least_values.result _ _ c.least_values.ensures
    (λ x h.
    let found = rw (c.deref-2.ensures.value, c.deref-3.ensures.value) at h in
    assigned v.set tokens c.of-view.result triple is.known own.instructions.items c.in_ok-letters.letters.items found.numbers
    (map value_of x.items) is.number moved c.tokens_have_texts.ensures some part
    c.in_ok-letters.ensures found.least found.same)

pub returns-then-not-has_variable : goal.returns-then-not-has_variable
returns-then-not-has_variable c =
    let own = c.self.inside in
    let v = c.args.self.now in
    let is = c.requires.is_match in
    let tokens = c.args.text.now.tokens in
    let triple = c.args.triple in
    let moved : moves_of own.instructions.items ≡ moves (nodes_of is.known) =
    moves-of own.set.now own.template own.instructions.items v triple.template is.known c.self.invariant c.self.view_is c.requires.template is.number in
    let none = rw c.deref.ensures.value at (c.has_variable.ensures c.if-not-has_variable.true) in
    subst (λ (x : List Value). AreValues v.set tokens triple (map value_of x)) (sym c.new.ensures.items)
    (no-values v.set tokens triple own.instructions.items is moved none)
