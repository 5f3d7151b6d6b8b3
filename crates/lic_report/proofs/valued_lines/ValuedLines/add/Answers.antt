use Rattle.std.proofs.Common.{rules, ◌≡◌, List, ◌++◌, ◌∙◌, Some, ap, map, subst, sym}
use Rattle.std.specs.List.{All}
use Rattle.lic_norm.specs.Tokens.{TokenValue}
use Rattle.lic_tokens.specs.declared.token.Span.{Span}
use Rattle.lic_vars.specs.Values.{AreValues}
use Rattle.lic_vars.specs.Views.{value_of}
use Rattle.lic_report.specs.Prefixes.{Named}
use Rattle.lic_report.specs.Report.{match_line}
use Rattle.lic_report.proofs.ValueLemmas.{Fits, values_fit, valued_line}
use Rattle.lic_report.proofs.valued_lines.ValuedLines.add.Goals as goal

pub add_values-requires : goal.add_values-requires
add_values-requires c =
    let here : c.deref.result.now ≡ c.in_ok-values.values.items = search rules in
    subst (λ l. All (λ value. (s : Span) → value.span ≡ Some s → Fits c.args.text.now.source s) l) (sym here)
    (values_fit c.args.text.now.source c.self.inside.assigners c.args.text.now.tokens c.args.triple c.in_ok-values.values.items c.values_run_over_tokens.ensures
    c.tokens_have_spans.ensures c.requires.within c.in_ok-values.ensures.values)

pub returns-clause-lines : goal.returns-clause-lines
returns-clause-lines c =
    let here : c.deref.result.now ≡ c.in_ok-values.values.items = search rules in
    let own : Named = c.args.self.now in
    let tokens : List TokenValue = c.args.text.now.tokens in
    let view : c.self.inside.matches ≡ own = c.self.view_is in
    let same : c.self.inside.assigners ≡ own.set = sym c.self.invariant ∙ ap (λ (of : Named). of.set) view in
    let line : c.add.new.lines.items ≡ c.args.lines.now.items ++ match_line own.name own.set tokens c.args.triple =
    c.in_ok-add.ensures.line ∙ ap (λ (of : Named). c.args.lines.now.items ++ match_line of.name of.set tokens c.args.triple) view in
    valued_line c.add_values.result own.name own.set c.args.text.now.source tokens c.args.triple
    c.args.lines.now.items c.add.new.lines.items c.add_values.new.lines.items c.in_ok-values.values.items c.deref.result.now here
    (subst (λ set. AreValues set tokens c.args.triple (map value_of c.in_ok-values.values.items)) same c.in_ok-values.ensures.values)
    line c.add_values.ensures
