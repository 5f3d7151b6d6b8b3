use Rattle.std.proofs.Common.{◌≡◌, ℕ, ◌+◌, ◌<◌, length, refl, ap, ◌∙◌, arith}
use Rattle.std.specs.Prelude.{slice_range}
use Rattle.lic_trim.specs.Lines.{cut_of, whole_line}
use Rattle.lic_columns.specs.Edges.{edges_blanked}
use Rattle.lic_kind.specs.LineRules.{rules_of}
use Rattle.lic_columns.proofs.EdgesOfLines.{IsNextLine, next_line, start_cleared, line_cleared, line_blank, line_within, all_cleared}
use Rattle.lic_columns.proofs.edges.clear_lines.Goals as goal

pub loop-at-init : goal.loop-at-init
loop-at-init c = start_cleared (rules_of c.args.rules.now) c.args.text.now c.args.columns.now c.requires.ascii c.requires.read

pub loop-at-preserved : goal.loop-at-preserved
loop-at-preserved c =
    let text = c.args.text.now in
    let at : ℕ = c.loop-at.at in
    let end : ℕ = c.line_end-end.result in
    let old = c.loop-at.columns in
    let are = c.loop-at.invariant in
    let found = c.line_end-end.ensures in
    let more : at < length text = c.loop-at-test.true in
    let next : IsNextLine text at end = next_line text old.feed at end are.feed more found.after found.within found.one found.ended in
    let rules = rules_of c.args.rules.now in
    let line = slice_range text at end in
    let whole : at + length line ≡ end = omega (arith, next.some, next.long) in
    line_cleared rules text at end old c.clear_line.new.columns (cut_of rules whole_line line) are next refl
    (c.in_ok-clear_line.ensures ∙ ap (λ n. edges_blanked (cut_of rules whole_line line) at n old) whole)

pub clear_line-requires-clause-blank : goal.clear_line-requires-clause-blank
clear_line-requires-clause-blank c =
    let text = c.args.text.now in
    let at : ℕ = c.loop-at.at in
    let end : ℕ = c.line_end-end.result in
    let old = c.loop-at.columns in
    let are = c.loop-at.invariant in
    let found = c.line_end-end.ensures in
    let more : at < length text = c.loop-at-test.true in
    line_blank (rules_of c.args.rules.now) text at end old are
    (next_line text old.feed at end are.feed more found.after found.within found.one found.ended)

pub clear_line-requires-clause-fits : goal.clear_line-requires-clause-fits
clear_line-requires-clause-fits c =
    let text = c.args.text.now in
    let at : ℕ = c.loop-at.at in
    let end : ℕ = c.line_end-end.result in
    let old = c.loop-at.columns in
    let are = c.loop-at.invariant in
    let found = c.line_end-end.ensures in
    let more : at < length text = c.loop-at-test.true in
    let next : IsNextLine text at end = next_line text old.feed at end are.feed more found.after found.within found.one found.ended in
    omega (arith, next.some, next.within, next.long, c.requires.fits)

pub clear_line-requires-clause-word : goal.clear_line-requires-clause-word
clear_line-requires-clause-word c =
    let text = c.args.text.now in
    let at : ℕ = c.loop-at.at in
    let end : ℕ = c.line_end-end.result in
    let old = c.loop-at.columns in
    let are = c.loop-at.invariant in
    let found = c.line_end-end.ensures in
    let more : at < length text = c.loop-at-test.true in
    (line_within (rules_of c.args.rules.now) text at end old are
    (next_line text old.feed at end are.feed more found.after found.within found.one found.ended)).0

pub clear_line-requires-clause-mark : goal.clear_line-requires-clause-mark
clear_line-requires-clause-mark c =
    let text = c.args.text.now in
    let at : ℕ = c.loop-at.at in
    let end : ℕ = c.line_end-end.result in
    let old = c.loop-at.columns in
    let are = c.loop-at.invariant in
    let found = c.line_end-end.ensures in
    let more : at < length text = c.loop-at-test.true in
    (line_within (rules_of c.args.rules.now) text at end old are
    (next_line text old.feed at end are.feed more found.after found.within found.one found.ended)).1

pub returns : goal.returns
returns c = all_cleared (rules_of c.args.rules.now) c.args.text.now c.loop-at.at c.loop-at.columns c.loop-at.invariant c.loop-at-test.false
