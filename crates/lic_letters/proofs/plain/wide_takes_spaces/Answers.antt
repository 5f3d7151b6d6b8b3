use Rattle.std.proofs.Common.{◌≡◌, ℕ, List, false, sym, ◌∙◌}
use Rattle.std.specs.Prelude.{chars}
use Rattle.std.specs.Char.{is_whitespace}
use Rattle.lic_letters.proofs.TextEdges.{edges_of}
use Rattle.lic_letters.proofs.plain.wide_takes_spaces.Goals as goal

pub returns : goal.returns
returns c = λ yes utf8.
    let line : List ℕ = c.args.line.now in
    let text : List ℕ = c.trim_ascii.result.now in
    let edges = c.in-Some.edges in
    let are = c.in-Some.ensures in
    let first_dark : is_whitespace edges.first ≡ false = sym c.is_whitespace.ensures ∙ c.if-is_whitespace.false in
    let last_dark : is_whitespace edges.last ≡ false = sym c.is_whitespace-else-is_whitespace.ensures ∙ c.if-is_whitespace-2.false in
    let trimmed = c.trim_ascii.ensures.value in
    c.keeps_all.ensures yes (chars line)
    (edges_of line text trimmed.0 utf8 trimmed.1 trimmed.2 trimmed.4 are.one are.two are.less are.least
    edges.first edges.second edges.before edges.last are.first are.second are.last are.before are.scalar_last are.scalar_before first_dark last_dark)
