use Rattle.std.proofs.Common.{◌+◌, ◌-◌, length, ap, ◌∙◌, arith}
use Rattle.lic_columns.specs.Edges.{edges_blanked}
use Rattle.lic_columns.specs.Known.{Known, blanked}
use Rattle.lic_columns.proofs.BlankEdges.{edges_without_spaces}
use Rattle.lic_columns.proofs.FlagLemmas.{length-cleared}
use Rattle.lic_columns.proofs.edges.clear_line.Goals as goal

pub clear-requires-2-clause-word : goal.clear-requires-2-clause-word
clear-requires-2-clause-word c =
    let cut = c.in_ok-found.found.cut in
    let stays = length-cleared (c.args.at + c.in_ok-found.found.front) (c.args.at + (cut.lead + cut.item)) c.args.columns.now.word in
    omega (arith, c.requires.word, ap (λ (k : Known). length k.word) c.clear.ensures, stays)

pub clear-requires-2-clause-mark : goal.clear-requires-2-clause-mark
clear-requires-2-clause-mark c =
    let cut = c.in_ok-found.found.cut in
    let stays = length-cleared (c.args.at + c.in_ok-found.found.front) (c.args.at + (cut.lead + cut.item)) c.args.columns.now.mark in
    omega (arith, c.requires.mark, ap (λ (k : Known). length k.mark) c.clear.ensures, stays)

pub returns : goal.returns
returns c =
    let line = c.args.line.now in
    let known = c.args.columns.now in
    let found = c.in_ok-found.found in
    let end = c.args.at + length line in
    c.clear-2.ensures
    ∙ ap (blanked (end - found.cut.tail) (end - found.end)) c.clear.ensures
    ∙ edges_without_spaces line c.args.at known found.cut found.front found.end c.in_ok-found.ensures.spaces c.in_ok-found.ensures.within c.requires.blank
    ∙ ap (λ cut. edges_blanked cut c.args.at end known) c.in_ok-found.ensures.cut
