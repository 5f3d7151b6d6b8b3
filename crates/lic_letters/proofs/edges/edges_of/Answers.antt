use Rattle.std.proofs.Common.{rules, ℕ, ◌-◌, ◌<◌, ◌≤◌, List, length, get_or}
use Rattle.lic_letters.proofs.TextEnds.{ascii_edges}
use Rattle.lic_letters.proofs.edges.edges_of.Goals as goal

pub returns : goal.returns
returns c =
    let text : List ℕ = c.args.text.now in
    let long : 2 ≤ length text = search rules in
    let first_low : get_or text 0 0 < 128 = search rules in
    let second_low : get_or text 1 0 < 128 = search rules in
    let before_low : get_or text (length text - 2) 0 < 128 = search rules in
    let last_low : get_or text (length text - 1) 0 < 128 = search rules in
    ascii_edges text long first_low second_low before_low last_low
