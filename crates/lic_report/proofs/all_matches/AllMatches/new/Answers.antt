use Rattle.std.proofs.Common.{◌≡◌, ap, ◌∙◌, sym, subst}
use Rattle.lic_set.specs.Matches.{AreMatches}
use Rattle.lic_report.specs.Found.{found_in}
use Rattle.lic_report.specs.Merging.{merged, with_next}
use Rattle.lic_report.proofs.AllMatchesLemmas.{merged_matches}
use Rattle.lic_report.proofs.MergingLemmas.{with_next-step}
use Rattle.lic_report.proofs.all_matches.AllMatches.new.Goals as goal

-- what there is to give once both next triples are known is what there was
same : (c : goal.After-next_of-next_found)
    → merged (with_next c.next-next_known.result c.next-next_known.new.self)
    (with_next c.next_of-next_found.result (found_in c.next_of-next_found.new.finder))
    ≡ merged c.in_ok-known.known (found_in c.in_ok-finder.finder)
same c =
    ap (λ l. merged l (with_next c.next_of-next_found.result (found_in c.next_of-next_found.new.finder)))
    (with_next-step c.next-next_known.result c.in_ok-known.known c.next-next_known.new.self c.next-next_known.ensures.steps)
    ∙ ap (merged c.in_ok-known.known)
    (with_next-step c.next_of-next_found.result (found_in c.in_ok-finder.finder) (found_in c.next_of-next_found.new.finder) c.next_of-next_found.ensures)

are_matches : (c : goal.After-next_of-next_found) → AreMatches c.args.set.now c.args.text.now.tokens c.args.after
    (merged (with_next c.next-next_known.result c.next-next_known.new.self)
    (with_next c.next_of-next_found.result (found_in c.next_of-next_found.new.finder)))
are_matches c =
    let clauses = c.in_ok-matches.ensures in
    subst (AreMatches c.args.set.now c.args.text.now.tokens c.args.after) (sym (same c))
    (merged_matches c.args.set.now c.args.text.now.tokens c.in_ok-matches.matches.bundles.items c.in_ok-matches.matches.left.items
    clauses.sound clauses.others clauses.complete c.args.after c.in_ok-known.known (found_in c.in_ok-finder.finder) c.in_ok-known.ensures.all
    c.in_ok-finder.ensures.ascending c.in_ok-finder.ensures.exact)

pub returns-clause-all : goal.returns-clause-all
returns-clause-all c = are_matches c

pub returns-clause-only : goal.returns-clause-only
returns-clause-only c = λ others matches.
    c.matches_are_one_list.ensures c.args.set.now c.args.text.now.tokens c.args.after others
    (merged (with_next c.next-next_known.result c.next-next_known.new.self)
    (with_next c.next_of-next_found.result (found_in c.next_of-next_found.new.finder))) matches (are_matches c)

pub new-requires : goal.new-requires
new-requires c = c.in_ok-matches.ensures.once
