use Rattle.std.proofs.Common.{◌-◌, length, ap, ap₂, subst, ◌∙◌, arith}
use Rattle.lic_tokens.specs.Entries.{IsKept, text_from}
use Rattle.lic_tokens.proofs.EntriesBy.{no_entry}
use Rattle.lic_tokens.proofs.EntryLemmas.{AreEntries-length, end_inside, end_is, start_is}
use Rattle.lic_tokens.proofs.token_list.TokenList.place.Goals as goal

pub near_ends-requires : goal.near_ends-requires
near_ends-requires c = omega (arith, c.requires, AreEntries-length _ _ _ c.self.invariant.0.each, ap length c.self.view_is)

pub start_after-requires : goal.start_after-requires
start_after-requires c =
    let spelling = c.self.inside.spelling.items in
    let entries = c.self.inside.entries in
    let kept = subst (IsKept spelling entries) c.self.view_is c.self.invariant.0 in
    omega (
      arith,
      c.in-Some.ensures.before no_entry,
      end_inside spelling entries c.args.self.now c.args.i (c.args.i - 1) no_entry kept (omega (arith, c.in-Some.ensures.some)) c.requires,
    )

pub returns-in-Some-clause-start : goal.returns-in-Some-clause-start
returns-in-Some-clause-start c =
    let spelling = c.self.inside.spelling.items in
    let entries = c.self.inside.entries in
    let kept = subst (IsKept spelling entries) c.self.view_is c.self.invariant.0 in
    c.start_after.ensures
    ∙ ap₂ text_from c.deref.ensures.value (c.in-Some.ensures.before no_entry)
    ∙ start_is spelling entries c.args.self.now c.args.i (c.args.i - 1) no_entry kept (omega (arith, c.in-Some.ensures.some)) c.requires

pub returns-in-Some-clause-end : goal.returns-in-Some-clause-end
returns-in-Some-clause-end c =
    let spelling = c.self.inside.spelling.items in
    let entries = c.self.inside.entries in
    let kept = subst (IsKept spelling entries) c.self.view_is c.self.invariant.0 in
    c.in-Some.ensures.end no_entry ∙ end_is spelling entries c.args.self.now c.args.i kept c.requires no_entry
