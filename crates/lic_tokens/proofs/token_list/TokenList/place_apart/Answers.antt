use Rattle.std.proofs.Common.{◌-◌, length, ap, ap₂, subst, ◌∙◌, arith}
use Rattle.lic_tokens.specs.Entries.{IsKept, text_from}
use Rattle.lic_tokens.proofs.EntriesBy.{no_entry}
use Rattle.lic_tokens.proofs.EntryLemmas.{AreEntries-length, end_inside, end_is, first_start, start_is}
use Rattle.lic_tokens.proofs.token_list.TokenList.place_apart.Goals as goal

pub text_end-end-requires : goal.text_end-end-requires
text_end-end-requires c = omega (arith, c.requires, AreEntries-length _ _ _ c.self.invariant.0.each, ap length c.self.view_is)

pub text_end-requires : goal.text_end-requires
text_end-requires c = omega (arith, c.requires, AreEntries-length _ _ _ c.self.invariant.0.each, ap length c.self.view_is)

pub start_after-requires : goal.start_after-requires
start_after-requires c =
    let spelling = c.self.inside.spelling.items in
    let entries = c.self.inside.entries in
    let kept = subst (IsKept spelling entries) c.self.view_is c.self.invariant.0 in
    omega (
      arith,
      c.text_end.ensures no_entry,
      end_inside spelling entries c.args.self.now c.args.i (c.args.i - 1) no_entry kept (omega (arith, c.if-i-eq0.false)) c.requires,
    )

pub returns-then-i-eq0-clause-start : goal.returns-then-i-eq0-clause-start
returns-then-i-eq0-clause-start c = first_start c.args.self.now c.args.i c.if-i-eq0.true c.requires

pub returns-then-i-eq0-clause-end : goal.returns-then-i-eq0-clause-end
returns-then-i-eq0-clause-end c =
    let spelling = c.self.inside.spelling.items in
    let entries = c.self.inside.entries in
    let kept = subst (IsKept spelling entries) c.self.view_is c.self.invariant.0 in
    c.text_end-end.ensures no_entry ∙ end_is spelling entries c.args.self.now c.args.i kept c.requires no_entry

pub returns-clause-start : goal.returns-clause-start
returns-clause-start c =
    let spelling = c.self.inside.spelling.items in
    let entries = c.self.inside.entries in
    let kept = subst (IsKept spelling entries) c.self.view_is c.self.invariant.0 in
    c.start_after.ensures
    ∙ ap₂ text_from c.deref.ensures.value (c.text_end.ensures no_entry)
    ∙ start_is spelling entries c.args.self.now c.args.i (c.args.i - 1) no_entry kept (omega (arith, c.if-i-eq0.false)) c.requires

pub returns-clause-end : goal.returns-clause-end
returns-clause-end c =
    let spelling = c.self.inside.spelling.items in
    let entries = c.self.inside.entries in
    let kept = subst (IsKept spelling entries) c.self.view_is c.self.invariant.0 in
    c.text_end-end.ensures no_entry ∙ end_is spelling entries c.args.self.now c.args.i kept c.requires no_entry
