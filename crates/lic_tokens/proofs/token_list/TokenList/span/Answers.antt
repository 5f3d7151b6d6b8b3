use Rattle.std.proofs.Common.{ℕ, length, ap, ap₂, subst, ◌∙◌, arith}
use Rattle.lic_tokens.specs.Entries.{IsKept}
use Rattle.lic_tokens.specs.declared.token.Span.{Span}
use Rattle.lic_tokens.proofs.EntriesBy.{no_entry}
use Rattle.lic_tokens.proofs.EntryLemmas.{AreEntries-length, span_is}
use Rattle.lic_tokens.proofs.token_list.TokenList.span.Goals as goal

pub source-source-requires : goal.source-source-requires
source-source-requires c = omega (arith, c.requires, AreEntries-length _ _ _ c.self.invariant.0.each, ap length c.self.view_is)

pub returns : goal.returns
returns c = λ d.
    let spelling = c.self.inside.spelling.items in
    let entries = c.self.inside.entries in
    let kept = subst (IsKept spelling entries) c.self.view_is c.self.invariant.0 in
    ap₂ (λ (m n : ℕ). let span : Span = record { start = m; end = n } in span) (c.source-source.ensures.start no_entry) (c.source-source.ensures.end no_entry)
    ∙ span_is spelling entries c.args.self.now c.args.i kept c.requires no_entry d
