use Rattle.std.proofs.Common.{length, ap, ap₂, subst, ◌∙◌, arith}
use Rattle.std.specs.List.{slice_range}
use Rattle.lic_tokens.specs.Places.{place_end, place_start}
use Rattle.lic_tokens.specs.Entries.{IsKept}
use Rattle.lic_tokens.proofs.EntryLemmas.{end_within, start_before_end, text_is, text_utf8}
use Rattle.lic_tokens.proofs.token_list.TokenList.get.Goals as goal

pub slice_bounds-utf8_text-count : goal.slice_bounds-utf8_text-count
slice_bounds-utf8_text-count c =
    let spelling = c.self.inside.spelling.items in
    let entries = c.self.inside.entries in
    let kept = subst (IsKept spelling entries) c.self.view_is c.self.invariant.0 in
    omega (
      arith,
      c.place-start.ensures.start,
      c.place-start.ensures.end,
      start_before_end spelling entries c.args.self.now c.args.i kept c.requires,
    )

pub slice_bounds-utf8_text-start : goal.slice_bounds-utf8_text-start
slice_bounds-utf8_text-start c =
    let spelling = c.self.inside.spelling.items in
    let entries = c.self.inside.entries in
    let kept = subst (IsKept spelling entries) c.self.view_is c.self.invariant.0 in
    omega (
      arith,
      c.place-start.ensures.start,
      c.place-start.ensures.end,
      start_before_end spelling entries c.args.self.now c.args.i kept c.requires,
    )

pub slice_bounds-utf8_text-end : goal.slice_bounds-utf8_text-end
slice_bounds-utf8_text-end c =
    let spelling = c.self.inside.spelling.items in
    let entries = c.self.inside.entries in
    let kept = subst (IsKept spelling entries) c.self.view_is c.self.invariant.0 in
    omega (
      arith,
      c.place-start.ensures.end,
      ap length c.deref.ensures.value,
      end_within spelling entries c.args.self.now c.args.i kept c.requires,
    )

pub utf8_text-requires : goal.utf8_text-requires
utf8_text-requires c =
    let tokens = c.args.self.now in
    let i = c.args.i in
    let spelling = c.self.inside.spelling.items in
    let entries = c.self.inside.entries in
    let kept = subst (IsKept spelling entries) c.self.view_is c.self.invariant.0 in
    text_utf8 spelling entries tokens i kept c.requires _
    (ap₂ (λ m n. slice_range c.deref.result.now m n) c.place-start.ensures.start c.place-start.ensures.end
    ∙ ap (λ l. slice_range l (place_start tokens i) (place_end tokens i)) c.deref.ensures.value)

pub returns-clause-text : goal.returns-clause-text
returns-clause-text c = λ d.
    let tokens = c.args.self.now in
    let i = c.args.i in
    let spelling = c.self.inside.spelling.items in
    let entries = c.self.inside.entries in
    let kept = subst (IsKept spelling entries) c.self.view_is c.self.invariant.0 in
    c.utf8_text.ensures
    ∙ ap₂ (λ m n. slice_range c.deref.result.now m n) c.place-start.ensures.start c.place-start.ensures.end
    ∙ ap (λ l. slice_range l (place_start tokens i) (place_end tokens i)) c.deref.ensures.value
    ∙ text_is spelling entries tokens i kept c.requires d
