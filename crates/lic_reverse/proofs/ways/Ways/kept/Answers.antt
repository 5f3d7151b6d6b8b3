use Rattle.lic_reverse.specs.declared.ways.Ways.{Ways}
use Rattle.lic_reverse.specs.Tidily.{a_blank, a_letter, nothing, spans_of}
use Rattle.lic_view.specs.Backward.{IsBack}
use Rattle.lic_reverse.proofs.TakenCases.{by_taken}
use Rattle.lic_reverse.proofs.TidyBack.{IsEmptyWord, back-kept_same, tidy-each}
use Rattle.lic_reverse.proofs.ways.Ways.kept.Goals as goal

pub kept-requires : goal.kept-requires
kept-requires c = rw c.replace-nothing.ensures.value (c.requires nothing)

pub kept-requires-2 : goal.kept-requires-2
kept-requires-2 c = rw c.replace-letter.ensures.value (c.requires a_letter)

pub kept-requires-3 : goal.kept-requires-3
kept-requires-3 c = rw c.replace-blank.ensures.value (c.requires a_blank)

pub returns : goal.returns
returns c =
    let tokens = c.args.view.now in
    let texts = c.tokens_have_texts.ensures in
    let found : Ways = record { nothing = c.in_ok-kept.field-0; letter = c.in_ok-kept-2.field-0; blank = c.in_ok-kept-3.field-0 } in
    tidy-each c.args.keep tokens (spans_of c.args.self) (spans_of found)
    (by_taken (λ s. IsBack c.args.keep tokens IsEmptyWord (spans_of c.args.self s) (spans_of found s))
    (back-kept_same c.args.keep tokens c.args.self.nothing.items c.in_ok-kept.field-0.items texts (c.requires nothing) (rw c.replace-nothing.ensures.value at c.in_ok-kept.ensures))
    (back-kept_same c.args.keep tokens c.args.self.letter.items c.in_ok-kept-2.field-0.items texts (c.requires a_letter) (rw c.replace-letter.ensures.value at c.in_ok-kept-2.ensures))
    (back-kept_same c.args.keep tokens c.args.self.blank.items c.in_ok-kept-3.field-0.items texts (c.requires a_blank) (rw c.replace-blank.ensures.value at c.in_ok-kept-3.ensures)))
