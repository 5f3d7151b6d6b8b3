use Rattle.std.proofs.Common.{◌≡◌, ◌+◌, refl, sym, subst, arith}
use Rattle.lic_auto.specs.Runs.{numbers_of}
use Rattle.lic_find.specs.Remaining.{cursor_of}
use Rattle.lic_find.specs.Starts.{starts_in}
use Rattle.lic_find.specs.Scans.{letters_up_to, IsNextOfRange}
use Rattle.lic_find.proofs.Scanning.{NoneHasRange-before, NoneHasRange-least, IsNext-least}
use Rattle.lic_find.proofs.finder.Finder.accepted.Goals as goal

pub returns-in_err-from : goal.returns-in_err-from
returns-in_err-from c = λ come.
    let f = c.args.self.now in
    let tokens = f.text.now.tokens in
    let ends : c.in_ok-last.last + 1 ≡ f.end = omega (arith, c.in_ok-last.ensures) in
    subst (IsNextOfRange f.set.now tokens (numbers_of f.run) (cursor_of f) f.first f.end) (sym c.from_residual-in_err-from.ensures)
    (NoneHasRange-before f.set.now tokens (cursor_of f) f.run (starts_in f.starts) f.first f.end come c.in_ok-last.last ends c.in_err-from.ensures.none)

pub returns-in_err-template : goal.returns-in_err-template
returns-in_err-template c = λ come.
    let f = c.args.self.now in
    let tokens = f.text.now.tokens in
    let ends : c.in_ok-last.last + 1 ≡ f.end = omega (arith, c.in_ok-last.ensures) in
    subst (IsNextOfRange f.set.now tokens (numbers_of f.run) (cursor_of f) f.first f.end) (sym c.from_residual-in_err-template.ensures)
    (NoneHasRange-least f.set.now tokens (cursor_of f) f.run
    (starts_in f.starts) f.first f.end come c.in_ok-last.last ends c.in_ok-from.from c.in_ok-from.ensures.some
    (c.in_err-template.ensures.among come.numbers (letters_up_to tokens f.first f.end) come.taken))

pub returns : goal.returns
returns c = λ come.
    let f = c.args.self.now in
    let tokens = f.text.now.tokens in
    let ends : c.in_ok-last.last + 1 ≡ f.end = omega (arith, c.in_ok-last.ensures) in (
      refl,
      ends,
      IsNext-least f.set.now tokens (cursor_of f) f.run
          (starts_in f.starts) f.first f.end come c.in_ok-last.last ends c.in_ok-from.from c.in_ok-from.ensures.some
          c.in_ok-template.template (c.in_ok-template.ensures.among come.numbers (letters_up_to tokens f.first f.end) come.taken),
    )
