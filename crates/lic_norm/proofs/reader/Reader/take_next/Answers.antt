use Rattle.std.proofs.Common.{◌≡◌, ◌≢◌, ◌⊎◌, ◌+◌, ◌≤◌, All, length, take, drop, length-drop, ap, ap₂, sym, subst, ◌∙◌, arith}
use Rattle.std.specs.List.{slice_range}
use Rattle.lic_kind.specs.LineRules.{rules_of}
use Rattle.lic_norm.specs.Feeding.{AreLines}
use Rattle.lic_norm.specs.LineEnds.{IsFirstLine}
use Rattle.lic_rewriting.specs.Taking.{HasTaken}
use Rattle.lic_norm.specs.Tokens.{first_tokens_of}
use Rattle.lic_norm.specs.declared.reader.Reader.{Reader}
use Rattle.lic_norm.proofs.LineCuts.{first_line-ends}
use Rattle.lic_norm.proofs.ReaderLemmas.{ended_lines, more_lines, read_on, rest_line, searched_rest, some_rest}
use Rattle.lic_norm.proofs.reader.Reader.take_next.Goals as goal

pub overflow_add-lines : goal.overflow_add-lines
overflow_add-lines c =
    let at = c.args.self.now.line_start in
    let here = c.deref.result.now in
    let rest = searched_rest here c.args.self.now.source.items at c.deref.ensures.value in
    omega (arith, c.lines_end.ensures.within, ap length rest, length-drop at c.args.self.now.source.items, c.requires.fits, c.requires.read.within)

pub overflow_add-line : goal.overflow_add-line
overflow_add-line c =
    let at = c.args.self.now.line_start in
    let sources = c.take_front.ensures.source ∙ c.take_ascii.ensures.source in
    let rest = searched_rest c.deref-2.result.now c.args.self.now.source.items at (c.deref-2.ensures.value ∙ sources) in
    omega (arith, c.line_end.ensures.within, ap length rest, length-drop at c.args.self.now.source.items, c.requires.fits, c.requires.read.within)

pub take_ascii-requires-clause-within : goal.take_ascii-requires-clause-within
take_ascii-requires-clause-within c =
    let at = c.args.self.now.line_start in
    let here = c.deref.result.now in
    let rest = searched_rest here c.args.self.now.source.items at c.deref.ensures.value in
    omega (arith, c.lines_end.ensures.within, ap length rest, length-drop at c.args.self.now.source.items, c.requires.read.within)

pub take_any_line-requires-clause-read : goal.take_any_line-requires-clause-read
take_any_line-requires-clause-read c = c.in_ok-take_front.ensures.read

pub take_any_line-requires-clause-order : goal.take_any_line-requires-clause-order
take_any_line-requires-clause-order c =
    let same = c.in_ok-take_ascii.ensures.other c.if-branch.false in
    omega (arith, ap (λ (r : Reader). r.line_start) same, c.in_ok-take_front.ensures.start c.if-branch-2.false)

pub take_any_line-requires-clause-within : goal.take_any_line-requires-clause-within
take_any_line-requires-clause-within c =
    let at = c.args.self.now.line_start in
    let sources = c.take_front.ensures.source ∙ c.take_ascii.ensures.source in
    let rest = searched_rest c.deref-2.result.now c.args.self.now.source.items at (c.deref-2.ensures.value ∙ sources) in
    omega (
      arith,
      c.line_end.ensures.within,
      ap length rest,
      length-drop at c.args.self.now.source.items,
      c.requires.read.within,
      ap length c.take_ascii.ensures.source,
      ap length c.take_front.ensures.source,
    )

pub take_any_line-requires-clause-fits : goal.take_any_line-requires-clause-fits
take_any_line-requires-clause-fits c =
    omega (arith, c.requires.fits, ap length c.take_ascii.ensures.source, ap length c.take_front.ensures.source)

pub take_any_line-requires-clause-line : goal.take_any_line-requires-clause-line
take_any_line-requires-clause-line c =
    let self = c.args.self.now in
    let at = self.line_start in
    let source = self.source.items in
    let n = c.line_end.result in
    let there = c.take_front.new.self in
    let starts : there.line_start ≡ at =
    c.in_ok-take_front.ensures.start c.if-branch-2.false ∙ ap (λ (r : Reader). r.line_start) (c.in_ok-take_ascii.ensures.other c.if-branch.false) in
    let sources : there.source.items ≡ source = c.take_front.ensures.source ∙ c.take_ascii.ensures.source in
    let rest = searched_rest c.deref-2.result.now source at (c.deref-2.ensures.value ∙ c.take_front.ensures.source ∙ c.take_ascii.ensures.source) in
    subst (λ k. IsFirstLine (slice_range there.source.items k (at + n)) (drop (at + n) there.source.items)) (sym starts)
    (subst (λ l. IsFirstLine (slice_range l at (at + n)) (drop (at + n) l)) (sym sources)
    (rest_line source at n (subst (λ l. IsFirstLine (take n l) (drop n l)) rest c.line_end.ensures.line)))

pub returns-clause-read : goal.returns-clause-read
returns-clause-read c =
    let self = c.args.self.now in
    let at = self.line_start in
    let source = self.source.items in
    let n = c.line_end.result in
    let new = c.take_any_line.new.self in
    let rest = searched_rest c.deref-2.result.now source at (c.deref-2.ensures.value ∙ c.take_front.ensures.source ∙ c.take_ascii.ensures.source) in
    let first = subst (λ l. IsFirstLine (take n l) (drop n l)) rest c.line_end.ensures.line in
    let within : at + n ≤ length source = omega (arith, c.line_end.ensures.within, ap length rest, length-drop at source, c.requires.read.within) in
    let rules = c.take_front.ensures.rules ∙ c.take_ascii.ensures.rules in
    let sources = c.take_front.ensures.source ∙ c.take_ascii.ensures.source in
    read_on self new (at + n) (c.take_any_line.ensures.rules ∙ rules) c.in_ok-take_any_line.ensures.start (c.take_any_line.ensures.source ∙ sources) within
    (more_lines source at n c.requires.read.lines (ended_lines (drop at source) n c.requires.ended (first_line-ends (drop at source) n first)))
    (subst (HasTaken new.rewriting) (ap₂ (λ r bytes. first_tokens_of (rules_of r) 0 (take (at + n) bytes)) rules sources) c.in_ok-take_any_line.ensures.taken)

pub returns-clause-some : goal.returns-clause-some
returns-clause-some c =
    let self = c.args.self.now in
    let at = self.line_start in
    let rest = searched_rest c.deref-2.result.now self.source.items at (c.deref-2.ensures.value ∙ c.take_front.ensures.source ∙ c.take_ascii.ensures.source) in
    omega (
      arith,
      c.line_end.ensures.some (omega (arith, ap length rest, some_rest (drop at self.source.items) c.requires.ended)),
      c.in_ok-take_any_line.ensures.start,
    )

pub returns-then-branch-clause-read : goal.returns-then-branch-clause-read
returns-then-branch-clause-read c =
    let self = c.args.self.now in
    let at = self.line_start in
    let source = self.source.items in
    let n = c.lines_end.result in
    let new = c.take_ascii.new.self in
    let rest = searched_rest c.deref.result.now source at c.deref.ensures.value in
    let ends = subst (λ l. AreLines (take n l) ⊎ All (λ b. b ≢ 0x0A) l) rest c.lines_end.ensures.lines in
    let within : at + n ≤ length source = omega (arith, c.lines_end.ensures.within, ap length rest, length-drop at source, c.requires.read.within) in
    read_on self new (at + n) c.take_ascii.ensures.rules (c.in_ok-take_ascii.ensures.start c.if-branch.true) c.take_ascii.ensures.source within
    (more_lines source at n c.requires.read.lines (ended_lines (drop at source) n c.requires.ended ends))
    (c.in_ok-take_ascii.ensures.taken c.if-branch.true)

pub returns-then-branch-clause-some : goal.returns-then-branch-clause-some
returns-then-branch-clause-some c =
    let self = c.args.self.now in
    let at = self.line_start in
    let rest = searched_rest c.deref.result.now self.source.items at c.deref.ensures.value in
    omega (
      arith,
      c.lines_end.ensures.some (omega (arith, ap length rest, some_rest (drop at self.source.items) c.requires.ended)),
      c.in_ok-take_ascii.ensures.start c.if-branch.true,
    )
