use Rattle.std.proofs.Common.{ℕ, ◌<◌, ◌-◌, List, length, take, drop, get_or, ap, ap₂, sym, ◌∙◌, arith}
use Rattle.std.proofs.lemmas.List.{take_rest}
use Rattle.lic_lines.specs.Tokens.{Token}
use Rattle.lic_rewriting.proofs.SectionTokens.{count, text_in_front, token_is}
use Rattle.lic_rewriting.proofs.section.Section.wide_letters.Goals as goal

pub offset-start-requires : goal.offset-start-requires
offset-start-requires c =
    let s = c.self.inside in
    omega (arith, c.requires, count s.at s.letters.now s.starts.now s.ends.now c.args.self.now c.self.invariant.are.paired c.self.view_is)

pub overflow_sub-from : goal.overflow_sub-from
overflow_sub-from c =
    let s = c.self.inside in
    let lt : c.args.i < length s.starts.now =
    omega (arith, c.requires, count s.at s.letters.now s.starts.now s.ends.now c.args.self.now c.self.invariant.are.paired c.self.view_is) in
    omega (arith, c.self.invariant.are.from c.args.i lt, c.offset-start.ensures)

pub returns-clause-front : goal.returns-clause-front
returns-clause-front c = λ d.
    let s = c.self.inside in
    let i = c.args.i in
    let start = get_or s.starts.now i 0 in
    let end = get_or s.ends.now i 0 in
    let rest = drop (start - s.at) s.letters.now in
    let texts = ap (λ (t : Token). t.text)
    (token_is s.at s.letters.now s.starts.now s.ends.now c.args.self.now c.self.invariant.are.paired c.self.view_is i d c.requires) in
    let here = take_rest s.letters.now (c.offset-start.result - s.at) ∙ ap (λ m. drop (m - s.at) s.letters.now) c.offset-start.ensures in
    sym texts ∙ text_in_front rest ((end - s.at) - (start - s.at))
    ∙ ap₂ (λ (t l : List ℕ). take (length t) l) texts (sym here)
