use Rattle.std.proofs.Common.{◌<◌, ◌≤◌, ◌-◌, ◌+◌, length, drop, length-take, length-drop, get_or, ap, sym, subst, ◌∙◌, arith}
use Rattle.std.specs.Prelude.{IsUtf8}
use Rattle.std.proofs.lemmas.Str.{IsUtf8-between}
use Rattle.lic_columns.specs.PlainLines.{HasWords}
use Rattle.lic_columns.specs.SpanTokens.{token_text}
use Rattle.lic_lines.specs.Tokens.{Token}
use Rattle.lic_rewriting.proofs.SectionTokens.{count, range_is, token_is}
use Rattle.lic_rewriting.proofs.WordTexts.{words_between}
use Rattle.lic_rewriting.proofs.section.Section.letters_of.Goals as goal

pub offset-start-requires : goal.offset-start-requires
offset-start-requires c =
    let s = c.self.inside in
    omega (arith, c.requires, count s.at s.letters.now s.starts.now s.ends.now c.args.self.now c.self.invariant.are.paired c.self.view_is)

pub offset-end-requires : goal.offset-end-requires
offset-end-requires c =
    let s = c.self.inside in
    omega (
      arith,
      c.requires,
      count s.at s.letters.now s.starts.now s.ends.now c.args.self.now c.self.invariant.are.paired c.self.view_is,
      c.self.invariant.are.paired,
    )

pub overflow_sub-from : goal.overflow_sub-from
overflow_sub-from c =
    let s = c.self.inside in
    let lt : c.args.i < length s.starts.now =
    omega (arith, c.requires, count s.at s.letters.now s.starts.now s.ends.now c.args.self.now c.self.invariant.are.paired c.self.view_is) in
    omega (arith, c.self.invariant.are.from c.args.i lt, c.offset-start.ensures)

pub overflow_sub-len : goal.overflow_sub-len
overflow_sub-len c =
    let s = c.self.inside in
    let lt : c.args.i < length s.starts.now =
    omega (arith, c.requires, count s.at s.letters.now s.starts.now s.ends.now c.args.self.now c.self.invariant.are.paired c.self.view_is) in
    omega (arith, c.self.invariant.are.some c.args.i lt, c.offset-start.ensures, c.offset-end.ensures)

pub returns-clause-some : goal.returns-clause-some
returns-clause-some c =
    let s = c.self.inside in
    let lt : c.args.i < length s.starts.now =
    omega (arith, c.requires, count s.at s.letters.now s.starts.now s.ends.now c.args.self.now c.self.invariant.are.paired c.self.view_is) in
    omega (
      arith,
      c.self.invariant.are.from c.args.i lt,
      c.self.invariant.are.some c.args.i lt,
      c.offset-start.ensures,
      c.offset-end.ensures,
      c.self.invariant.are.to c.args.i lt,
      length-take (c.offset-end.result - c.offset-start.result) (drop (c.offset-start.result - s.at) s.letters.now),
      length-take (c.offset-start.result - s.at + (c.offset-end.result - c.offset-start.result) - (c.offset-start.result - s.at)) (drop (c.offset-start.result - s.at) s.letters.now),
      length-drop (c.offset-start.result - s.at) s.letters.now,
    )

pub returns-clause-text : goal.returns-clause-text
returns-clause-text c = λ d.
    let s = c.self.inside in
    let i = c.args.i in
    let lt : i < length s.starts.now =
    omega (arith, c.requires, count s.at s.letters.now s.starts.now s.ends.now c.args.self.now c.self.invariant.are.paired c.self.view_is) in
    ap token_text
    (range_is s.letters.now s.at c.offset-start.result c.offset-end.result (get_or s.starts.now i 0) (get_or s.ends.now i 0) c.offset-start.ensures
    c.offset-end.ensures (c.self.invariant.are.from i lt) (let order : get_or s.starts.now i 0 ≤ get_or s.ends.now i 0 = omega (arith, c.self.invariant.are.some i lt) in order))
    ∙ ap (λ (t : Token). t.text)
    (token_is s.at s.letters.now s.starts.now s.ends.now c.args.self.now c.self.invariant.are.paired c.self.view_is c.args.i d c.requires)

pub returns-clause-words : goal.returns-clause-words
returns-clause-words c =
    let s = c.self.inside in
    let i = c.args.i in
    let lt : i < length s.starts.now =
    omega (arith, c.requires, count s.at s.letters.now s.starts.now s.ends.now c.args.self.now c.self.invariant.are.paired c.self.view_is) in
    let from = get_or s.starts.now i 0 - s.at in
    let to = get_or s.ends.now i 0 - s.at in
    let order : from ≤ to = omega (arith, c.self.invariant.are.from i lt, c.self.invariant.are.some i lt) in
    subst HasWords
    (sym (range_is s.letters.now s.at c.offset-start.result c.offset-end.result (get_or s.starts.now i 0) (get_or s.ends.now i 0) c.offset-start.ensures
    c.offset-end.ensures (c.self.invariant.are.from i lt) (let order : get_or s.starts.now i 0 ≤ get_or s.ends.now i 0 = omega (arith, c.self.invariant.are.some i lt) in order)))
    (words_between s.letters.now from to c.self.invariant.are.utf8 c.self.invariant.are.words order (c.self.invariant.are.begin i lt) (c.self.invariant.are.end i lt))

pub returns-clause-utf8 : goal.returns-clause-utf8
returns-clause-utf8 c =
    let s = c.self.inside in
    let i = c.args.i in
    let lt : i < length s.starts.now =
    omega (arith, c.requires, count s.at s.letters.now s.starts.now s.ends.now c.args.self.now c.self.invariant.are.paired c.self.view_is) in
    let from = get_or s.starts.now i 0 - s.at in
    let to = get_or s.ends.now i 0 - s.at in
    let order : from ≤ to = omega (arith, c.self.invariant.are.from i lt, c.self.invariant.are.some i lt) in
    subst IsUtf8
    (sym (range_is s.letters.now s.at c.offset-start.result c.offset-end.result (get_or s.starts.now i 0) (get_or s.ends.now i 0) c.offset-start.ensures
    c.offset-end.ensures (c.self.invariant.are.from i lt) (let order : get_or s.starts.now i 0 ≤ get_or s.ends.now i 0 = omega (arith, c.self.invariant.are.some i lt) in order)))
    (IsUtf8-between s.letters.now from to c.self.invariant.are.utf8 order (c.self.invariant.are.begin i lt) (c.self.invariant.are.end i lt))
