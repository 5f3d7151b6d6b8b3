-- The bit of the flag is set, and no other is cleared.
use Rattle.std.proofs.Common.{◌/◌, ◌%◌, ◌<◌, length, ◌∙◌, arith}
use Rattle.std.proofs.lemmas.List.{get_or_default}
use Rattle.lic_literals.proofs.FlagLemmas.{bit_here, bits_kept}
use Rattle.lic_literals.proofs.flags.Flags.add.Goals as goal

pub returns-clause-added : goal.returns-clause-added
returns-clause-added c =
    let words = c.args.self.now.words.items in
    let flag = c.args.flag in
    let word = c.index_mut.result.now in
    let within : flag / 64 < length words = omega (arith, c.args.self.now.size) in
    bit_here words (flag / 64) (flag % 64) word within (omega arith) (c.index_mut.ensures.value ∙ get_or_default words (flag / 64) word 0 within)

pub returns-clause-kept : goal.returns-clause-kept
returns-clause-kept c = λ other.
    let words = c.args.self.now.words.items in
    let flag = c.args.flag in
    let word = c.index_mut.result.now in
    let within : flag / 64 < length words = omega (arith, c.args.self.now.size) in
    bits_kept words (flag / 64) (flag % 64) word within (omega arith) (c.index_mut.ensures.value ∙ get_or_default words (flag / 64) word 0 within)
    (other / 64) (other % 64)
