-- One part more.
use Rattle.std.proofs.Common.{◌≡◌, ◌+◌, ◌*◌, ◌<◌, arith, map, subst, sym, take}
use Rattle.std.proofs.lemmas.List.{take_all}
use Rattle.lic_markup.specs.Meaning.{part_words, parts_words}
use Rattle.lic_markup.specs.Parts.{part_of}
use Rattle.lic_search.specs.Ends.{TakesAtMost}
use Rattle.lic_search.proofs.ReachBounds.{bytes-parts, bytes-variable, most_number}
use Rattle.lic_search.proofs.reach.+most.Goals as goal

pub most_bytes-loop-part-preserved : goal.most_bytes-loop-part-preserved
most_bytes-loop-part-preserved t c = λ below.
    let sum : c.saturating_add-most.result ≡ c.loop-part.most + c.most_part_bytes.result = omega (arith, c.saturating_add-most.ensures, below) in
    let before : c.loop-part.most < most_number = omega arith in
    let here : c.most_part_bytes.result < most_number = omega arith in
    subst (λ n. TakesAtMost (parts_words (map part_of (take (c.loop-part.part-index + 1) c.args.parts.now))) n) (sym sum)
    (bytes-parts c.args.parts.now c.loop-part.part-index c.part-item.result c.loop-part.most c.most_part_bytes.result c.loop-part-test.true c.part-item.is
    (c.loop-part.invariant before) (c.most_part_bytes.ensures here))

pub most_bytes-returns : goal.most_bytes-returns
most_bytes-returns t c = λ below.
    subst (λ l. TakesAtMost (parts_words (map part_of l)) c.loop-part.most) (take_all c.loop-part.part-index c.args.parts.now c.loop-part-test.false) (c.loop-part.invariant below)

pub most_part_bytes-returns-in-Var : goal.most_part_bytes-returns-in-Var
most_part_bytes-returns-in-Var t c = λ below.
    let all : c.saturating_mul.result ≡ c.most_letters.result * 4 = omega (arith, c.saturating_mul.ensures, below) in
    let few : c.most_letters.result < most_number = omega arith in
    subst (λ n. TakesAtMost (part_words c.args.part.now) n) (sym all)
    (bytes-variable c.args.part.now c.in-Var.name c.in-Var.original c.in-Var.ere c.most_letters.result c.in-Var.is (c.most_letters.ensures few))
