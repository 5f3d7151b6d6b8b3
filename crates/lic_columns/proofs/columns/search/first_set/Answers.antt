use Rattle.std.proofs.Common.{arith, ℕ, Bool, ◌<◌, length}
use Rattle.std.proofs.Common.{w64}
use Rattle.std.specs.Int.{bit_not}
use Rattle.std.proofs.lemmas.Nat.{and_le_l}
use Rattle.lic_columns.specs.Masks.{flag_at}
use Rattle.lic_columns.proofs.Finds.{Looks-start, Looks-more, none_found, offset_after, offset_wanted, none_before}
use Rattle.lic_columns.proofs.ColumnLemmas.{set_inside}
use Rattle.lic_columns.proofs.columns.search.first_set.Goals as goal

pub loop-mask-init : goal.loop-mask-init
loop-mask-init c =
    let wanted : ℕ → Bool = λ b. flag_at c.args.flags.now b in
    Looks-start wanted c.args.from (length c.args.flags.now) c.requires c.column.result c.below.result c.column.type_inv c.below.ensures c.below.type_inv c.column.ensures
    (omega (arith, and_le_l c.column.result (bit_not w64 c.below.result), c.column.type_inv))

pub loop-mask-preserved : goal.loop-mask-preserved
loop-mask-preserved c =
    let wanted : ℕ → Bool = λ b. flag_at c.args.flags.now b in
    Looks-more wanted c.args.from (length c.args.flags.now) c.requires c.loop-mask.k c.loop-mask.mask c.column-mask.result c.loop-mask.invariant c.loop-mask-test.true
    (omega (arith, c.if-k-last.false, c.len-last.ensures)) c.column-mask.type_inv c.column-mask.ensures

pub returns-then-k-last-clause-none : goal.returns-then-k-last-clause-none
returns-then-k-last-clause-none c =
    let wanted : ℕ → Bool = λ b. flag_at c.args.flags.now b in
    none_found wanted c.args.from (length c.args.flags.now) c.requires c.loop-mask.k c.loop-mask.mask c.loop-mask.invariant c.loop-mask-test.true
    (omega (arith, c.if-k-last.true, c.len-last.ensures))

pub overflow_mul-result : goal.overflow_mul-result
overflow_mul-result c =
    let inside = set_inside c.args.flags.now _ (offset_wanted (λ b. flag_at c.args.flags.now b) c.args.from (length c.args.flags.now) c.requires c.loop-mask.k
    c.loop-mask.mask c.loop-mask.invariant (omega (arith, c.loop-mask-test.false))) in
    omega (arith, inside, c.len-last.ensures)

pub overflow_add-result : goal.overflow_add-result
overflow_add-result c =
    let inside = set_inside c.args.flags.now _ (offset_wanted (λ b. flag_at c.args.flags.now b) c.args.from (length c.args.flags.now) c.requires c.loop-mask.k
    c.loop-mask.mask c.loop-mask.invariant (omega (arith, c.loop-mask-test.false))) in
    omega (arith, inside, c.len-last.ensures)

pub returns-clause-found : goal.returns-clause-found
returns-clause-found c =
    let wanted : ℕ → Bool = λ b. flag_at c.args.flags.now b in
    let end = length c.args.flags.now in
    let some : 0 < c.loop-mask.mask = omega (arith, c.loop-mask-test.false) in
    let here = offset_wanted wanted c.args.from end c.requires c.loop-mask.k c.loop-mask.mask c.loop-mask.invariant some in (
      offset_after wanted c.args.from end c.requires c.loop-mask.k c.loop-mask.mask c.loop-mask.invariant some,
      set_inside c.args.flags.now _ here,
      here,
      none_before wanted c.args.from end c.requires c.loop-mask.k c.loop-mask.mask c.loop-mask.invariant some,
    )
