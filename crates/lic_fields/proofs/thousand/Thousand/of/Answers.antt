use Rattle.std.proofs.Common.{◌≡◌, ◌-◌, ◌%◌, ◌/◌, ◌∙◌, ap, arith}
use Rattle.std.specs.Prelude.{decimal}
use Rattle.lic_fields.specs.Fronts.{first_digits, last_digits}
use Rattle.lic_fields.proofs.Thousands.{ends_more, ends_three, first_digits_more, thousand}
use Rattle.lic_fields.proofs.thousand.Thousand.of.Goals as goal

pub returns-then-n-lt1000 : goal.returns-then-n-lt1000
returns-then-n-lt1000 c =
    (last_digits c.args.n, rw c.hundreds.ensures (ends_three c.args.n c.if-n-lt100.false c.if-n-lt1000.true))

pub invariant_of-result : goal.invariant_of-result
invariant_of-result c =
    let n = c.args.n in
    let low = c.if-n-lt1000.false in
    let fits = c.if-n-ge-GREATEST.false in
    thousand (n - n % 1000) _ (omega (arith, low)) (omega (arith, fits)) (omega arith) c.last_digits.ensures

pub returns : goal.returns
returns c =
    let n = c.args.n in
    let low = c.if-n-lt1000.false in
    let fits = c.if-n-ge-GREATEST.false in
    let same : (n - n % 1000) / 1000 ≡ n / 1000 = omega arith in
    let first : first_digits (n - n % 1000) ≡ decimal (n / 1000) =
    first_digits_more (n - n % 1000) (omega (arith, low)) (omega (arith, fits)) ∙ ap decimal same in
    (last_digits n, ends_more n (first_digits (n - n % 1000)) low (omega (arith, fits)) first)
