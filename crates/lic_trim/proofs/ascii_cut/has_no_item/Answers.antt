use Rattle.std.proofs.Common.{◌≡◌, ◌≤◌, false, not, true, Bool, refl, length, subst}
use Rattle.std.proofs.lemmas.Bool.{false≢true}
use Rattle.std.specs.Prelude.{IsTrue}
use Rattle.lic_trim.proofs.NoItems.{no_item, no_item_alone}
use Rattle.lic_trim.proofs.ascii_cut.has_no_item.Goals as goal

pub returns-then-end-line : goal.returns-then-end-line
returns-then-end-line c = λ _ rules.
    no_item_alone rules c.args.line.now
    (subst (λ n. length c.args.line.now ≤ n) c.first_space-end.ensures.index c.if-end-line.true)

pub returns-else-end-line : goal.returns-else-end-line
returns-else-end-line c = λ fails rules.
    no_item rules c.args.line.now c.first_space-end.result c.first_space-end.ensures.index c.if-end-line.false
    (c.may_be_item.ensures (off c.may_be_item.result fails))
  where
    off : (b : Bool) → IsTrue (not b) → b ≡ false
    off true h = absurd (false≢true h)
    off false h = refl
