-- The literal is too short, or one of the tables has its window.
use Rattle.lic_literals.proofs.WindowLemmas.{adds_long, adds_middle, adds_none, adds_short}
use Rattle.lic_literals.proofs.tables.Tables.add.Goals as goal

pub returns-in_default-clause-adds : goal.returns-in_default-clause-adds
returns-in_default-clause-adds c = adds_none c.args.literal.now c.args.number c.args.self.now

pub returns-in_ok-key-in-16-clause-adds : goal.returns-in_ok-key-in-16-clause-adds
returns-in_ok-key-in-16-clause-adds c = adds_long c.args.literal.now c.args.number c.args.self.now c.in_ok-key-in-16.key c.add_to.new.table c.in_ok-key-in-16.ensures

pub returns-in_ok-key-in-7-clause-adds : goal.returns-in_ok-key-in-7-clause-adds
returns-in_ok-key-in-7-clause-adds c =
    adds_middle c.args.literal.now c.args.number c.args.self.now c.in_ok-key-in-7.key c.add_to-in-7.new.table c.in_ok-key-in-7.ensures

pub returns-in_ok-key-in_default-size-clause-adds : goal.returns-in_ok-key-in_default-size-clause-adds
returns-in_ok-key-in_default-size-clause-adds c =
    adds_short c.args.literal.now c.args.number c.args.self.now c.in_ok-key-in_default-size.key c.add_to-in_default-size.new.table
    c.in_ok-key-in_default-size.ensures
