use Rattle.lic_rows.proofs.Shifts.{none_first, shifted, moved_up, none_stays}
use Rattle.lic_rows.proofs.shift_up_one.Goals as goal

pub returns-clause-first : goal.returns-clause-first
returns-clause-first c =
    let words = c.shift_words.ensures in
    none_stays c.shift_words.new.row _ c.args.limit
    (none_first c.args.row.now c.shift_words.new.row words.fits words.first words.rest) c.clear_from.ensures

pub returns-clause-rest : goal.returns-clause-rest
returns-clause-rest c =
    let words = c.shift_words.ensures in
    moved_up c.args.row.now c.shift_words.new.row _ c.args.limit c.requires
    (shifted c.args.row.now c.shift_words.new.row words.fits words.first words.rest) c.clear_from.ensures
