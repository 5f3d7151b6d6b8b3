use Rattle.std.proofs.Common.{ap}
use Rattle.lic_ere.specs.Trees.{tree_of}
use Rattle.lic_ere.specs.Reading.{start, read_from, reading}
use Rattle.lic_ere.proofs.FaultLemmas.{Gives-same}
use Rattle.lic_ere.proofs.ReadLemmas.{is_found, is_read, is_decided, is_reported}
use Rattle.lic_ere.proofs.reading.read.Goals as goal

pub returns-clause-found : goal.returns-clause-found
returns-clause-found c =
    let pattern = c.args.pattern.now in
    let given = Gives-same tree_of c.read_all.result _ (reading pattern) (ap (read_from start) c.new.ensures) c.read_all.ensures in
    is_found pattern c.read_all.result given

pub returns-clause-only : goal.returns-clause-only
returns-clause-only c tree is =
    let pattern = c.args.pattern.now in
    let given = Gives-same tree_of c.read_all.result _ (reading pattern) (ap (read_from start) c.new.ensures) c.read_all.ensures in
    is_read pattern c.read_all.result tree is given

pub returns-clause-first : goal.returns-clause-first
returns-clause-first c =
    let pattern = c.args.pattern.now in
    let given = Gives-same tree_of c.read_all.result _ (reading pattern) (ap (read_from start) c.new.ensures) c.read_all.ensures in
    is_decided pattern c.read_all.result given

pub returns-clause-decides : goal.returns-clause-decides
returns-clause-decides c e is =
    let pattern = c.args.pattern.now in
    let given = Gives-same tree_of c.read_all.result _ (reading pattern) (ap (read_from start) c.new.ensures) c.read_all.ensures in
    is_reported pattern c.read_all.result e is given
