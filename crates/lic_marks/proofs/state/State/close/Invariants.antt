use Rattle.std.proofs.Common.{◌≡◌, ◌+◌, false, if◌then◌else◌}
use Rattle.lic_marks.specs.Rows.{marks_of, unset_count}
use Rattle.lic_marks.specs.Nodes.{core_of}
use Rattle.lic_marks.specs.Deciding.{over_blanks}
use Rattle.lic_marks.proofs.Closing.{GathersTo}
use Rattle.lic_marks.proofs.state.State.close.Given as goal

abbrev pub invariant-loop-grew : goal.invariant-loop-grew
invariant-loop-grew l = record {
  gathers : GathersTo (core_of l.tree)
      (over_blanks (core_of l.tree) l.fn.self.entry (marks_of (core_of l.tree) l.fn.self.at_once))
      (marks_of (core_of l.tree) l.self.after_blanks);
  at_once : l.self.at_once ≡ l.fn.self.at_once;
  entry : l.self.entry ≡ l.fn.self.entry;
  all : l.grew ≡ false → over_blanks (core_of l.tree) l.fn.self.entry (marks_of (core_of l.tree) l.fn.self.at_once)
      ≡ marks_of (core_of l.tree) l.self.after_blanks;
}

abbrev pub decreases-loop-grew : goal.decreases-loop-grew
decreases-loop-grew l = unset_count l.self.after_blanks + (if l.grew then 1 else 0)
