use Rattle.std.proofs.Common.{◌≡◌, ◌+◌, ◌-◌, ◌≤◌, Bool, ◌||◌, map, drop}
use Rattle.lic_marks.specs.Cores.{cat_all, alt_all, copies, up_to}
use Rattle.lic_marks.specs.Rows.{weight, Leaves}
use Rattle.lic_marks.specs.Nodes.{core_of}
use Rattle.lic_marks.proofs.leave.+leaves.Given as goal

-- whatever answers for the rest answers for the whole walk
abbrev pub invariant-leaves_row-loop-child : goal.invariant-leaves_row-loop-child
invariant-leaves_row-loop-child l =
    record {
      begun : l.at ≤ l.position;
      rest : l.position + weight (cat_all (map core_of (drop l.child-index l.children))) ≡ l.at + weight (cat_all (map core_of l.children));
      walk : (y : Bool) → Leaves (cat_all (map core_of (drop l.child-index l.children))) l.after l.flag l.row l.position y →
          Leaves (cat_all (map core_of l.children)) l.after l.entry l.row l.at y;
    }

abbrev pub invariant-leaves_any-loop-child : goal.invariant-leaves_any-loop-child
invariant-leaves_any-loop-child l = record {
  begun : l.at ≤ l.position;
  rest : l.position + weight (alt_all (map core_of (drop l.child-index l.children))) ≡ l.at + weight (alt_all (map core_of l.children));
  walk : (y : Bool) → Leaves (alt_all (map core_of (drop l.child-index l.children))) l.after l.entry l.row l.position y →
      Leaves (alt_all (map core_of l.children)) l.after l.entry l.row l.at (l.found || y);
}

abbrev pub invariant-leaves_copies_of-loop : goal.invariant-leaves_copies_of-loop
invariant-leaves_copies_of-loop l = record {
  begun : l.at ≤ l.position;
  rest : l.position + weight (copies (l.count - l.counter) (core_of l.child)) ≡ l.at + weight (copies l.count (core_of l.child));
  walk : (y : Bool) → Leaves (copies (l.count - l.counter) (core_of l.child)) l.after l.flag l.row l.position y →
      Leaves (copies l.count (core_of l.child)) l.after l.entry l.row l.at y;
  front : (y : Bool) → Leaves (up_to (l.count - l.counter) (core_of l.child)) l.after l.flag l.row l.position y →
      Leaves (up_to l.count (core_of l.child)) l.after l.entry l.row l.at (l.found || y);
}
