use Rattle.std.proofs.Common.{◌≡◌, List, ◌+◌, ◌-◌, ◌≤◌, Bool, ◌||◌, map, drop, length}
use Rattle.lic_marks.specs.Cores.{cat_all, alt_all, copies, up_to}
use Rattle.lic_marks.specs.Rows.{weight, Shifts}
use Rattle.lic_marks.specs.Nodes.{core_of}
use Rattle.lic_marks.proofs.shift.+shift.Given as goal

-- whatever takes the rest over the letter ends the whole walk
abbrev pub invariant-shift_row-loop-child : goal.invariant-shift_row-loop-child
invariant-shift_row-loop-child l = record {
  begun : l.at ≤ l.position;
  rest : l.position + weight (cat_all (map core_of (drop l.child-index l.children))) ≡ l.at + weight (cat_all (map core_of l.children));
  long : length l.row ≡ length l.initial.row;
  walk : (new : List Bool) (y : Bool)
      → Shifts (cat_all (map core_of
      (drop l.child-index l.children))) l.reading.after l.flag l.reading.letter l.row l.position new y →
      Shifts (cat_all (map core_of l.children)) l.reading.after l.entry l.reading.letter l.initial.row l.at new y;
}

abbrev pub invariant-shift_any-loop-child : goal.invariant-shift_any-loop-child
invariant-shift_any-loop-child l = record {
  begun : l.at ≤ l.position;
  rest : l.position + weight (alt_all (map core_of (drop l.child-index l.children))) ≡ l.at + weight (alt_all (map core_of l.children));
  long : length l.row ≡ length l.initial.row;
  walk : (new : List Bool) (y : Bool)
      → Shifts (alt_all (map core_of
      (drop l.child-index l.children))) l.reading.after l.entry l.reading.letter l.row l.position new y →
      Shifts (alt_all (map core_of l.children)) l.reading.after l.entry l.reading.letter l.initial.row l.at new (l.found || y);
}

abbrev pub invariant-shift_copies_of-loop : goal.invariant-shift_copies_of-loop
invariant-shift_copies_of-loop l = record {
  begun : l.at ≤ l.position;
  rest : l.position + weight (copies (l.count - l.counter) (core_of l.child)) ≡ l.at + weight (copies l.count (core_of l.child));
  long : length l.row ≡ length l.initial.row;
  walk : (new : List Bool) (y : Bool) → Shifts (copies (l.count - l.counter) (core_of l.child)) l.reading.after l.flag l.reading.letter l.row l.position new y →
      Shifts (copies l.count (core_of l.child)) l.reading.after l.entry l.reading.letter l.initial.row l.at new y;
  front : (new : List Bool) (y : Bool) → Shifts (up_to (l.count - l.counter) (core_of l.child)) l.reading.after l.flag l.reading.letter l.row l.position new y →
      Shifts (up_to l.count (core_of l.child)) l.reading.after l.entry l.reading.letter l.initial.row l.at new (l.found || y);
}
