use Rattle.std.proofs.Common.{◌≡◌, ℕ, ◌≤◌, List, [], ◌∷◌, ◌++◌, length, take}
use Rattle.lic_phrases.specs.Classes.{AreRepresentatives}
use Rattle.lic_phrases.proofs.words.joining.join_line.Given as goal

abbrev pub invariant-loop-k : goal.invariant-loop-k
invariant-loop-k l = record {
  long : length l.heads ≡ length l.fn.heads;
  within : l.k ≤ length l.line;
  joined : (lines : List (List ℕ)) → AreRepresentatives (lines ++ [] ∷ []) l.fn.heads → AreRepresentatives (lines ++ take l.k l.line ∷ []) l.heads;
}
