use Rattle.std.specs.Str.{chars}
use Rattle.lic_words.specs.Expressions.{Language, letters}
use Rattle.lic_view.specs.PlaceSets.{ArePlaced}
use Rattle.lic_reverse.specs.Reached.{reached_of}
use Rattle.lic_reverse.specs.Tidily.{Taken, nothing}
use Rattle.lic_reverse.proofs.CopyPowers.{AreReached}
use Rattle.lic_reverse.proofs.text_copies.over_copies.Given as goal

-- what up to `l.counter` copies lead to is found
abbrev pub invariant-loop : goal.invariant-loop
invariant-loop l = record {
  reached : AreReached l.keep l.view (Language (letters (chars l.text))) l.fn.spans.items (reached_of l.reached nothing) l.front.items l.counter;
  placed : (s : Taken) → ArePlaced l.view (reached_of l.reached s);
}
