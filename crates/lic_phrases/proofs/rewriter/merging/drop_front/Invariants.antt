-- What is left, and where the last that was dropped ends.
use Rattle.std.proofs.Common.{◌≡◌, take, drop}
use Rattle.lic_lines.specs.Tokens.{Token, tokens_in}
use Rattle.lic_phrases.specs.Rewriting.{end_of_last}
use Rattle.lic_phrases.proofs.rewriter.merging.drop_front.Given as goal

abbrev pub invariant-loop : goal.invariant-loop
invariant-loop l = record {
  left : l.waiting.items ≡ drop l.counter l.initial.waiting.items;
  ends : (t : Token) → t.end ≡ l.initial.end → l.end ≡ end_of_last t (take l.counter (tokens_in l.initial.waiting.items));
}
