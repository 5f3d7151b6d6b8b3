-- The tokens so far are settled or kept back.
use Rattle.std.proofs.Common.{length, map}
use Rattle.lic_lines.specs.Tokens.{tokens_in}
use Rattle.lic_phrases.specs.Settling.{Settles}
use Rattle.lic_phrases.specs.Waiting.{spanned_in, AreKnown}
use Rattle.lic_phrases.proofs.tokens.take_tokens.Given as goal

abbrev pub invariant-loop-token : goal.invariant-loop-token
invariant-loop-token l = record {
  settles : Settles l.phrases.phrases (tokens_in l.yielded) (map (spanned_in l.phrases.spellings) l.settled.items) l.rewriter;
  known : AreKnown (length l.phrases.spellings) l.settled.items;
}
