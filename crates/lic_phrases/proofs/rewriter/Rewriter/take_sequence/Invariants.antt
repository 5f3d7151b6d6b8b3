-- The whole stays the same, and fewer tokens wait for an address.
use Rattle.std.proofs.Common.{◌≡◌, ◌≤◌, ◌∷◌, [], deque_len, length, map}
use Rattle.lic_lines.specs.Tokens.{token_in, tokens_in}
use Rattle.lic_phrases.specs.Held.{held}
use Rattle.lic_phrases.specs.Settling.{GivesSequences}
use Rattle.lic_phrases.specs.Waiting.{spanned_in, AreKnown}
use Rattle.lic_phrases.proofs.rewriter.Rewriter.take_sequence.Given as goal

abbrev pub invariant-loop-settled : goal.invariant-loop-settled
invariant-loop-settled l = record {
  whole : GivesSequences l.phrases.phrases (map (spanned_in l.phrases.spellings) l.fn.output.items) l.fn.self (token_in l.fn.sequence ∷ [])
      (map (spanned_in l.phrases.spellings) l.output.items)
      (record { sign = held l.self-inside.sign; address = tokens_in l.self-inside.address.items; phrase = tokens_in l.self-inside.waiting.items });
  sign : held l.self-inside.sign ≡ l.fn.self.sign;
  few : length l.fn.self.phrase ≤ 7 → length (tokens_in l.self-inside.waiting.items) ≤ 7;
  known : AreKnown (length l.phrases.spellings) l.fn.output.items → AreKnown (length l.phrases.spellings) l.output.items;
}

abbrev pub decreases-loop-settled : goal.decreases-loop-settled
decreases-loop-settled l = deque_len l.self-inside.address
