-- The longest phrase of at most n tokens, and the key of the first n.
use Rattle.std.proofs.Common.{◌≡◌, ◌<◌, ◌≤◌, length, take}
use Rattle.std.specs.Prelude.{IfSome, option_map}
use Rattle.lic_lines.specs.Tokens.{tokens_in}
use Rattle.lic_phrases.specs.PhraseLists.{key_of}
use Rattle.lic_phrases.specs.Waiting.{texts_of, first_phrase, phrase_found}
use Rattle.lic_phrases.proofs.rewriter.merging.first_phrase.Given as goal

abbrev pub invariant-loop-n : goal.invariant-loop-n
invariant-loop-n l = record {
  keyed : l.key.items ≡ key_of (take l.n (texts_of (tokens_in l.waiting.items)));
  found : option_map (phrase_found l.phrases.spellings (tokens_in l.waiting.items)) l.found
      ≡ first_phrase l.phrases.phrases (texts_of (tokens_in l.waiting.items)) l.n;
  within : IfSome l.found (λ f. (0 < f.count) × (f.count ≤ l.n));
  known : IfSome l.found (λ f. f.class < length l.phrases.spellings);
}
