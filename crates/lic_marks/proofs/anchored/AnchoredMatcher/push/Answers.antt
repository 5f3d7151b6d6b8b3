use Rattle.std.proofs.Common.{◌≡◌, ℕ, List, [], ◌∷◌, ◌++◌, sym, ap, ◌∙◌}
use Rattle.std.specs.Str.{chars}
use Rattle.lic_words.specs.Words.{blank}
use Rattle.lic_words.specs.Spelling.{gapped, last_letter}
use Rattle.lic_words.proofs.Sequences.{last_of-snoc}
use Rattle.lic_marks.proofs.TokenRows.{gapped-snoc}
use Rattle.lic_marks.proofs.anchored.AnchoredMatcher.push.Goals as goal

some_token : (ts : List (List ℕ)) (t : List ℕ) → ts ++ t ∷ [] ≡ [] → ⊥
some_token [] t e = cc
some_token (u ∷ ts) t e = cc

pub returns-clause-taken : goal.returns-clause-taken
returns-clause-taken c = λ e ts s.
    record {
      words = s.words;
      empty = (λ h. cc, λ none. absurd (some_token ts (chars c.args.token.now) none));
      last = c.token-self.ensures.last ∙ ap (λ l. last_letter l (chars c.args.token.now)) s.last
          ∙ sym (last_of-snoc blank ts (chars c.args.token.now));
      taken = rw (gapped-snoc, ← s.last) (c.token-self.ensures.taken (gapped ts ∷ []) s.taken);
    }
