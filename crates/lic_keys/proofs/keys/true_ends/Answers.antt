-- What is retained passes the test.
use Rattle.std.proofs.Common.{rules}
use Rattle.std.proofs.lemmas.Fn.{filter_same}
use Rattle.lic_keys.specs.Candidates.{ends_at}
use Rattle.lic_keys.proofs.keys.true_ends.Goals as goal

pub returns : goal.returns
returns c = filter_same _ (ends_at c.args.bytes.now c.args.letters.now) _ (λ end b f' k. (search rules, search rules)) _ _ c.retain.ensures.filtered
