use Rattle.std.proofs.lemmas.Result.{on_ok_weaker}
use Rattle.lic_norm.proofs.Refused.{accepted}
use Rattle.lic_norm.proofs.feeder.Feeder.feed_from.Goals as goal

pub returns-2-clause-accepted : goal.returns-2-clause-accepted
returns-2-clause-accepted g c =
    on_ok_weaker c.feed_from-fed.result (λ short. accepted c.feed_from-fed.new.self.source.items short) c.feed_from-fed.ensures.short
