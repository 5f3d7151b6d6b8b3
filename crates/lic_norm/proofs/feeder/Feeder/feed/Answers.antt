use Rattle.std.proofs.Common.{◌++◌, Err, ap, sym, ◌∙◌}
use Rattle.std.proofs.lemmas.Result.{on_ok_weaker}
use Rattle.lic_norm.specs.Refusal.{refusal_of}
use Rattle.lic_norm.proofs.Refused.{accepted, refused_long}
use Rattle.lic_norm.proofs.feeder.Feeder.feed.Goals as goal

pub returns-in_default-fed-clause-accepted : goal.returns-in_default-fed-clause-accepted
returns-in_default-fed-clause-accepted c = on_ok_weaker c.feed-fed.result (λ short. accepted c.feed-fed.new.self.source.items short) c.feed-fed.ensures.short

pub returns-in-Err-clause-long : goal.returns-in-Err-clause-long
returns-in-Err-clause-long c = λ fault unrefused is.
    let long = refused_long _ fault (ap (λ v. refusal_of (v.bytes ++ c.args.bytes.now)) c.self.view_is ∙ is) in
    sym c.in-Err.is ∙ c.feed-fed.ensures.long long.0 ∙ ap Err long.1

pub returns-in_default-fed-clause-long : goal.returns-in_default-fed-clause-long
returns-in_default-fed-clause-long c = λ fault unrefused is.
    let long = refused_long _ fault (ap (λ v. refusal_of (v.bytes ++ c.args.bytes.now)) c.self.view_is ∙ is) in
    c.feed-fed.ensures.long long.0 ∙ ap Err long.1
