use Rattle.std.proofs.Common.{◌↔◌, sym, subst, take}
use Rattle.std.specs.List.{Contains}
use Rattle.lic_auto.specs.Backs.{IsLive, numbers_of_back, set_of_back}
use Rattle.lic_auto.proofs.back.Back.live_numbers.Goals as goal

pub returns-clause-exactly : goal.returns-clause-exactly
returns-clause-exactly c = λ ts s k.
    let b = c.args.self.now in
    subst (λ xs. Contains (take b.live_count xs) k ↔ (Contains (numbers_of_back b) k × IsLive (set_of_back b) ts k)) (sym c.deref.ensures.value) (s.live k)
