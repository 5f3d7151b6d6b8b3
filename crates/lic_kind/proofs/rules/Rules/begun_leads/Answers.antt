use Rattle.std.proofs.Common.{◌+◌, [], min, get_or}
use Rattle.lic_kind.specs.TextLists.{texts_of}
use Rattle.lic_kind.proofs.BeginningLemmas.{some_both, own_bit, some_bit}
use Rattle.lic_kind.proofs.rules.Rules.begun_leads.Goals as goal

pub returns : goal.returns
returns c =
    let rules = c.args.self.now in
    record {
      lead = some_both c.begun.result _ _ _
          (λ mask is own i lt may. own_bit mask i own (is (min (0 + i) 63) (get_or (texts_of rules.lead) i []) (rules.lead_known i lt) may))
          c.begun.ensures.known c.begun.ensures.own;
      lead_space = some_both c.begun.result _ _ _
          (λ mask is own i lt may. some_bit mask (min (48 + i) 63) (is (min (48 + i) 63) (get_or (texts_of rules.lead_space) i []) (rules.lead_space_known i lt) may))
          c.begun.ensures.known c.begun.ensures.own;
    }
