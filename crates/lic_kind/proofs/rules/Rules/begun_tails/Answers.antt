use Rattle.std.proofs.Common.{◌+◌, [], min, get_or, reverse}
use Rattle.lic_kind.specs.TextLists.{texts_of}
use Rattle.lic_kind.proofs.BeginningLemmas.{some_both, own_bit, some_bit}
use Rattle.lic_kind.proofs.rules.Rules.begun_tails.Goals as goal

pub returns : goal.returns
returns c =
    let rules = c.args.self.now in
    record {
      tail = some_both c.begun.result _ _ _
          (λ mask is own i lt may. own_bit mask i own (is (min (0 + i) 63) (reverse (get_or (texts_of rules.tail) i [])) (rules.tail_known i lt) may))
          c.begun.ensures.known c.begun.ensures.own;
      tail_space = some_both c.begun.result _ _ _
          (λ mask is own i lt may. some_bit mask (min (40 + i) 63) (is (min (40 + i) 63) (reverse (get_or (texts_of rules.tail_space) i [])) (rules.tail_space_known i lt) may))
          c.begun.ensures.known c.begun.ensures.own;
      tail_repeat = some_both c.begun.result _ _ _
          (λ mask is own i lt may. some_bit mask (min (52 + i) 63) (is (min (52 + i) 63) (reverse (get_or (texts_of rules.tail_repeat) i [])) (rules.tail_repeat_known i lt) may))
          c.begun.ensures.known c.begun.ensures.own;
    }
