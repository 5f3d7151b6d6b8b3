use Rattle.std.proofs.Common.{ℕ, ◌+◌, [], min, get_or, reverse, arith}
use Rattle.lic_kind.specs.TextLists.{texts_of}
use Rattle.lic_kind.proofs.rules.Rules.with.Goals as goal

pub invariant_of-result : goal.invariant_of-result
invariant_of-result c =
    let tail = λ (i : ℕ). reverse (get_or (texts_of c.args.texts.tail) i []) in
    record {
      lead_known = λ i lt.
          c.add_fronts-2.ensures.grows (min (0 + i) 63) (get_or (texts_of c.args.texts.lead) i []) (omega arith) (c.add_fronts.ensures.known i lt);
      lead_space_known = c.add_fronts-2.ensures.known;
      tail_known = λ i lt.
          c.add_ends-3.ensures.grows (min (0 + i) 63) (tail i) (omega arith)
          (c.add_ends-2.ensures.grows (min (0 + i) 63) (tail i) (omega arith) (c.add_ends.ensures.known i lt));
      tail_space_known = λ i lt.
          c.add_ends-3.ensures.grows (min (40 + i) 63) (reverse (get_or (texts_of c.args.texts.tail_space) i [])) (omega arith) (c.add_ends-2.ensures.known i lt);
      tail_repeat_known = c.add_ends-3.ensures.known;
    }
