use Rattle.std.proofs.Common.{◌<◌, ◌≤◌, ◌+◌, ◌*◌, ◌-◌, ◌^◌, ◌==◌, not, count_by}
use Rattle.lic_words.specs.Words.{blank}
use Rattle.lic_auto.proofs.steps.count_steps.Given as goal

abbrev pub invariant-loop-c : goal.invariant-loop-c
invariant-loop-c l = record {
  least : l.steps < 2 ^ 64 - 1 → l.before + count_by (λ c. not (c == blank)) l.yielded ≤ l.steps;
  most : l.steps ≤ l.before + 2 * count_by (λ c. not (c == blank)) l.yielded;
  never_fall : l.before ≤ l.steps;
}
