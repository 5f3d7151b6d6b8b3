use Rattle.std.proofs.Common.{Ok, sym, ap, ◌∙◌}
use Rattle.std.specs.Str.{chars}
use Rattle.std.proofs.lemmas.Iterator.{YieldsList-from_chars, items_from_collect}
use Rattle.std.specs.declared.alloc.AllocError.{AllocError}
use Rattle.lic_kind.proofs.rule_text.RuleText.new.Goals as goal

pub invariant_of-result : goal.invariant_of-result
invariant_of-result c = record {
  same = ap chars c.in_ok-from_str.ensures.ok
      ∙ sym (items_from_collect {E = AllocError} (Ok c.in_ok-collect.field-0) c.in_ok-collect.ensures.ran
      (YieldsList-from_chars c.args.text.now c.utf8.text c.chars.ensures.rest));
}

pub returns : goal.returns
returns c = items_from_collect {E = AllocError} (Ok c.in_ok-collect.field-0) c.in_ok-collect.ensures.ran
    (YieldsList-from_chars c.args.text.now c.utf8.text c.chars.ensures.rest)
