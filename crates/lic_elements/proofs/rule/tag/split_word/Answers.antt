use Rattle.std.proofs.Common.{sym, ◌∙◌}
use Rattle.lic_elements.specs.Pieces.{characters}
use Rattle.lic_elements.proofs.LocatedLemmas.{ends_all, ends_on}
use Rattle.lic_elements.proofs.RuleLemmas.{no_letter_passed, letter_passed, no_word, no_word-end, before_none, whole_word, following_word}
use Rattle.lic_elements.proofs.rule.tag.split_word.Goals as goal

pub loop-first-init : goal.loop-first-init
loop-first-init c = record { ends = ends_all c.args.all; passed = no_letter_passed (characters c.args.all) }

pub loop-first-preserved : goal.loop-first-preserved
loop-first-preserved c =
    let inv = c.loop-first.invariant in
    record {
      ends = ends_on c.args.all c.loop-first.rest c.in-Some.after inv.ends c.in-Some.ensures.end;
      passed = letter_passed _ _ _ _ c.in-Some.ensures.some (sym c.is_ascii_alphanumeric.ensures.value ∙ c.if-not-is_ascii_alphanumeric.false) inv.passed;
    }

pub returns-then-not-is_ascii_alphanumeric-clause-word : goal.returns-then-not-is_ascii_alphanumeric-clause-word
returns-then-not-is_ascii_alphanumeric-clause-word c =
    whole_word _ _ _ (no_word _ _ _ c.in-Some.ensures.some (sym c.is_ascii_alphanumeric.ensures.value ∙ c.if-not-is_ascii_alphanumeric.true))
    c.up_to.ensures c.loop-first.invariant.passed

pub returns-then-not-is_ascii_alphanumeric-clause-following : goal.returns-then-not-is_ascii_alphanumeric-clause-following
returns-then-not-is_ascii_alphanumeric-clause-following c =
    following_word _ _ _ (no_word _ _ _ c.in-Some.ensures.some (sym c.is_ascii_alphanumeric.ensures.value ∙ c.if-not-is_ascii_alphanumeric.true))
    c.up_to.ensures c.loop-first.invariant.passed

pub returns-clause-word : goal.returns-clause-word
returns-clause-word c =
    let none = c.in_default.ensures.none in
    whole_word _ _ _ (no_word-end _ none) (before_none (characters c.args.all) _ none) c.loop-first.invariant.passed

pub returns-clause-following : goal.returns-clause-following
returns-clause-following c =
    let none = c.in_default.ensures.none in
    following_word _ _ _ (no_word-end _ none) (before_none (characters c.args.all) _ none) c.loop-first.invariant.passed
