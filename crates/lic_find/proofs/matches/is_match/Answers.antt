use Rattle.std.proofs.Common.{◌≡◌, ◌+◌, ◌<◌, ◌≤◌, ◌∷◌, ◌++◌, [], length, sym, ◌∙◌, subst, arith}
use Rattle.std.specs.Str.{chars}
use Rattle.lic_norm.specs.Tokens.{TokenValue}
use Rattle.lic_auto.specs.Picked.{IsLeastOf}
use Rattle.lic_auto.specs.Runs.{RunHasTaken, set_of}
use Rattle.lic_set.specs.Matches.{letters_between}
use Rattle.lic_find.specs.Scans.{letters_up_to}
use Rattle.lic_find.proofs.Asking.{IsMatch-answer, is_number}
use Rattle.lic_find.proofs.Ranges.{letters_up_to-more, letters_up_to-none}
use Rattle.lic_find.proofs.matches.is_match.Goals as goal

pub loop-number-init : goal.loop-number-init
loop-number-init c =
    record {
      templates = c.in_ok-run.ensures.set;
      numbers = c.in_ok-run.ensures.numbers ∙ c.in_ok-only.ensures.items;
      taken = subst (RunHasTaken c.in_ok-run.run') (sym (letters_up_to-none c.args.text.now.tokens c.args.triple.first)) c.in_ok-run.ensures.taken;
    }

pub loop-number-preserved : goal.loop-number-preserved
loop-number-preserved c =
    let first = c.args.triple.first in
    let tokens = c.args.text.now.tokens in
    let number = c.loop-number.number in
    let token : TokenValue = record { text = c.token.result.text.now; span = c.token.result.span } in
    let within : number < length tokens = omega arith in
    record {
      templates = c.push.ensures.set ∙ c.loop-number.invariant.templates;
      numbers = c.push.ensures.numbers ∙ c.loop-number.invariant.numbers;
      taken = subst (RunHasTaken c.push.new.self) (sym (letters_up_to-more tokens first number token c.loop-number.auto.number within))
          (subst (λ text. RunHasTaken c.push.new.self (letters_up_to tokens first number ++ chars text ∷ [])) (c.token.ensures.text token)
          (c.push.ensures.taken (letters_up_to tokens first number) c.loop-number.invariant.taken));
    }

pub returns : goal.returns
returns c =
    let triple = c.args.triple in
    let tokens = c.args.text.now.tokens in
    let order : triple.first ≤ triple.last = omega arith in
    let within : triple.last < length tokens = omega arith in
    let whole : c.loop-number.number ≡ triple.last + 1 = omega arith in
    let taken : RunHasTaken c.loop-number.run (letters_between tokens triple.first triple.last) =
    subst (λ n. RunHasTaken c.loop-number.run (letters_up_to tokens triple.first n)) whole c.loop-number.invariant.taken in
    let least = c.accepted.ensures.least (letters_between tokens triple.first triple.last) taken in
    IsMatch-answer c.args.set.now tokens triple c.accepted.result _ order within
    (subst (λ s. IsLeastOf s (triple.template ∷ [])
    (letters_between tokens triple.first triple.last) triple.template c.accepted.result) c.loop-number.invariant.templates
    (subst (λ ns. IsLeastOf (set_of c.loop-number.run) ns
    (letters_between tokens triple.first triple.last) triple.template c.accepted.result) c.loop-number.invariant.numbers least))
    (is_number c.accepted.result triple.template c.eq.result c.eq.ensures)
