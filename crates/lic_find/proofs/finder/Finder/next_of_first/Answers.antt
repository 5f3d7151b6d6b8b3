use Rattle.std.proofs.Common.{◌+◌, ◌*◌, ◌^◌, ◌-◌, ◌<◌, ◌≤◌, ◌∷◌, ◌++◌, [], length, get_or, Some, sym, ap, ◌∙◌, subst, arith}
use Rattle.std.proofs.Math.Bridge.{le_prop}
use Rattle.std.proofs.Math.Logic.{∥∥₁_elim, ∥∥₁_map}
use Rattle.std.proofs.lemmas.Grind.{not_there}
use Rattle.std.specs.Str.{chars}
use Rattle.lic_norm.specs.Tokens.{TokenValue}
use Rattle.lic_words.specs.Letters.{letters_in}
use Rattle.lic_auto.specs.Runs.{RunHasTakenAmong, numbers_of, steps_of}
use Rattle.lic_find.specs.Counts.{AreCounted}
use Rattle.lic_find.specs.Listing.{matches_among}
use Rattle.lic_find.specs.Remaining.{cursor_of}
use Rattle.lic_find.specs.Starts.{starts_in}
use Rattle.lic_find.specs.Scans.{letters_up_to}
use Rattle.lic_find.proofs.LetterLemmas.{letters_of-drop, letters_of-drop_le}
use Rattle.lic_find.proofs.Matching.{matches_among-next, same_list}
use Rattle.lic_find.proofs.StepLemmas.{AreCounted-push}
use Rattle.lic_find.proofs.Scanning.{HasCome-found, HasCome-push, AllEndBy-at_end, AllEndBy-dead, NoneBegins-ended}
use Rattle.lic_find.proofs.finder.Finder.next_of_first.Goals as goal
use Rattle.lic_find.proofs.finder.Finder.next_of_first.Goals.{then-self-len-via-then-self-len, then-self-len-via-else-self-len+then-dead}

pub invariant_of-self : goal.invariant_of-self
invariant_of-self c =
    let f = c.loop-triple.self in
    record {
      come = ∥∥₁_map f.come (λ come.
          let next = c.in-Some.ensures come in
          HasCome-found f.set.now f.text.now.tokens (cursor_of f) f.run (starts_in f.starts) f.first f.end come c.in-Some.triple next.0 next.1);
      order = f.order;
      counted = f.counted;
    }

pub returns-in-Some-clause-some : goal.returns-in-Some-clause-some
returns-in-Some-clause-some c =
    let f = c.loop-triple.self in
    let set = f.set.now in
    let tokens = f.text.now.tokens in
    let triple = c.in-Some.triple in
    sym c.loop-triple.invariant.rest
    ∙ same_list (matches_among set tokens (numbers_of f.run) (cursor_of f)) (triple ∷ matches_among set tokens (numbers_of f.run) (Some triple))
    (∥∥₁_map f.come (λ come. matches_among-next set tokens (λ after. c.matches_are_listed.ensures set tokens after) (numbers_of f.run)
    (cursor_of f) triple (c.in-Some.ensures come).2))

pub returns-in-Some-clause-most : goal.returns-in-Some-clause-most
returns-in-Some-clause-most c =
    let f = c.args.self.now in
    let part = letters_of-drop_le f.text.now.tokens f.end in
    let most = c.loop-triple.invariant.most in
    omega arith

pub returns-then-self-len-clause-ended : goal.returns-then-self-len-clause-ended
returns-then-self-len-clause-ended c = λ t m here.
    let f = c.loop-triple.self in
    let set = f.set.now in
    let tokens = f.text.now.tokens in
    elim c.then-self-len.branch [
      | then-self-len-via-then-self-len w ↦
          let all : length tokens ≤ f.end = omega arith in
          ∥∥₁_elim f.come le_prop (λ come. AllEndBy-at_end set tokens (cursor_of f) f.run (starts_in f.starts) f.first f.end come all t m here)
      | then-self-len-via-else-self-len+then-dead w ↦
          ∥∥₁_elim f.come le_prop (λ come.
          AllEndBy-dead set tokens (cursor_of f) f.run (starts_in f.starts) f.first f.end come
          (w.dead.ensures.among w.if-dead.true) t m here)
    ]

pub returns-then-self-len-clause-none : goal.returns-then-self-len-clause-none
returns-then-self-len-clause-none c = λ t m after here.
    let f = c.loop-triple.self in
    not_there f.come (λ come.
    NoneBegins-ended f.set.now f.text.now.tokens (cursor_of f) f.run (starts_in f.starts) f.first f.end come
    (c.in_default.ensures come) (returns-then-self-len-clause-ended c) t m after here)

pub returns-then-self-len-clause-most : goal.returns-then-self-len-clause-most
returns-then-self-len-clause-most c =
    let f = c.args.self.now in
    let part = letters_of-drop_le f.text.now.tokens f.end in
    let most = c.loop-triple.invariant.most in
    omega arith

pub invariant_of-self-in-loop-triple : goal.invariant_of-self-in-loop-triple
invariant_of-self-in-loop-triple c =
    let f = c.loop-triple.self in
    let tokens = f.text.now.tokens in
    let token : TokenValue = record { text = c.token.result.text.now; span = c.token.result.span } in
    let fits : f.end < length tokens = omega arith in
    let text = c.token.ensures.text token in
    record {
      come = ∥∥₁_map f.come (λ come.
          HasCome-push f.set.now tokens (cursor_of f) f.run
          (starts_in f.starts) f.first f.end come c.push.new.self token
          (c.in_default.ensures come) fits c.push.ensures.set c.push.ensures.numbers
          (subst (λ text. RunHasTakenAmong c.push.new.self come.numbers (letters_up_to tokens f.first f.end ++ chars text ∷ [])) text
          (c.push.ensures.among come.numbers (letters_up_to tokens f.first f.end) come.taken)));
      order = let order = f.order in omega arith;
      counted = subst (λ ns. AreCounted f.set.now tokens ns f.began f.noting (steps_of c.push.new.self) f.first (f.end + 1)) (sym c.push.ensures.numbers)
          (AreCounted-push f.set.now tokens (numbers_of f.run) f.began f.noting (steps_of f.run) f.first f.end f.counted token
          (steps_of c.push.new.self) f.order fits c.push.ensures.never_fall
          (subst (λ text. steps_of c.push.new.self ≤ steps_of f.run + 2 * letters_in (chars text)) text c.push.ensures.most)
          (subst (λ text. steps_of c.push.new.self < 2 ^ 64 - 1 → steps_of f.run + letters_in (chars text) ≤ steps_of c.push.new.self) text
          (c.push.ensures.least (sym c.dead.ensures.value ∙ c.if-dead.false))));
    }

pub loop-triple-preserved : goal.loop-triple-preserved
loop-triple-preserved c =
    let f = c.loop-triple.self in
    let tokens = f.text.now.tokens in
    let inv = c.loop-triple.invariant in
    let token : TokenValue = record { text = c.token.result.text.now; span = c.token.result.span } in
    let fits : f.end < length tokens = omega arith in
    let most : steps_of c.push.new.self ≤ steps_of f.run + 2 * letters_in (chars (get_or tokens f.end token).text) =
    subst (λ text. steps_of c.push.new.self ≤ steps_of f.run + 2 * letters_in (chars text)) (c.token.ensures.text token) c.push.ensures.most in
    let left = letters_of-drop tokens f.end token fits in
    let before = inv.most in
    let fall = inv.never_fall in
    let grows = c.push.ensures.never_fall in
    record {
      rest = ap (λ ns. matches_among f.set.now tokens ns (cursor_of f)) c.push.ensures.numbers ∙ inv.rest;
      given = inv.given;
      same = record {
        set = inv.same.set;
        text = inv.same.text;
        numbers = c.push.ensures.numbers ∙ inv.same.numbers;
        began = inv.same.began;
        starts =
            inv.same.starts;
        noting = inv.same.noting;
        first = inv.same.first;
      };
      never_fall = omega arith;
      most = omega arith;
    }
