use Rattle.std.proofs.Common.{◌≡◌, ◌+◌, ◌*◌, ◌≤◌, ◌∷◌, [], Contains, None, MatchOption, sym, ap, ◌∙◌, subst, arith}
use Rattle.std.proofs.Math.Bridge.{le_prop}
use Rattle.std.proofs.Math.Logic.{∥∥₁_elim, ∥∥₁_map}
use Rattle.std.proofs.lemmas.Grind.{not_there}
use Rattle.std.specs.Option.{option_or}
use Rattle.lic_auto.specs.Runs.{numbers_of, steps_of}
use Rattle.lic_find.specs.Among.{HaveAllMatches}
use Rattle.lic_find.specs.Counts.{AreCounted}
use Rattle.lic_find.specs.Listing.{matches_among}
use Rattle.lic_set.specs.Matches.{IsMatch}
use Rattle.lic_find.specs.Bounds.{letters_of, letters_of_matches}
use Rattle.lic_find.specs.Firsts.{AreFirstsFrom, NoneBeginFrom}
use Rattle.lic_find.specs.Remaining.{cursor_of, remaining_matches}
use Rattle.lic_find.specs.Starts.{starts_in}
use Rattle.lic_find.specs.Scans.{HasCome, NoneBegins}
use Rattle.lic_find.proofs.GivingLemmas.{YieldsFirst-given, IfNone-never, capped-le, capped-most, capped-below}
use Rattle.lic_find.proofs.Matching.{matches_among-none, same_list}
use Rattle.lic_find.proofs.StepLemmas.{AreCounted-next, walked-all}
use Rattle.lic_find.proofs.Scanning.{HasCome-next_first, next_first, none_after, some_begins, there}
use Rattle.lic_find.proofs.finder.FinderIterator.next.Goals as goal

pub begin_next-requires : goal.begin_next-requires
begin_next-requires c = λ noted more is k inside.
    let f = c.next_of_first.new.self in
    there (numbers_of f.run) k (∥∥₁_map f.come (λ come.
    (next_first f.set.now f.text.now.tokens (cursor_of f) f.run (starts_in f.starts) f.first f.end come noted more is).0.within k inside))

pub returns-in_err-first-clause-steps : goal.returns-in_err-first-clause-steps
returns-in_err-first-clause-steps c =
    let old = c.args.self.now in
    let f = c.next_of_first.new.self in
    let set = f.set.now in
    let tokens = f.text.now.tokens in
    let same = c.in_default.ensures.same in
    let still = c.in_err-first.ensures.none in
    let empty : remaining_matches f ≡ [] =
    same_list (remaining_matches f) [] (∥∥₁_map f.come (λ come.
    matches_among-none set tokens (λ after. c.matches_are_listed.ensures set tokens after) (numbers_of f.run) (cursor_of f)
    (none_after set tokens (cursor_of f) f.run (starts_in f.starts) f.first f.end come c.in_default.ensures.none still.0))) in
    let left : matches_among set tokens (numbers_of c.begin_next.new.run) (cursor_of f) ≡ [] =
    ap (λ ns. matches_among set tokens ns (cursor_of f)) c.begin_next.ensures.numbers ∙ empty in
    let none : NoneBeginFrom set tokens (numbers_of f.run) (f.first + 1) =
    λ t m late. not_there f.come (λ come. subst (AreFirstsFrom set tokens (numbers_of f.run) (f.first + 1)) still.0 come.firsts t m late) in
    let run : steps_of c.begin_next.new.run ≡ steps_of f.run = ap steps_of still.2 in
    let fall = c.in_default.ensures.never_fall in
    let more = c.in_default.ensures.most in
    let noting = same.noting in
    let same_tokens : tokens ≡ old.text.now.tokens = ap (λ t. t.now.tokens) same.text in
    let same_set : set ≡ old.set.now = ap (λ s. s.now) same.set in
    record {
      first = subst (λ r. MatchOption r ((remaining_matches old ≡ []) × (matches_among set tokens (numbers_of c.begin_next.new.run) (cursor_of f) ≡ []))
          (λ triple. remaining_matches old ≡ triple ∷ matches_among set tokens (numbers_of c.begin_next.new.run) (cursor_of f))) (sym c.from_residual.ensures)
          (sym c.in_default.ensures.rest ∙ empty, left);
      templates = same_set;
      text = same_tokens;
      numbers = c.begin_next.ensures.numbers ∙ same.numbers;
      began = same.began;
      given = c.in_default.ensures.given ∙ ap (λ r. option_or r old.given) (sym c.from_residual.ensures);
      never_fall = capped-le (old.noting + steps_of old.run) (f.noting + steps_of c.begin_next.new.run) (omega arith);
      most = capped-most (old.noting + steps_of old.run) (f.noting + steps_of c.begin_next.new.run) (4 * (letters_of old.text.now.tokens + 1)) (omega arith);
      least = λ nothing b have bounded.
          let below = capped-below (f.noting + steps_of c.begin_next.new.run) bounded in
          let every : HaveAllMatches set tokens (numbers_of f.run) =
          λ t m.
          subst (λ ns. Contains ns t.template) (sym same.numbers)
          (have t (subst (λ s. IsMatch s old.text.now.tokens t) same_set (subst (λ ts. IsMatch set ts t) same_tokens m))) in
          let all : letters_of_matches set tokens ≤ steps_of f.run =
          walked-all set tokens (λ after. c.matches_are_listed.ensures set tokens after) (numbers_of f.run) f.began f.noting
          (steps_of f.run) f.first f.end f.counted f.order c.in_default.ensures.ended none
          (same.began ∙ b) every (omega arith) in
          let noted : letters_of tokens ≤ f.noting = f.counted.noting_least (same.began ∙ b) (omega arith) in
          let left : letters_of old.text.now.tokens ≡ letters_of tokens = ap letters_of (sym same_tokens) in
          let right : letters_of_matches old.set.now old.text.now.tokens ≡ letters_of_matches set tokens =
          ap (λ ts. letters_of_matches old.set.now ts) (sym same_tokens) ∙ ap (λ s. letters_of_matches s tokens) (sym same_set) in
          omega arith;
    }

pub invariant_of-self-2 : goal.invariant_of-self-2
invariant_of-self-2 c =
    let f = c.next_of_first.new.self in
    let set = f.set.now in
    let tokens = f.text.now.tokens in
    let new = c.begin_next.new.run in
    let left = starts_in c.begin_next.new.starts in
    let (noted, is, here, taken) = c.in_ok-first.ensures.some in
    record {
      come = ∥∥₁_map f.come (λ come.
          subst (λ n. HasCome set tokens (cursor_of f) new left n n) here
          (HasCome-next_first set tokens (cursor_of f) f.run (starts_in f.starts) f.first f.end come noted left is new c.in_default.ensures.none
          c.begin_next.ensures.set c.begin_next.ensures.numbers taken));
      order = omega arith;
      counted = ∥∥₁_elim f.come (hlevel (le_prop)) (λ come.
          subst (λ ns. AreCounted set tokens ns f.began f.noting (steps_of new) c.in_ok-first.first c.in_ok-first.first) (sym c.begin_next.ensures.numbers)
          (subst (λ n. AreCounted set tokens (numbers_of f.run) f.began f.noting (steps_of new) n n) here
          (AreCounted-next set tokens (λ after. c.matches_are_listed.ensures set tokens after) (numbers_of f.run) f.began f.noting
          (steps_of f.run) f.first f.end f.counted f.order c.in_default.ensures.ended
          (steps_of new) noted
          (next_first set tokens (cursor_of f) f.run
          (starts_in f.starts) f.first f.end come noted left is).0 c.begin_next.ensures.steps.0 c.begin_next.ensures.steps.1)));
    }

pub returns-clause-steps : goal.returns-clause-steps
returns-clause-steps c =
    let old = c.args.self.now in
    let f = c.next_of_first.new.self in
    let new = c.next_of_first-2.new.self in
    let r = c.next_of_first-2.result in
    let first = c.in_default.ensures in
    let second = c.next_of_first-2.ensures in
    let (noted, is, here, taken) = c.in_ok-first.ensures.some in
    let never : r ≡ None → ⊥ =
    IfNone-never r
    (λ nothing none. not_there f.come (λ come.
    some_begins f.set.now f.text.now.tokens (cursor_of f) f.run (starts_in f.starts) f.first f.end come noted (starts_in c.begin_next.new.starts) is
    (let cursor : cursor_of new ≡ cursor_of f =
    ap (λ g. option_or g new.began) (second.given ∙ ap (λ o. option_or o f.given) nothing) ∙ ap (option_or f.given) second.same.began in
    let numbers : numbers_of new.run ≡ numbers_of f.run = second.same.numbers ∙ c.begin_next.ensures.numbers in
    subst (λ s. NoneBegins s f.text.now.tokens (numbers_of f.run) (cursor_of f) noted.first) (ap (λ s. s.now) second.same.set)
    (subst (λ ts. NoneBegins new.set.now ts (numbers_of f.run) (cursor_of f) noted.first) (ap (λ t. t.now.tokens) second.same.text)
    (subst (λ ns. NoneBegins new.set.now new.text.now.tokens ns (cursor_of f) noted.first) numbers
    (subst (λ p. NoneBegins new.set.now new.text.now.tokens (numbers_of new.run) p noted.first) cursor
    (subst (NoneBegins new.set.now new.text.now.tokens (numbers_of new.run) (cursor_of new)) (second.same.first ∙ sym here) none))))))) second.none in
    let fall = first.never_fall in
    let more = first.most in
    let later_fall = second.never_fall in
    let later_more = second.most in
    let begin = c.begin_next.ensures.steps in
    let noting : new.noting ≡ old.noting = second.same.noting ∙ first.same.noting in
    let same_tokens : f.text.now.tokens ≡ old.text.now.tokens = ap (λ t. t.now.tokens) first.same.text in
    let letters : letters_of f.text.now.tokens ≡ letters_of old.text.now.tokens = ap letters_of same_tokens in
    record {
      first = YieldsFirst-given old new (matches_among f.set.now f.text.now.tokens (numbers_of c.begin_next.new.run) (cursor_of f)) r
          (ap (λ ns. matches_among f.set.now f.text.now.tokens ns (cursor_of f)) c.begin_next.ensures.numbers ∙ first.rest) second.some never;
      templates = ap (λ s. s.now) second.same.set ∙ ap (λ s. s.now) first.same.set;
      text = ap (λ t. t.now.tokens) second.same.text ∙ same_tokens;
      numbers = second.same.numbers ∙ c.begin_next.ensures.numbers ∙ first.same.numbers;
      began = second.same.began ∙ first.same.began;
      given = second.given ∙ ap (option_or r) first.given;
      never_fall = capped-le (old.noting + steps_of old.run) (new.noting + steps_of new.run) (omega arith);
      most = capped-most (old.noting + steps_of old.run) (new.noting + steps_of new.run) (4 * (letters_of old.text.now.tokens + 1)) (omega arith);
      least = λ nothing. absurd (never nothing);
    }
