use Rattle.std.proofs.Common.{◌≡◌, ◌<◌, ◌≤◌, length, drop, None, unwrap_or, sym, ap, ◌∙◌, subst, arith}
use Rattle.lic_auto.specs.Runs.{numbers_of, steps_of}
use Rattle.lic_find.specs.Bounds.{letters_of}
use Rattle.lic_find.specs.Among.{AreMatchesAmong}
use Rattle.lic_find.specs.Counts.{AreCounted}
use Rattle.lic_find.specs.Firsts.{AreFirstsFrom}
use Rattle.lic_find.specs.Listing.{matches_among}
use Rattle.lic_find.specs.Starts.{starts_in}
use Rattle.lic_find.specs.Scans.{HasCome}
use Rattle.lic_find.proofs.AmongLemmas.{AreMatchesAmong-listed}
use Rattle.lic_find.proofs.BeginningLemmas.{HasBegun, HasBegun-given, HasCome-begun, AreCounted-begun, begins_whole, IfNone-map}
use Rattle.lic_find.proofs.finder.Finder.over.Goals as goal

pub begin_next-requires : goal.begin_next-requires
begin_next-requires c = λ noted more is k inside.
    let set = c.args.set.now in
    let tokens = c.args.text.now.tokens in
    let firsts : AreFirstsFrom set tokens (numbers_of c.in_ok-run.run') c.min-from.result (starts_in c.in_ok-starts.starts) =
    subst (λ ns. AreFirstsFrom set tokens ns c.min-from.result (starts_in c.in_ok-starts.starts))
    (c.in_ok-scanned.ensures.items ∙ c.deref.ensures.value ∙ sym c.in_ok-run.ensures.numbers) c.in_ok-starts.ensures.firsts in
    (subst (AreFirstsFrom set tokens (numbers_of c.in_ok-run.run') c.min-from.result) is firsts).0.within k inside

pub invariant_of-result : goal.invariant_of-result
invariant_of-result c =
    let set = c.args.set.now in
    let tokens = c.args.text.now.tokens in
    let firsts : AreFirstsFrom set tokens (numbers_of c.in_ok-run.run') c.min-from.result (starts_in c.in_ok-starts.starts) =
    subst (λ ns. AreFirstsFrom set tokens ns c.min-from.result (starts_in c.in_ok-starts.starts))
    (c.in_ok-scanned.ensures.items ∙ c.deref.ensures.value ∙ sym c.in_ok-run.ensures.numbers) c.in_ok-starts.ensures.firsts in
    let run = c.in_ok-run.run' in
    let new = c.begin_next.new.run in
    let starts = starts_in c.in_ok-starts.starts in
    let left = starts_in c.begin_next.new.starts in
    let r = c.begin_next.result in
    let begin = c.first_token.result in
    let from = c.min-from.result in
    let begun : HasBegun starts left run new r =
    HasBegun-given starts left run new r c.begin_next.ensures.some
    (IfNone-map r (λ (empty, same, still). (empty, ap starts_in same, still)) c.begin_next.ensures.none) in
    let low : from ≤ begin = omega (arith, c.min-from.ensures) in
    let high : from < length tokens → begin ≤ from = λ h. omega (arith, c.min-from.ensures, c.len.ensures) in
    let within : from ≤ length tokens = omega (arith, c.min-from.ensures, c.len.ensures) in
    let whole : c.args.after ≡ None → from ≡ 0 = λ all. let zero : begin ≡ 0 = begins_whole c.args.after begin c.first_token.ensures all in omega arith in
    let first : c.unwrap_or-first.result ≡ unwrap_or r (length tokens) = c.unwrap_or-first.ensures ∙ ap (unwrap_or r) c.len-2.ensures in
    record {
      come = ∣ subst (λ n. HasCome set tokens c.args.after new left n n) (sym first)
          (HasCome-begun set tokens c.args.after from run new c.begin_next.ensures.numbers starts left firsts begin c.first_token.ensures low high
          (c.begin_next.ensures.set ∙ c.in_ok-run.ensures.set) c.in_ok-run.ensures.taken r begun) ∣₁;
      order = omega arith;
      counted = subst (λ n. AreCounted set tokens (numbers_of new) c.args.after c.in_ok-starts.noting (steps_of new) n n) (sym first)
          (AreCounted-begun set tokens c.args.after from run new c.begin_next.ensures.numbers starts left firsts (λ after. c.matches_are_listed.ensures set tokens after)
          c.in_ok-starts.noting c.in_ok-starts.ensures.most
          (λ all bounded. subst (λ n. letters_of (drop n tokens) ≤ c.in_ok-starts.noting) (whole all) (c.in_ok-starts.ensures.least bounded))
          whole within c.in_ok-run.ensures.steps c.begin_next.ensures.steps.1 r begun);
    }

pub returns-clause-matches : goal.returns-clause-matches
returns-clause-matches c =
    let set = c.args.set.now in
    let tokens = c.args.text.now.tokens in
    let numbers = c.args.numbers.items in
    subst (λ ns. AreMatchesAmong set tokens numbers c.args.after (matches_among set tokens ns c.args.after))
    (sym (c.begin_next.ensures.numbers ∙ c.in_ok-run.ensures.numbers))
    (AreMatchesAmong-listed set tokens numbers c.args.after (c.matches_are_listed.ensures set tokens c.args.after))
