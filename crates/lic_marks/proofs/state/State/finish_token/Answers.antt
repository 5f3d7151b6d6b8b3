use Rattle.std.proofs.Common.{◌≡◌, ℕ, List, [], ◌∷◌, ◌++◌, append_assoc, append-nil, refl, sym, ap, ◌∙◌}
use Rattle.lic_words.specs.Spelling.{Gap}
use Rattle.lic_words.specs.Reading.{gapped_letter, reversed_letters_left}
use Rattle.lic_marks.proofs.Lists.{each_with-append, each_with-none}
use Rattle.lic_marks.proofs.state.State.finish_token.Goals as goal

pub loop-letter-init : goal.loop-letter-init
loop-letter-init c = record {
  width = refl;
  taken = ([], refl, λ lists s. rw (← each_with-none lists) s);
  last = refl;
}

pub loop-letter-preserved : goal.loop-letter-preserved
loop-letter-preserved c =
    let inv = c.loop-letter.invariant in
    let given = c.in-Some.ensures.steps in
    let more : List (Gap × ℕ) = inv.taken.0 in
    let one : Gap × ℕ = gapped_letter c.in-Some.letter in
    record {
      width = c.letter.ensures.positions ∙ inv.width;
      taken = (
        more ++ one ∷ [],
        inv.taken.1 ∙ ap (λ x. more ++ x) given.first ∙ sym (append_assoc more (one ∷ []) (reversed_letters_left c.next.new.self)),
        λ lists s. rw (← each_with-append more (one ∷ []) lists) (c.letter.ensures.taken _ (inv.taken.2 lists s)),
      );
      last = given.last ∙ inv.last;
    }

pub returns-clause-taken : goal.returns-clause-taken
returns-clause-taken c = λ lists s.
    let inv = c.loop-letter.invariant in
    let more : List (Gap × ℕ) = inv.taken.0 in
    let none : reversed_letters_left c.loop-letter.letters ≡ [] = c.in_default.ensures.steps.first.0 in
    let all : reversed_letters_left c.args.letters ≡ more = inv.taken.1 ∙ ap (λ x. more ++ x) none ∙ append-nil more in
    rw all (c.gap.ensures.taken _ (inv.taken.2 lists s))
