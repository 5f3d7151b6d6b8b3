-- Places among which all ends are, or all places of the bytes.
use Rattle.std.proofs.Common.{◌≡◌, ◌↔◌, ℕ, [], Some, None, Vec, Global, length, sym, ap, ◌∙◌, subst, arith}
use Rattle.std.specs.Prelude.{Contains}
use Rattle.std.specs.List.Sorted.{IsStrictlyIncreasing}
use Rattle.std.specs.Option.{option_map}
use Rattle.std.proofs.lemmas.List.{get_or_default}
use Rattle.lic_literals.specs.Ends.{EndsAt}
use Rattle.lic_literals.specs.Kept.{ends_of}
use Rattle.lic_keys.specs.Candidates.{KeepsEnds}
use Rattle.lic_keys.specs.Keys.{letters_of, text_of}
use Rattle.lic_keys.proofs.CandidateLemmas.{true-exact, true-rising}
use Rattle.lic_keys.proofs.keys.Keys.ends.Goals as goal
use Rattle.lic_keys.proofs.keys.Keys.ends.Goals.{in-Some-2, in-None+in_ok-places-in-None}

-- the letters of the candidate's text
own-letters : (c : goal.Joined-branch-2) → c.literal-letters.result.now ≡ letters_of c.args.self.now c.args.candidate.now.number
own-letters c = c.literal-letters.ensures [] ∙ ap (λ v. letters_of v c.args.candidate.now.number) c.self.view_is

keeps : (c : goal.Joined-branch-2) → KeepsEnds c.args.bytes.now c.literal-letters.result.now c.args.candidate.now
keeps c =
    let number = c.args.candidate.now.number in
    let texts = c.self.inside.texts.items in
    let count : length texts ≡ length c.args.self.now.texts = ap (λ v. length v.texts) c.self.view_is in
    let text : text_of c.args.self.now number ≡ Some c.in-Some.part =
    ap (λ v. text_of v number) (sym c.self.view_is)
    ∙ get_or_default texts number None c.index.result.now (omega (arith, c.requires.below))
    ∙ sym c.index.ensures ∙ c.in-Some.is in
    subst (λ letters. KeepsEnds c.args.bytes.now letters c.args.candidate.now) (sym (own-letters c)) (c.requires.ends c.in-Some.part text)

-- the places that are known
known : (c : goal.Joined-branch-2) (places : Vec ℕ Global) → c.in_ok-places.field-0 ≡ Some places → ends_of c.args.candidate.now ≡ Some places.items
known c places is = sym c.in_ok-places.ensures ∙ ap (option_map (λ list. list.items)) is

pub returns-clause-exact : goal.returns-clause-exact
returns-clause-exact c = λ e.
    let bytes = c.args.bytes.now in
    let letters = c.literal-letters.result.now in
    let all : Contains c.match-branch-2.places.items e ↔ EndsAt bytes letters e =
    elim c.match-branch-2.branch [
      | in-Some-2 w ↦
          subst (λ ps. Contains ps e ↔ EndsAt bytes letters e) (sym (ap (λ v. v.items) w.places-is ∙ w.true_ends-places.ensures))
          (true-exact bytes letters c.args.candidate.now (keeps c) w.in-Some-2.places.items (known c w.in-Some-2.places w.in-Some-2.is) e)
      | in-None+in_ok-places-in-None w ↦
          let exact = w.in_ok-places-in-None.ensures.exact e in
          subst (λ ps. Contains ps e ↔ EndsAt bytes letters e) (sym (ap (λ v. v.items) w.places-is))
          (λ inside. (exact.0 inside).2, λ ends. exact.1 (omega arith, ends.within, ends))
    ] in
    subst (λ l. Contains c.match-branch-2.places.items e ↔ EndsAt bytes l e) (own-letters c) all

pub returns-clause-rising : goal.returns-clause-rising
returns-clause-rising c =
    elim c.match-branch-2.branch [
      | in-Some-2 w ↦
          subst IsStrictlyIncreasing (sym (ap (λ v. v.items) w.places-is ∙ w.true_ends-places.ensures))
          (true-rising c.args.bytes.now c.literal-letters.result.now c.args.candidate.now (keeps c) w.in-Some-2.places.items (known c w.in-Some-2.places w.in-Some-2.is))
      | in-None+in_ok-places-in-None w ↦
          subst IsStrictlyIncreasing (sym (ap (λ v. v.items) w.places-is)) w.in_ok-places-in-None.ensures.rising
    ]
