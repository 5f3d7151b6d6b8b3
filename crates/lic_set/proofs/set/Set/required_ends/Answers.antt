-- The places of a candidate's text.
use Rattle.std.proofs.Common.{◌≡◌, ◌↔◌, ℕ, [], sym, ◌∙◌, subst}
use Rattle.std.specs.Prelude.{Contains, IfSome}
use Rattle.std.specs.Option.{option_map}
use Rattle.std.proofs.lemmas.Result.{IfOk-weaker}
use Rattle.lic_literals.specs.Ends.{EndsAt}
use Rattle.lic_places.specs.Places.{spelling_of}
use Rattle.lic_keys.specs.Candidates.{IsCandidateIn}
use Rattle.lic_keys.specs.Keys.{AreKeysOf, letters_of, text_of}
use Rattle.lic_set.specs.Sets.{Known, parts_of}
use Rattle.lic_set.proofs.CandidateLemmas.{both-ok, hold-ends, is-candidate-in, no-letters}
use Rattle.lic_set.proofs.set.Set.required_ends.Goals as goal

none : Known
none = record { id = []; template = record { parts = []; weight = 0; original = [] } }

pub ends-requires : goal.ends-requires
ends-requires c =
    let set = c.args.self.now in
    let tokens = c.args.text.now.tokens in
    let keys = c.self.inside.keys in
    let are : AreKeysOf (parts_of set) keys = subst (λ s. AreKeysOf (parts_of s) keys) c.self.view_is c.self.invariant in
    subst (λ bytes. IsCandidateIn keys bytes c.args.candidate.now) (sym c.spelled.ensures)
    (is-candidate-in set keys are tokens none c.args.candidate.now c.requires)

pub returns-clause-ends : goal.returns-clause-ends
returns-clause-ends c =
    let set = c.args.self.now in
    let tokens = c.args.text.now.tokens in
    let candidate = c.args.candidate.now in
    let keys = c.self.inside.keys in
    let are : AreKeysOf (parts_of set) keys = subst (λ s. AreKeysOf (parts_of s) keys) c.self.view_is c.self.invariant in
    let spelling : c.spelled.result.now ≡ spelling_of tokens = c.spelled.ensures in
    IfOk-weaker c.ends.result _ _
    (λ found h.
    hold-ends set keys are candidate c.requires.below (spelling_of tokens) found h.0
    (subst (λ bytes. IfSome found (λ ends. (e : ℕ) → Contains ends.places.items e ↔ EndsAt bytes (letters_of keys candidate.number) e)) spelling h.1))
    (both-ok (λ found. option_map (λ ends. ends.part) found ≡ text_of keys candidate.number)
    (λ found. IfSome found (λ ends. (e : ℕ) → Contains ends.places.items e ↔ EndsAt c.spelled.result.now (letters_of keys candidate.number) e)) c.ends.result
    c.ends.ensures.part c.ends.ensures.exact)

pub returns-clause-none : goal.returns-clause-none
returns-clause-none c =
    let set = c.args.self.now in
    let keys = c.self.inside.keys in
    let are : AreKeysOf (parts_of set) keys = subst (λ s. AreKeysOf (parts_of s) keys) c.self.view_is c.self.invariant in
    IfOk-weaker c.ends.result _ _ (λ found is. no-letters set keys are c.args.candidate.now c.requires.below found is) c.ends.ensures.part
