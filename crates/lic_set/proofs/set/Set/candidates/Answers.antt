-- Candidates by what is looked for of each template.
use Rattle.std.proofs.Common.{◌≡◌, ◌<◌, All, map, length, sym, ◌∙◌, subst, arith}
use Rattle.std.specs.List.Sorted.{IsStrictlyIncreasing}
use Rattle.std.proofs.lemmas.List.Elements.{All-weaker}
use Rattle.std.proofs.lemmas.Result.{IfOk-weaker}
use Rattle.lic_literals.specs.Ends.{EndsAt}
use Rattle.lic_places.specs.Places.{AreTexts, spelling_of}
use Rattle.lic_keys.specs.Candidates.{IsCandidateIn}
use Rattle.lic_keys.specs.Keys.{AreKeysOf, letters_of}
use Rattle.lic_set.specs.Candidates.{IsCandidateOf}
use Rattle.lic_set.specs.Sets.{parts_of}
use Rattle.lic_set.proofs.CandidateLemmas.{both-ok, is-candidate, keys-count, match-ends, match-within, rising-numbers}
use Rattle.lic_set.proofs.set.Set.candidates.Goals as goal

are-keys : (c : goal.After-candidates) → AreKeysOf (parts_of c.args.self.now) c.self.inside.keys
are-keys c = subst (λ set. AreKeysOf (parts_of set) c.self.inside.keys) c.self.view_is c.self.invariant

spelling : (c : goal.After-candidates) → c.spelled.result.now ≡ spelling_of c.args.text.now.tokens
spelling c = c.spelled.ensures

pub returns-clause-rising : goal.returns-clause-rising
returns-clause-rising c =
    let bytes = c.spelled.result.now in
    let keys = c.self.inside.keys in
    let count : length keys.texts ≡ length c.args.self.now = keys-count c.args.self.now keys (are-keys c) in
    IfOk-weaker c.candidates.result _ _
    (λ found h.
    rising-numbers found.items (length c.args.self.now) h.0
    (All-weaker (IsCandidateIn keys bytes) (λ k. k.number < length c.args.self.now) (λ k is. omega (arith, is.below)) found.items h.1))
    (both-ok (λ found. IsStrictlyIncreasing (map (λ k. k.number) found.items)) (λ found. All (IsCandidateIn keys bytes) found.items) c.candidates.result
    c.candidates.ensures.rising c.candidates.ensures.each)

pub returns-clause-others : goal.returns-clause-others
returns-clause-others c =
    let set = c.args.self.now in
    let tokens = c.args.text.now.tokens in
    let keys = c.self.inside.keys in
    let texts : AreTexts tokens = record { utf8 = c.tokens_are_utf8.ensures; texts = c.tokens_are_token_texts.ensures } in
    IfOk-weaker c.candidates.result _ _
    (λ found all. λ t match.
    let ends = match-ends set keys (are-keys c) tokens texts t match in
    let within = match-within set keys (are-keys c) tokens t match in
    all t.template ends.0 within (subst (λ bytes. EndsAt bytes (letters_of keys t.template) ends.0) (sym (spelling c)) ends.1))
    c.candidates.ensures.others

pub returns-clause-each : goal.returns-clause-each
returns-clause-each c =
    let set = c.args.self.now in
    let tokens = c.args.text.now.tokens in
    let keys = c.self.inside.keys in
    IfOk-weaker c.candidates.result _ _
    (λ found all.
    All-weaker (IsCandidateIn keys c.spelled.result.now) (IsCandidateOf set tokens)
    (λ k is. is-candidate set keys (are-keys c) tokens k (subst (λ bytes. IsCandidateIn keys bytes k) (spelling c) is)) found.items all)
    c.candidates.ensures.each
