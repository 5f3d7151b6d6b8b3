-- The literal of one number more is looked at.
use Rattle.std.proofs.Common.{◌≡◌, ℕ, ◌+◌, ◌<◌, ◌≤◌, List, ◌∷◌, ◌++◌, [], Option, None, Some, HoldsAt, MatchOption, length, get_or, take, sym, ap, ◌∙◌, subst, arith}
use Rattle.std.specs.List.{Contains, slice_get}
use Rattle.std.specs.List.Sorted.{IsStrictlyIncreasing}
use Rattle.std.proofs.lemmas.List.{take_all, take_more}
use Rattle.lic_literals.specs.Ends.{EndsAt}
use Rattle.lic_literals.specs.Groups.{IsCandidate}
use Rattle.lic_literals.specs.Kept.{MayEndAt}
use Rattle.lic_literals.specs.Keys.{CanEndAt, plain}
use Rattle.lic_literals.specs.Windows.{HasKey}
use Rattle.lic_literals.specs.declared.kept.Kept.{Kept}
use Rattle.lic_literals.specs.declared.tables.Key.{Key}
use Rattle.lic_literals.proofs.KeysLemmas.{IsAnswer, answer_more, answer_none, answer_same, is_candidate, can_end}
use Rattle.lic_literals.proofs.Rising.{less_before}
use Rattle.lic_literals.proofs.prefilter.Prefilter.kept.Goals as goal
use Rattle.lic_literals.proofs.prefilter.Prefilter.kept.Goals.{in-Some+in_ok-candidate+in_ok-push, in_default}

pub loop-number-init : goal.loop-number-init
loop-number-init c =
    subst (IsAnswer c.args.self.now c.args.bytes.now []) (sym c.in_ok-kept.ensures.items) (answer_none c.args.self.now c.args.bytes.now)

pub loop-number-preserved : goal.loop-number-preserved
loop-number-preserved c =
    let literals = c.args.self.now in
    let bytes = c.args.bytes.now in
    let numbers = c.deref-number-items.result.now in
    let i = c.loop-number.number-index in
    let n = get_or numbers i 0 in
    let tables = c.self.inside.tables in
    let keys = c.self.inside.keys.items in
    let read = c.deref-in-loop-number.result.now in
    let hits = c.note_all.new.hits in
    let size : length (plain c.self.inside.literals.items) ≡ length literals = ap length c.self.view_is in
    let count : length read ≡ length literals = ap length c.deref-in-loop-number.ensures.value ∙ c.self.invariant.keyed.count ∙ size in
    let more : take (i + 1) numbers ≡ take i numbers ++ n ∷ [] = take_more numbers i 0 c.loop-number-test.true in
    let rising : IsStrictlyIncreasing numbers = subst IsStrictlyIncreasing (sym c.deref-number-items.ensures.value) c.in_ok-numbers.ensures.rising in
    elim c.match-get.branch [
      | in-Some+in_ok-candidate+in_ok-push w ↦
          let key : Option Key = w.in-Some.key.now in
          let one : Kept = w.in_ok-candidate.field-0 in
          let found : (n < length read) × HoldsAt (λ y. key ≡ y) read n =
          subst (λ r. MatchOption r (length read ≤ n) (λ x. (n < length read) × HoldsAt (λ y. x.now ≡ y) read n)) w.in-Some.is c.get.ensures.lookup.3 in
          let is : get_or keys n None ≡ key = ap (λ ks. get_or ks n None) (sym c.deref-in-loop-number.ensures.value) ∙ sym (found.1 None) in
          let may : (e : ℕ) (literal : List ℕ) → slice_get literals n ≡ Some literal → EndsAt bytes literal e → MayEndAt one e =
          λ e literal there ends.
          let has : HasKey tables literal key =
          subst (HasKey tables literal) is (c.self.invariant.keyed.has n literal (subst (λ ls. slice_get ls n ≡ Some literal) (sym c.self.view_is) there)) in
          let can : CanEndAt key hits e = can_end tables bytes literal c.new-hits.result hits e key c.in_ok-note_all.ensures has ends in
          w.in_ok-candidate.ensures.complete e (subst (λ h. CanEndAt key h e) (sym c.in_ok-hits.ensures.ok) can) ends.within in
          subst (λ done. IsAnswer literals bytes done c.match-get.kept.items) (sym more)
          (subst (λ list. IsAnswer literals bytes (take i numbers ++ n ∷ []) list.items) (sym w.kept-is)
          (subst (IsAnswer literals bytes (take i numbers ++ n ∷ [])) (sym w.in_ok-push.ensures.items)
          (answer_more literals bytes (take i numbers) n c.loop-number.kept.items c.loop-number.invariant one w.in_ok-candidate.ensures.number
          (omega (arith, found.0, count)) (λ x inside. less_before numbers rising i x c.loop-number-test.true inside)
          may w.in_ok-candidate.ensures.rising w.in_ok-candidate.ensures.within)))
      | in_default w ↦
          let past : length read ≤ n =
          subst (λ r. MatchOption r (length read ≤ n) (λ x. (n < length read) × HoldsAt (λ y. x.now ≡ y) read n)) w.in_default.is c.get.ensures.lookup.3 in
          subst (λ done. IsAnswer literals bytes done c.match-get.kept.items) (sym more)
          (subst (λ list. IsAnswer literals bytes (take i numbers ++ n ∷ []) list.items) (sym w.kept-is)
          (answer_same literals bytes (take i numbers) n c.loop-number.kept.items c.loop-number.invariant (omega (arith, past, count))))
    ]

pub returns-clause-complete : goal.returns-clause-complete
returns-clause-complete c = λ number e literal there ends.
    let literals = c.args.self.now in
    let inside = c.self.inside in
    let numbers = c.deref-number-items.result.now in
    let hits = c.note_all.new.hits in
    let is_one : IsCandidate inside.groups hits number =
    is_candidate (plain inside.literals.items) inside.keys.items inside.groups inside.tables c.self.invariant c.args.bytes.now c.new-hits.result hits
    c.in_ok-note_all.ensures number e literal ends (subst (λ ls. slice_get ls number ≡ Some literal) (sym c.self.view_is) there) in
    let value : hits ≡ c.deref.result.now = sym c.in_ok-hits.ensures.ok ∙ sym c.deref.ensures in
    let done : numbers ≡ take c.loop-number.number-index numbers = sym (take_all c.loop-number.number-index numbers c.loop-number-test.false) in
    c.loop-number.invariant.complete number e literal
    (subst (λ ns. Contains ns number) (sym c.deref-number-items.ensures.value ∙ done)
    (c.in_ok-numbers.ensures.complete number (subst (λ h. IsCandidate inside.groups h number) value is_one)))
    there ends
