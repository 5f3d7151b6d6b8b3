-- Ends that are not known, and those by the offsets of the window.
use Rattle.std.proofs.Common.{◌≤◌, [], All, get_or, sym, ◌∙◌, subst}
use Rattle.std.specs.List.{Contains}
use Rattle.std.specs.List.Sorted.{IsStrictlyIncreasing}
use Rattle.std.proofs.lemmas.Bool.{false≢true}
use Rattle.std.proofs.Math.Logic.{⊎_elim}
use Rattle.lic_literals.specs.Hits.{lists_of, offsets_of}
use Rattle.lic_literals.specs.Keys.{CanEndAt}
use Rattle.lic_literals.specs.declared.kept.Ends.{Ends}
use Rattle.lic_literals.proofs.HitsLemmas.{listed_offset, offsets_rise}
use Rattle.lic_literals.proofs.KeptLemmas.{Contains-shifted, ends_known, ends_unknown, shifted_rises, shifted_within}
use Rattle.lic_literals.proofs.prefilter.candidate.Goals as goal

pub returns-in_default-clause-complete : goal.returns-in_default-clause-complete
returns-in_default-clause-complete c = λ e can fits. ends_unknown (λ ends. Contains ends e) c.args.number

pub returns-in_default-clause-rising : goal.returns-in_default-clause-rising
returns-in_default-clause-rising c = ends_unknown IsStrictlyIncreasing c.args.number

pub returns-in_default-clause-within : goal.returns-in_default-clause-within
returns-in_default-clause-within c = ends_unknown (All (λ e. e ≤ c.args.limit)) c.args.number

pub returns-clause-complete : goal.returns-clause-complete
returns-clause-complete c = λ e can fits.
    let own = c.in-Some.own in
    let hits = c.args.hits.now.value in
    let ends : Ends = record { hits = c.in_ok-clone.field-0; window = own.window; to_end = own.to_end; limit = c.args.limit } in
    let (p, at, noted) = subst (λ k. CanEndAt k hits e) c.in-Some.is can in
    ⊎_elim
    (λ (there : Contains (get_or (lists_of hits) noted.slot []) p).
    ends_known (λ list. Contains list e) c.args.number ends
    (Contains-shifted own.to_end c.args.limit (offsets_of ends.hits.value own.window) p e
    (subst (λ h. Contains (offsets_of h own.window) p) (sym c.in_ok-clone.ensures.cases) (listed_offset hits own.window p noted.slot noted.at there)) at fits))
    (λ (full : 262144 ≤ hits.count).
    absurd (false≢true (sym c.if-not-is_full.true ∙ c.is_full.ensures.1 (subst (λ h. 262144 ≤ h.count) (sym c.deref.ensures) full))))
    noted.listed

pub returns-clause-rising : goal.returns-clause-rising
returns-clause-rising c =
    let own = c.in-Some.own in
    let ends : Ends = record { hits = c.in_ok-clone.field-0; window = own.window; to_end = own.to_end; limit = c.args.limit } in
    ends_known IsStrictlyIncreasing c.args.number ends
    (shifted_rises own.to_end c.args.limit (offsets_of ends.hits.value own.window) (offsets_rise ends.hits.value own.window))

pub returns-clause-within : goal.returns-clause-within
returns-clause-within c =
    let own = c.in-Some.own in
    let ends : Ends = record { hits = c.in_ok-clone.field-0; window = own.window; to_end = own.to_end; limit = c.args.limit } in
    ends_known (All (λ e. e ≤ c.args.limit)) c.args.number ends (shifted_within own.to_end c.args.limit (offsets_of ends.hits.value own.window))
