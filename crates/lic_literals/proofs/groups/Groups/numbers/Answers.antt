-- The literals of one window more; then they are sorted, each once.
use Rattle.std.proofs.Common.{◌≡◌, ℕ, ◌+◌, ◌<◌, ◌≤◌, [], ◌∷◌, ◌++◌, nat_eq, length, get_or, map, take, HoldsAt, MatchOption, sym, ap, ◌∙◌, subst}
use Rattle.std.specs.List.{Contains, dedup}
use Rattle.std.specs.List.Sorted.{IsStrictlyIncreasing}
use Rattle.std.proofs.lemmas.List.{take_all}
use Rattle.std.proofs.lemmas.List.Elements.{Contains-append_left}
use Rattle.std.proofs.lemmas.List.Filters.{dedup_is}
use Rattle.std.proofs.lemmas.List.Kept.{Contains-dedup_nat}
use Rattle.std.proofs.lemmas.List.Sorted.{Contains-permutation}
use Rattle.std.proofs.lemmas.Map.Keys.{IsStrictlyIncreasing-dedup}
use Rattle.std.proofs.Math.Logic.{⊎_elim}
use Rattle.lic_literals.specs.Groups.{sharing_of, windows_of}
use Rattle.lic_literals.proofs.GroupLemmas.{listed_more, listed_same, list_past, list_read, map_more}
use Rattle.lic_literals.proofs.groups.Groups.numbers.Goals as goal
use Rattle.lic_literals.proofs.groups.Groups.numbers.Goals.{in-Some+in_ok-extend_from_slice, in_default}

pub loop-one-preserved : goal.loop-one-preserved
loop-one-preserved c =
    let self = c.args.self.now in
    let occurrences = c.occurrences-one-items.result.now in
    let i = c.loop-one.one-index in
    let one = c.one-item.result in
    let lists = self.sharing.items in
    let windows = map (λ s. s.window) (take i occurrences) in
    let before = c.loop-one.invariant in
    let more : map (λ s. s.window) (take (i + 1) occurrences) ≡ windows ++ one.window ∷ [] = map_more (λ s. s.window) occurrences i one c.loop-one-test.true c.one-item.is in
    elim c.match-get.branch [
      | in-Some+in_ok-extend_from_slice w ↦
          let added = w.deref-in-Some.result.now in
          let found : (one.window < length c.deref-in-loop-one.result.now) × HoldsAt (λ y. w.in-Some.literals.now ≡ y) c.deref-in-loop-one.result.now one.window =
          subst (λ r. MatchOption r (length c.deref-in-loop-one.result.now ≤ one.window) (λ x. (one.window < length c.deref-in-loop-one.result.now) × HoldsAt (λ y. x.now ≡ y) c.deref-in-loop-one.result.now one.window))
          w.in-Some.is c.get.ensures.lookup.3 in
          let here : sharing_of self one.window ≡ added =
          ap (λ ls. get_or (map (λ list. list.items) ls) one.window []) (sym c.deref-in-loop-one.ensures.value)
          ∙ list_read (λ list. list.items) c.deref-in-loop-one.result.now one.window w.in-Some.literals.now found.0 (found.1 w.in-Some.literals.now)
          ∙ sym w.deref-in-Some.ensures.value in
          let grown : c.match-get.numbers.items ≡ c.loop-one.numbers.items ++ added = ap (λ v. v.items) w.numbers-is ∙ w.in_ok-extend_from_slice.ensures.items in
          record {
            short = λ k h. subst (λ xs. Contains xs k) (sym grown) (Contains-append_left c.loop-one.numbers.items added k (before.short k h));
            sharing = λ window k inside shares.
                subst (λ xs. Contains xs k) (sym grown)
                (listed_more (sharing_of self) windows one.window c.loop-one.numbers.items before.sharing added here window k
                (subst (λ ws. Contains ws window) more inside) shares);
          }
      | in_default w ↦
          let past : length c.deref-in-loop-one.result.now ≤ one.window =
          subst (λ r. MatchOption r (length c.deref-in-loop-one.result.now ≤ one.window) (λ x. (one.window < length c.deref-in-loop-one.result.now) × HoldsAt (λ y. x.now ≡ y) c.deref-in-loop-one.result.now one.window))
          w.in_default.is c.get.ensures.lookup.3 in
          let none : sharing_of self one.window ≡ [] =
          ap (λ ls. get_or (map (λ list. list.items) ls) one.window []) (sym c.deref-in-loop-one.ensures.value)
          ∙ list_past (λ list. list.items) c.deref-in-loop-one.result.now one.window past in
          let same : c.match-get.numbers.items ≡ c.loop-one.numbers.items = ap (λ v. v.items) w.numbers-is in
          record {
            short = λ k h. subst (λ xs. Contains xs k) (sym same) (before.short k h);
            sharing = λ window k inside shares.
                subst (λ xs. Contains xs k) (sym same)
                (listed_same (sharing_of self) windows one.window c.loop-one.numbers.items before.sharing none window k
                (subst (λ ws. Contains ws window) more inside) shares);
          }
    ]

pub returns-clause-rising : goal.returns-clause-rising
returns-clause-rising c =
    let sorted = c.sort_unstable.new.self.items in
    let kept : c.dedup.new.self.items ≡ dedup nat_eq sorted = dedup_is nat_eq sorted c.dedup.new.self.items c.dedup.ensures.filtered in
    subst IsStrictlyIncreasing (sym kept) (IsStrictlyIncreasing-dedup sorted c.sort_unstable.ensures.sorted)

pub returns-clause-complete : goal.returns-clause-complete
returns-clause-complete c = λ k candidate.
    let self = c.args.self.now in
    let hits = c.args.hits.now in
    let sorted = c.sort_unstable.new.self.items in
    let numbers = c.loop-one.numbers.items in
    let occurrences = c.occurrences-one-items.result.now in
    let kept : c.dedup.new.self.items ≡ dedup nat_eq sorted = dedup_is nat_eq sorted c.dedup.new.self.items c.dedup.ensures.filtered in
    let there : Contains numbers k =
    ⊎_elim
    (λ (short : Contains self.short.items k). c.loop-one.invariant.short k short)
    (λ (shares : (window : ℕ) × Contains (windows_of hits) window × Contains (sharing_of self window) k).
    let all : windows_of hits ≡ map (λ s. s.window) (take c.loop-one.one-index occurrences) =
    ap (map (λ s. s.window)) (sym c.occurrences-one-items.ensures ∙ sym (take_all c.loop-one.one-index occurrences c.loop-one-test.false)) in
    c.loop-one.invariant.sharing shares.0 k (subst (λ ws. Contains ws shares.0) all shares.1) shares.2)
    candidate in
    subst (λ xs. Contains xs k) (sym kept) (Contains-dedup_nat sorted k (Contains-permutation numbers sorted k c.sort_unstable.ensures.permutation there))
