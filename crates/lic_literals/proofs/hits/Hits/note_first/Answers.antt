-- A window more, in a slot of its own.
use Rattle.std.proofs.Common.{◌≡◌, ℕ, All, List, [], ◌∷◌, ◌++◌, nat_eq, length, map, Some, sym, ap, ◌∙◌, subst, arith}
use Rattle.std.specs.List.{Contains, slice_get}
use Rattle.std.specs.List.Sorted.{IsStrictlyIncreasing}
use Rattle.std.specs.Map.{lookup}
use Rattle.std.proofs.lemmas.List.{length-map, map-append}
use Rattle.std.proofs.lemmas.List.Elements.{All-push, Contains-push}
use Rattle.std.proofs.Math.Logic.{⊎_elim}
use Rattle.lic_literals.specs.Hits.{IsListed, lists_of, slot_of}
use Rattle.lic_literals.specs.declared.hits.Occurrence.{Occurrence}
use Rattle.lic_literals.proofs.HitsLemmas.{first_kept, first_noted, slot_cases}
use Rattle.lic_literals.proofs.Lists.{read_before, read_last}
use Rattle.lic_literals.proofs.hits.Hits.note_first.Goals as goal

-- one offset alone is in order
one_rises : (xs : List ℕ) (p : ℕ) → xs ≡ p ∷ [] → IsStrictlyIncreasing xs
one_rises xs p is = subst IsStrictlyIncreasing (sym is) (λ k h. absurd (omega arith))

pub invariant_of-self-in-Break-branch-3 : goal.invariant_of-self-in-Break-branch-3
invariant_of-self-in-Break-branch-3 c =
    let old = c.args.self.now in
    let one : Occurrence = record { window = c.args.window; offsets = c.in_ok-offsets.offsets } in
    let windows = map (λ s. s.window) old.occurrences.items in
    let more : map (λ s. s.window) c.push.new.self.items ≡ windows ++ c.args.window ∷ [] =
    ap (map (λ s. s.window)) c.in_ok-push.ensures.items ∙ map-append (λ s. s.window) old.occurrences.items (one ∷ []) in
    record {
      rising =
          subst (λ list. All (λ s. IsStrictlyIncreasing s.offsets.items) list) (sym c.in_ok-push.ensures.items)
          (All-push (λ s. IsStrictlyIncreasing s.offsets.items) old.occurrences.items one old.rising
          (one_rises c.in_ok-offsets.offsets.items c.args.offset c.in_ok-offsets.ensures.items));
      placed = λ i slot at.
          ap (λ list. slice_get list slot) more
          ∙ read_before windows c.args.window slot i (old.placed i slot (sym (ap (lookup (nat_eq i)) c.in_err-insert.ensures.err) ∙ at));
    }

pub invariant_of-self-2 : goal.invariant_of-self-2
invariant_of-self-2 c =
    let old = c.args.self.now in
    let one : Occurrence = record { window = c.args.window; offsets = c.in_ok-offsets.offsets } in
    let windows = map (λ s. s.window) old.occurrences.items in
    let slots = slot_of old in
    let lists = lists_of old in
    let last = c.len-slot.result in
    let more : map (λ s. s.window) c.push.new.self.items ≡ windows ++ c.args.window ∷ [] =
    ap (map (λ s. s.window)) c.in_ok-push.ensures.items ∙ map-append (λ s. s.window) old.occurrences.items (one ∷ []) in
    let count : last ≡ length lists = omega (arith, c.len-slot.ensures, old.occurrences.ok, length-map old.occurrences.items (λ s. s.offsets.items)) in
    let end : last ≡ length windows = omega (arith, c.len-slot.ensures, old.occurrences.ok, length-map old.occurrences.items (λ s. s.window)) in
    record {
      rising =
          subst (λ list. All (λ s. IsStrictlyIncreasing s.offsets.items) list) (sym c.in_ok-push.ensures.items)
          (All-push (λ s. IsStrictlyIncreasing s.offsets.items) old.occurrences.items one old.rising
          (one_rises c.in_ok-offsets.offsets.items c.args.offset c.in_ok-offsets.ensures.items));
      placed = λ i slot at.
          ap (λ list. slice_get list slot) more
          ∙ ⊎_elim
          (λ (new : (i ≡ c.args.window) × (slot ≡ last)). read_last windows c.args.window slot (new.1 ∙ end) ∙ ap Some (sym new.0))
          (λ (before : slots i ≡ Some slot). read_before windows c.args.window slot i (old.placed i slot before))
          (slot_cases slots (λ j. lookup (nat_eq j) c.insert.new.self.entries) lists c.args.window [] last count c.requires c.in_ok-insert.ensures.updates.0 i slot at);
    }

pub returns : goal.returns
returns c =
    let old = c.args.self.now in
    let one : Occurrence = record { window = c.args.window; offsets = c.in_ok-offsets.offsets } in
    let slots = slot_of old in
    let lists = lists_of old in
    let now = c.in_ok-offsets.offsets.items in
    let last = c.len-slot.result in
    let count = c.saturating_add-self.result in
    let new = λ (j : ℕ). lookup (nat_eq j) c.insert.new.self.entries in
    let end : last ≡ length lists = omega (arith, c.len-slot.ensures, old.occurrences.ok, length-map old.occurrences.items (λ s. s.offsets.items)) in
    let more : map (λ s. s.offsets.items) c.push.new.self.items ≡ lists ++ now ∷ [] =
    ap (map (λ s. s.offsets.items)) c.in_ok-push.ensures.items ∙ map-append (λ s. s.offsets.items) old.occurrences.items (one ∷ []) in
    let has : Contains now c.args.offset = subst (λ xs. Contains xs c.args.offset) (sym c.in_ok-offsets.ensures.items) (Contains-push [] c.args.offset) in
    record {
      noted =
          subst (λ ls. IsListed new ls count c.args.window c.args.offset) (sym more)
          (first_noted slots new lists c.args.window now last end c.requires c.in_ok-insert.ensures.updates.0 count c.args.offset has);
      kept = λ i p h.
          subst (λ ls. IsListed new ls count i p) (sym more)
          (first_kept slots new lists c.args.window now last end c.requires c.in_ok-insert.ensures.updates.0 old.count count
          (omega (arith, c.saturating_add-self.ensures)) i p h);
    }
