-- An offset more in a list; the windows stay.
use Rattle.std.proofs.Common.{◌≡◌, ℕ, ◌<◌, [], length, get_or, map, set, sym, ap, ◌∙◌, subst, arith}
use Rattle.std.specs.List.{Contains, slice_get}
use Rattle.std.specs.List.Sorted.{IsStrictlyIncreasing}
use Rattle.std.proofs.lemmas.List.{get_or-map, length-map, map-set}
use Rattle.std.proofs.lemmas.List.Elements.{All-set}
use Rattle.std.proofs.Math.Seq.{map-set_same}
use Rattle.lic_literals.specs.Hits.{IsListed, lists_of, slot_of}
use Rattle.lic_literals.specs.declared.hits.Occurrence.{Occurrence}
use Rattle.lic_literals.proofs.HitsLemmas.{more_kept, more_noted}
use Rattle.lic_literals.proofs.hits.Hits.note_more.Goals as goal

pub invariant_of-self : goal.invariant_of-self
invariant_of-self c =
    let old = c.args.self.now in
    let was = c.index_mut-one.result.now in
    let one : Occurrence = record { window = was.window; offsets = c.insert.new.numbers } in
    record {
      rising = All-set (λ s. IsStrictlyIncreasing s.offsets.items) old.occurrences.items c.args.slot one c.insert.ensures.rising old.rising;
      placed = λ i slot at.
          ap (λ windows. slice_get windows slot)
          (map-set_same (λ s. s.window) old.occurrences.items c.args.slot one was (ap (λ s. s.window) c.index_mut-one.ensures.value))
          ∙ old.placed i slot at;
    }

pub invariant_of-self-2 : goal.invariant_of-self-2
invariant_of-self-2 c =
    let old = c.args.self.now in
    let was = c.index_mut-one.result.now in
    let one : Occurrence = record { window = was.window; offsets = c.insert.new.numbers } in
    record {
      rising = All-set (λ s. IsStrictlyIncreasing s.offsets.items) old.occurrences.items c.args.slot one c.insert.ensures.rising old.rising;
      placed = λ i slot at.
          ap (λ windows. slice_get windows slot)
          (map-set_same (λ s. s.window) old.occurrences.items c.args.slot one was (ap (λ s. s.window) c.index_mut-one.ensures.value))
          ∙ old.placed i slot at;
    }

pub returns : goal.returns
returns c = λ window at.
    let old = c.args.self.now in
    let lists = lists_of old in
    let slot = c.args.slot in
    let was = c.index_mut-one.result.now in
    let now = c.insert.new.numbers.items in
    let one : Occurrence = record { window = was.window; offsets = c.insert.new.numbers } in
    let count = c.saturating_add-self.result in
    let within : slot < length lists = omega (arith, length-map old.occurrences.items (λ s. s.offsets.items), c.requires) in
    let before : was.offsets.items ≡ get_or lists slot [] =
    ap (λ s. s.offsets.items) c.index_mut-one.ensures.value ∙ sym (get_or-map (λ s. s.offsets.items) old.occurrences.items slot was [] c.requires) in
    let kept : (p : ℕ) → Contains (get_or lists slot []) p → Contains now p =
    λ p h. c.insert.ensures.kept p (subst (λ xs. Contains xs p) (sym before) h) in
    let after : map (λ s. s.offsets.items) (set old.occurrences.items slot one) ≡ set lists slot now = map-set (λ s. s.offsets.items) old.occurrences.items slot one in
    record {
      noted =
          subst (λ ls. IsListed (slot_of old) ls count window c.args.offset) (sym after)
          (more_noted (slot_of old) lists slot now within kept count window c.args.offset at c.in_ok-insert.ensures.inserted);
      kept = λ i p h.
          subst (λ ls. IsListed (slot_of old) ls count i p) (sym after)
          (more_kept (slot_of old) lists slot now within kept old.count count (omega (arith, c.saturating_add-self.ensures)) i p h);
    }
