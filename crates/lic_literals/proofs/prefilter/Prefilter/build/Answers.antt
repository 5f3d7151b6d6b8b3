-- One literal more.
use Rattle.std.proofs.Common.{◌≡◌, ◌<◌, List, ℕ, [], ◌∷◌, ◌++◌, Some, map, take, length, get_or, Bor, sym, ap, ◌∙◌, subst, arith}
use Rattle.std.proofs.lemmas.List.{length-map, length-take-le, map-append, take_more}
use Rattle.std.proofs.lemmas.Option.{none-some}
use Rattle.lic_literals.specs.Groups.{AreGroupsOf}
use Rattle.lic_literals.specs.Keys.{AreKeyed, plain}
use Rattle.lic_literals.specs.declared.tables.Key.{Key}
use Rattle.std.specs.List.{slice_get}
use Rattle.lic_literals.specs.Windows.{AddsLiteral}
use Rattle.lic_literals.proofs.KeysLemmas.{AreKeyed-nil, AreKeyed-push, keys_below}
use Rattle.lic_literals.proofs.prefilter.Prefilter.build.Goals as goal

pub loop-number-init : goal.loop-number-init
loop-number-init c =
    let tables = c.in_ok-tables.tables in
    let none = c.in_ok-tables.ensures in
    record {
      keyed =
          subst (λ own. AreKeyed (plain own) c.in_ok-keys.keys.items tables) (sym c.in_ok-own.ensures.items)
          (subst (λ keys. AreKeyed [] keys tables) (sym c.in_ok-keys.ensures.items)
          (AreKeyed-nil tables (record {
            long = λ w i is. absurd (none-some i (sym (none.long w) ∙ is));
            middle = λ w i is. absurd (none-some i (sym (none.middle w) ∙ is));
            short = λ w i is. absurd (none-some i (sym (none.short w) ∙ is));
          })));
      same = ap plain c.in_ok-own.ensures.items;
    }

pub loop-number-preserved : goal.loop-number-preserved
loop-number-preserved c =
    let n = c.loop-number.number in
    let own = c.loop-number.own.items in
    let literals = c.args.literals.now in
    let none : Bor (List ℕ) = record { ref_ptr = (0, 0); now = [] } in
    let literal : List ℕ = (get_or literals n none).now in
    let before = c.loop-number.invariant in
    let new = c.add.new.self in
    let key = c.in_ok-add.field-0 in
    let copy : c.in_ok-from_slice.field-0.items ≡ literal = c.in_ok-from_slice.ensures.items in
    let more : plain c.push.new.self.items ≡ plain own ++ literal ∷ [] =
    ap plain c.in_ok-push.ensures.items ∙ map-append (λ l. l.items) own (c.in_ok-from_slice.field-0 ∷ []) ∙ ap (λ l. plain own ++ l ∷ []) copy in
    let keys : c.push-in-loop-number.new.self.items ≡ c.loop-number.keys.items ++ key ∷ [] = c.in_ok-push-2.ensures.items in
    let adds : AddsLiteral literal n key c.loop-number.tables new = c.in_ok-add.ensures.adds in
    let count : length (plain own) ≡ n = ap length before.same ∙ length-map (take n literals) (λ l. l.now) ∙ length-take-le n literals (omega arith) in
    record {
      keyed =
          subst (λ ls. AreKeyed ls c.push-in-loop-number.new.self.items new) (sym more)
          (subst (λ ks. AreKeyed (plain own ++ literal ∷ []) ks new) (sym keys)
          (AreKeyed-push (plain own) c.loop-number.keys.items c.loop-number.tables new literal n key before.keyed (sym count) adds));
      same =
          more ∙ ap (λ ls. ls ++ literal ∷ []) before.same
          ∙ sym (ap (map (λ l. l.now)) (take_more literals n none c.loop-number-test.true) ∙ map-append (λ l. l.now) (take n literals) (get_or literals n none ∷ []));
    }

pub of-requires : goal.of-requires
of-requires c =
    subst (λ keys. (k : ℕ) (key : Key) → slice_get keys k ≡ Some (Some key) → key.window < length keys) (sym c.deref.ensures.value)
    (keys_below (plain c.loop-number.own.items) c.loop-number.keys.items c.loop-number.tables c.loop-number.invariant.keyed)

pub invariant_of-result : goal.invariant_of-result
invariant_of-result c = record {
  keyed = c.loop-number.invariant.keyed;
  grouped = subst (λ keys. AreGroupsOf keys c.in_ok-groups.groups) c.deref.ensures.value c.in_ok-groups.ensures;
}
