-- One literal more in its group.
use Rattle.std.proofs.Common.{◌≡◌, ◌+◌, ◌<◌, [], ◌∷◌, ◌++◌, None, Some, length, get_or, map, set, sym, ap, ◌∙◌, subst, arith}
use Rattle.std.specs.List.{slice_get}
use Rattle.std.proofs.lemmas.List.{length-map, map-set}
use Rattle.std.proofs.lemmas.Option.{slice_get-get_or, slice_get_within}
use Rattle.std.proofs.Math.ListN.{length-set}
use Rattle.lic_literals.proofs.GroupLemmas.{AreGrouped, grouped_short, grouped_window, list_read}
use Rattle.lic_literals.proofs.groups.Groups.of.Goals as goal
use Rattle.lic_literals.proofs.groups.Groups.of.Goals.{in-Some+in_ok-push-in-Some, in-None+in_ok-push-in-None}

pub loop-number-init : goal.loop-number-init
loop-number-init c = record {
  count = c.in_ok-empty_lists.ensures;
  grouped = record { no_window = λ k less there. absurd (omega arith); window = λ k key less there. absurd (omega arith) };
}

pub loop-number-preserved : goal.loop-number-preserved
loop-number-preserved c =
    let n = c.loop-number.number in
    let keys = c.args.keys.now in
    let groups = c.loop-number.groups in
    let before = c.loop-number.invariant in
    let lists = map (λ list. list.items) groups.sharing.items in
    let count : length lists ≡ length groups.sharing.items = length-map groups.sharing.items (λ list. list.items) in
    let here : slice_get keys n ≡ Some (get_or keys n None) = slice_get-get_or keys n None c.loop-number-test.true in
    elim c.match-key.branch [
      | in-Some+in_ok-push-in-Some w ↦
          let own = w.in-Some.own in
          let there : slice_get keys n ≡ Some (Some own) = here ∙ ap Some w.in-Some.is in
          let within : own.window < length groups.sharing.items = omega (arith, before.count, c.requires n own there) in
          let was : w.index_mut.result.now.items ≡ get_or lists own.window [] =
          sym (list_read (λ list. list.items) groups.sharing.items own.window w.index_mut.result.now within w.index_mut.ensures.value) in
          let more : map (λ list. list.items) (set groups.sharing.items own.window w.push.new.self) ≡ set lists own.window (get_or lists own.window [] ++ n ∷ []) =
          map-set (λ list. list.items) groups.sharing.items own.window w.push.new.self
          ∙ ap (set lists own.window) (w.in_ok-push-in-Some.ensures.items ∙ ap (λ xs. xs ++ n ∷ []) was) in
          subst (λ gs. record {
            count : length gs.sharing.items ≡ length keys;
            grouped : AreGrouped keys gs.short.items (map (λ list. list.items) gs.sharing.items) (n + 1);
          })
          (sym w.groups-is)
          (record {
            count = length-set groups.sharing.items own.window w.push.new.self ∙ before.count;
            grouped =
                subst (λ ls. AreGrouped keys groups.short.items ls (n + 1)) (sym more)
                (grouped_window keys groups.short.items lists n before.grouped own there (omega arith));
          })
      | in-None+in_ok-push-in-None w ↦
          let there : slice_get keys n ≡ Some None = here ∙ ap Some w.in-None.is in
          subst (λ gs. record {
            count : length gs.sharing.items ≡ length keys;
            grouped : AreGrouped keys gs.short.items (map (λ list. list.items) gs.sharing.items) (n + 1);
          })
          (sym w.groups-is)
          (record {
            count = before.count;
            grouped =
                subst (λ short. AreGrouped keys short lists (n + 1)) (sym w.in_ok-push-in-None.ensures.items)
                (grouped_short keys groups.short.items lists n before.grouped there);
          })
    ]

pub returns : goal.returns
returns c =
    let keys = c.args.keys.now in
    let grouped = c.loop-number.invariant.grouped in
    record {
      short = λ k there. let within : k < length keys = slice_get_within keys k None there in grouped.no_window k (omega (arith, c.loop-number-test.false)) there;
      sharing = λ k key there.
          let within : k < length keys = slice_get_within keys k (Some key) there in grouped.window k key (omega (arith, c.loop-number-test.false)) there;
    }
