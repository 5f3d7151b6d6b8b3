use Rattle.std.proofs.Common.{rules, ◌≡◌, ◌<◌, ◌≤◌, [], true, length, take, drop, get_or, sym, subst}
use Rattle.std.specs.Io.KnownBytes.{Appends}
use Rattle.std.proofs.lemmas.List.{take-append-drop, take_all}
use Rattle.std.proofs.lemmas.List.Elements.{Contains-get_or}
use Rattle.lic_kind.specs.LineRules.{rules_of}
use Rattle.lic_stream.specs.Stream.{BeginsWith}
use Rattle.lic_report.specs.Report.{no_known}
use Rattle.lic_engine.proofs.DoneLemmas.{on_err}
use Rattle.lic_engine.proofs.CheckLemmas.{AreChecked, checked_nothing, nothing_begins, checked_more, check_begins_within, check_whole}
use Rattle.lic_engine.proofs.checking.check.Goals as goal

pub loop-k-init : goal.loop-k-init
loop-k-init g c = λ a.
    subst (λ l. AreChecked (rules_of c.args.rules.now) c.args.words.now a a l [] true) (sym c.new-lines.ensures.items)
    (checked_nothing (rules_of c.args.rules.now) c.args.words.now a)

pub returns-in_err-yes-clause-part : goal.returns-in_err-yes-clause-part
returns-in_err-yes-clause-part g c = nothing_begins (rules_of c.args.rules.now) c.args.words.now _ c.args.set.now _

pub returns-in_err-yes-clause-text : goal.returns-in_err-yes-clause-text
returns-in_err-yes-clause-text g c = λ fault is.
    let within : c.loop-k.k < length c.args.set.now = search rules in (
      get_or c.args.set.now c.loop-k.k no_known,
      Contains-get_or c.args.set.now c.loop-k.k no_known within,
      c.describes_original.ensures.text fault (search rules) no_known,
    )

pub returns-in_err-add_checked-clause-part : goal.returns-in_err-add_checked-clause-part
returns-in_err-add_checked-clause-part g c = nothing_begins (rules_of c.args.rules.now) c.args.words.now _ c.args.set.now _

pub loop-k-preserved : goal.loop-k-preserved
loop-k-preserved g c = λ a.
    let k = c.loop-k.k in
    let within : k < length c.args.set.now = search rules in
    checked_more (rules_of c.args.rules.now) c.args.words.now _ _ _ _ c.args.set.now k no_known _ c.in_ok-yes.yes
    (c.loop-k.invariant a) within (c.in_ok-yes.ensures.yes no_known) c.in_ok-add_checked.ensures

pub returns-in_err-put_all-clause-part : goal.returns-in_err-put_all-clause-part
returns-in_err-put_all-clause-part g c =
    let k = c.loop-k.k in
    let here : c.as_slice.result.now ≡ c.loop-k.lines.items = search rules in
    let part : BeginsWith (g.W.Sink.taken c.args.out.now) (g.W.Sink.taken c.put_all.new.out) c.loop-k.lines.items =
    subst (λ l. BeginsWith (g.W.Sink.taken c.args.out.now) (g.W.Sink.taken c.put_all.new.out) l) here c.in_err-put_all.ensures.part in
    on_err _ _ (check_begins_within (rules_of c.args.rules.now) c.args.words.now _ (g.W.Sink.taken c.args.out.now) _ c.loop-k.lines.items c.args.set.now
    (take k c.args.set.now) (drop k c.args.set.now) _ (c.loop-k.invariant (g.W.Sink.taken c.args.out.now)) part (sym (take-append-drop k c.args.set.now)))

pub returns-clause-report : goal.returns-clause-report
returns-clause-report g c =
    let here : c.as_slice.result.now ≡ c.loop-k.lines.items = search rules in
    let put : Appends (g.W.Sink.taken c.args.out.now) (g.W.Sink.taken c.put_all.new.out) c.loop-k.lines.items =
    subst (λ l. Appends (g.W.Sink.taken c.args.out.now) (g.W.Sink.taken c.put_all.new.out) l) here c.in_ok-put_all.ensures.ok in
    let whole : length c.args.set.now ≤ c.loop-k.k = search rules in
    check_whole (rules_of c.args.rules.now) c.args.words.now _
    (g.W.Sink.taken c.args.out.now) _ c.loop-k.lines.items c.args.set.now (take c.loop-k.k c.args.set.now) _
    (c.loop-k.invariant (g.W.Sink.taken c.args.out.now)) put (take_all c.loop-k.k c.args.set.now whole)
