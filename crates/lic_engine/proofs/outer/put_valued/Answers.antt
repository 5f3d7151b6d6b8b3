use Rattle.std.proofs.Common.{rules, ◌≡◌, ◌<◌, ◌≤◌, ◌+◌, [], length, take, drop, get_or, refl, sym, subst, ◌∙◌, arith}
use Rattle.std.specs.Io.KnownBytes.{Appends}
use Rattle.std.proofs.lemmas.List.{take-append-drop, take_all}
use Rattle.lic_set.specs.Matches.{IsMatch}
use Rattle.lic_set.specs.declared.triple.Triple.{Triple}
use Rattle.lic_report.specs.Prefixes.{Named}
use Rattle.lic_report.specs.Report.{HasItsValues, Valued, triple_of, valued_lines}
use Rattle.lic_stream.specs.Stream.{BeginsWith}
use Rattle.lic_engine.proofs.DoneLemmas.{AreDone, done_nothing, done_put, done_whole, err_begins, err_begins_within}
use Rattle.lic_engine.proofs.OuterLemmas.{one_valued, valued_by, valued_more}
use Rattle.lic_engine.proofs.outer.put_valued.Goals as goal

abbrev nowhere : Triple
nowhere = record { first = 0; last = 0; template = 0 }

pub loop-triple-init : goal.loop-triple-init
loop-triple-init g c =
    let set = c.args.set.now in
    let tokens = c.args.text.now.tokens in
    let lines = valued_lines c.args.name.now set c.args.text.now.source tokens in
    record {
      of = c.new-valued.ensures;
      done = subst (λ l. AreDone Triple Valued triple_of (HasItsValues set tokens) lines (g.W.Sink.taken c.args.out.now) (g.W.Sink.taken c.args.out.now) l [])
          (sym c.new-lines.ensures.items) (done_nothing Triple Valued triple_of (HasItsValues set tokens) lines (g.W.Sink.taken c.args.out.now));
      sound = refl;
    }

pub add-requires : goal.add-requires
add-requires g c =
    let i = c.loop-triple.triple-index in
    let within : i < length c.args.triples.now = search rules in
    subst (λ (own : Named). IsMatch own.set c.args.text.now.tokens (get_or c.args.triples.now i nowhere))
    (sym c.loop-triple.invariant.of) (c.requires i nowhere within)

pub returns-in_err-add-clause-part : goal.returns-in_err-add-clause-part
returns-in_err-add-clause-part g c =
    let set = c.args.set.now in
    let tokens = c.args.text.now.tokens in
    let lines = valued_lines c.args.name.now set c.args.text.now.source tokens in
    let i = c.loop-triple.triple-index in
    err_begins Triple Valued triple_of (HasItsValues set tokens) lines (one_valued set tokens c.values_are_one_list.ensures)
    c.from_residual.result (g.W.Sink.taken c.args.out.now) (g.W.Sink.taken c.loop-triple.out) c.loop-triple.lines.items
    (take i c.args.triples.now) (drop i c.args.triples.now) c.args.triples.now c.loop-triple.invariant.done (sym (take-append-drop i c.args.triples.now))

pub returns-in_err-put_gathered-clause-part : goal.returns-in_err-put_gathered-clause-part
returns-in_err-put_gathered-clause-part g c =
    let set = c.args.set.now in
    let source = c.args.text.now.source in
    let tokens = c.args.text.now.tokens in
    let lines = valued_lines c.args.name.now set source tokens in
    let i = c.loop-triple.triple-index in
    let within : i < length c.args.triples.now = search rules in
    let by_set =
    valued_by c.loop-triple.valued c.args.name.now set source tokens c.loop-triple.lines.items c.add.new.lines.items
    (get_or c.args.triples.now i nowhere) c.loop-triple.invariant.of c.in_ok-add.ensures.lines in
    err_begins_within Triple Valued triple_of (HasItsValues set tokens) lines (one_valued set tokens c.values_are_one_list.ensures)
    c.from_residual-in_err-put_gathered.result (g.W.Sink.taken c.args.out.now) (g.W.Sink.taken c.loop-triple.out)
    (g.W.Sink.taken c.put_gathered.new.out) c.add.new.lines.items
    (take (i + 1) c.args.triples.now) (drop (i + 1) c.args.triples.now) c.args.triples.now
    (valued_more c.args.name.now set source tokens (g.W.Sink.taken c.args.out.now)
    (g.W.Sink.taken c.loop-triple.out) c.loop-triple.lines.items c.add.new.lines.items c.args.triples.now i nowhere c.loop-triple.invariant.done within by_set)
    c.in_err-put_gathered.ensures.part (sym (take-append-drop (i + 1) c.args.triples.now))

pub loop-triple-preserved : goal.loop-triple-preserved
loop-triple-preserved g c =
    let set = c.args.set.now in
    let source = c.args.text.now.source in
    let tokens = c.args.text.now.tokens in
    let lines = valued_lines c.args.name.now set source tokens in
    let i = c.loop-triple.triple-index in
    let within : i < length c.args.triples.now = search rules in
    let by_set =
    valued_by c.loop-triple.valued c.args.name.now set source tokens c.loop-triple.lines.items c.add.new.lines.items
    (get_or c.args.triples.now i nowhere) c.loop-triple.invariant.of c.in_ok-add.ensures.lines in
    record {
      of = c.add.ensures.of ∙ c.loop-triple.invariant.of;
      done = done_put Triple Valued triple_of (HasItsValues set tokens) lines _ (g.W.Sink.taken c.loop-triple.out) _ _ _ (take (i + 1) c.args.triples.now)
          (valued_more c.args.name.now set source tokens _ _ _ _ c.args.triples.now i nowhere c.loop-triple.invariant.done within by_set)
          c.in_ok-put_gathered.ensures.ok;
      sound = search rules;
    }

pub returns-in_err-put_all-clause-part : goal.returns-in_err-put_all-clause-part
returns-in_err-put_all-clause-part g c =
    let set = c.args.set.now in
    let tokens = c.args.text.now.tokens in
    let lines = valued_lines c.args.name.now set c.args.text.now.source tokens in
    let i = c.loop-triple.triple-index in
    let here : c.as_slice.result.now ≡ c.loop-triple.lines.items = search rules in
    let part : BeginsWith (g.W.Sink.taken c.loop-triple.out) (g.W.Sink.taken c.put_all.new.out) c.loop-triple.lines.items =
    subst (λ l. BeginsWith (g.W.Sink.taken c.loop-triple.out) (g.W.Sink.taken c.put_all.new.out) l) here c.in_err-put_all.ensures.part in
    err_begins_within Triple Valued triple_of (HasItsValues set tokens) lines (one_valued set tokens c.values_are_one_list.ensures)
    c.from_residual-in_err-put_all.result (g.W.Sink.taken c.args.out.now) (g.W.Sink.taken c.loop-triple.out)
    (g.W.Sink.taken c.put_all.new.out) c.loop-triple.lines.items
    (take i c.args.triples.now) (drop i c.args.triples.now) c.args.triples.now c.loop-triple.invariant.done part
    (sym (take-append-drop i c.args.triples.now))

pub returns-clause-written : goal.returns-clause-written
returns-clause-written g c =
    let set = c.args.set.now in
    let tokens = c.args.text.now.tokens in
    let lines = valued_lines c.args.name.now set c.args.text.now.source tokens in
    let i = c.loop-triple.triple-index in
    let here : c.as_slice.result.now ≡ c.loop-triple.lines.items = search rules in
    let put : Appends (g.W.Sink.taken c.loop-triple.out) (g.W.Sink.taken c.put_all.new.out) c.loop-triple.lines.items =
    subst (λ l. Appends (g.W.Sink.taken c.loop-triple.out) (g.W.Sink.taken c.put_all.new.out) l) here c.in_ok-put_all.ensures.ok in
    let end : length c.args.triples.now ≤ i = first_of (omega arith, search rules) in
    let whole = done_whole Triple Valued triple_of (HasItsValues set tokens) lines (g.W.Sink.taken c.args.out.now) (g.W.Sink.taken c.loop-triple.out)
    (g.W.Sink.taken c.put_all.new.out) c.loop-triple.lines.items (take i c.args.triples.now) c.loop-triple.invariant.done put in
    (whole.0, whole.1 ∙ take_all i c.args.triples.now end, whole.2, whole.3)
