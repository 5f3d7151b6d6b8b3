use Rattle.std.proofs.Common.{rules, ◌≡◌, ◌∙◌, ap, ◌++◌, sym, append_assoc, append-nil, refl, subst, length, nat_lt, ◌∷◌, []}
use Rattle.std.specs.List.{flat_map}
use Rattle.std.specs.Io.KnownBytes.{Appends}
use Rattle.lic_stream.specs.Stream.{BeginsWith}
use Rattle.lic_report.specs.Prefixes.{Named}
use Rattle.lic_report.specs.Report.{match_line}
use Rattle.lic_report.specs.Wanted.{wanted_of}
use Rattle.lic_stream.proofs.Written.{IsPut, begins_empty, put_begins, put_begins_within, put_line, put_more, put_nothing, put_whole}
use Rattle.lic_engine.proofs.ReportLemmas.{begins_report, on_error, whole_lines, some_more}
use Rattle.lic_engine.proofs.engine.report_all.Goals as goal

pub loop-triple-init : goal.loop-triple-init
loop-triple-init g c =
    record {
      can = tt;
      finite = tt;
      of = c.new-match_lines.ensures;
      all = refl;
      put = subst (λ l. IsPut (g.W.Sink.taken c.args.out.now) (g.W.Sink.taken c.args.out.now) l [])
          (sym c.new-lines.ensures.items) (put_nothing (g.W.Sink.taken c.args.out.now));
      some = refl;
      sound = refl;
    }

pub returns-in_err-add-clause-part : goal.returns-in_err-add-clause-part
returns-in_err-add-clause-part g c =
    let same : c.into_iter-triple-iterator.result ≡ c.in_ok-wanted.wanted = search rules in
    let all : wanted_of c.in_ok-wanted.wanted ≡ c.loop-triple.yielded ++ wanted_of c.loop-triple.triple-iterator =
    ap wanted_of (sym same) ∙ c.loop-triple.invariant.all in
    begins_report c.args.name.now c.args.set.now c.args.ask.now c.args.text.now.tokens (wanted_of c.in_ok-wanted.wanted) _ _ _ c.in_ok-wanted.ensures.only
    (put_begins (match_line c.args.name.now c.args.set.now c.args.text.now.tokens) _ c.loop-triple.yielded
    (wanted_of c.loop-triple.triple-iterator) _ _ _ c.loop-triple.invariant.put all)

pub returns-in_err-put_gathered-clause-part : goal.returns-in_err-put_gathered-clause-part
returns-in_err-put_gathered-clause-part g c =
    let same : c.into_iter-triple-iterator.result ≡ c.in_ok-wanted.wanted = search rules in
    let all : wanted_of c.in_ok-wanted.wanted ≡ (c.loop-triple.yielded ++ c.in-Some.triple ∷ []) ++ wanted_of c.next.new.self =
    ap wanted_of (sym same) ∙ c.loop-triple.invariant.all ∙ ap (λ l. c.loop-triple.yielded ++ l) c.in-Some.ensures.steps
    ∙ sym (append_assoc c.loop-triple.yielded (c.in-Some.triple ∷ []) (wanted_of c.next.new.self)) in
    let line : c.add.new.lines.items ≡ c.loop-triple.lines.items ++ match_line c.args.name.now c.args.set.now c.args.text.now.tokens c.in-Some.triple =
    c.in_ok-add.ensures.line
    ∙ ap (λ (of : Named). c.loop-triple.lines.items ++ match_line of.name of.set c.args.text.now.tokens c.in-Some.triple) c.loop-triple.invariant.of in
    let put : IsPut _ (g.W.Sink.taken c.loop-triple.out) c.add.new.lines.items _ =
    put_line (match_line c.args.name.now c.args.set.now c.args.text.now.tokens) c.loop-triple.yielded c.in-Some.triple _ _ _ _ c.loop-triple.invariant.put line in
    begins_report c.args.name.now c.args.set.now c.args.ask.now c.args.text.now.tokens (wanted_of c.in_ok-wanted.wanted) _ _ _ c.in_ok-wanted.ensures.only
    (put_begins_within (match_line c.args.name.now c.args.set.now c.args.text.now.tokens) _ _
    (wanted_of c.next.new.self) _ _ _ _ put c.in_err-put_gathered.ensures.part all)

pub loop-triple-preserved : goal.loop-triple-preserved
loop-triple-preserved g c =
    let line : c.add.new.lines.items ≡ c.loop-triple.lines.items ++ match_line c.args.name.now c.args.set.now c.args.text.now.tokens c.in-Some.triple =
    c.in_ok-add.ensures.line
    ∙ ap (λ (of : Named). c.loop-triple.lines.items ++ match_line of.name of.set c.args.text.now.tokens c.in-Some.triple) c.loop-triple.invariant.of in
    record {
      can = tt;
      finite = tt;
      of = c.add.ensures.of ∙ c.loop-triple.invariant.of;
      all = c.loop-triple.invariant.all ∙ ap (λ l. c.loop-triple.yielded ++ l) c.in-Some.ensures.steps
          ∙ sym (append_assoc c.loop-triple.yielded (c.in-Some.triple ∷ []) (wanted_of c.next.new.self));
      put = put_more _ (g.W.Sink.taken c.loop-triple.out) _ _ _ _
          (put_line (match_line c.args.name.now c.args.set.now c.args.text.now.tokens) c.loop-triple.yielded c.in-Some.triple _ _ _ _ c.loop-triple.invariant.put line)
          c.in_ok-put_gathered.ensures.ok;
      some = some_more c.loop-triple.yielded c.in-Some.triple;
      sound = search rules;
    }

pub returns-in_err-put_all-clause-part : goal.returns-in_err-put_all-clause-part
returns-in_err-put_all-clause-part g c =
    let same : c.into_iter-triple-iterator.result ≡ c.in_ok-wanted.wanted = search rules in
    let all : wanted_of c.in_ok-wanted.wanted ≡ c.loop-triple.yielded ++ wanted_of c.loop-triple.triple-iterator =
    ap wanted_of (sym same) ∙ c.loop-triple.invariant.all in
    let lines : c.as_slice.result.now ≡ c.loop-triple.lines.items = search rules in
    let part : BeginsWith (g.W.Sink.taken c.loop-triple.out) (g.W.Sink.taken c.put_all.new.out) c.loop-triple.lines.items =
    subst (λ l. BeginsWith (g.W.Sink.taken c.loop-triple.out) (g.W.Sink.taken c.put_all.new.out) l) lines c.in_err-put_all.ensures.part in
    begins_report c.args.name.now c.args.set.now c.args.ask.now c.args.text.now.tokens (wanted_of c.in_ok-wanted.wanted) _ _ _ c.in_ok-wanted.ensures.only
    (put_begins_within (match_line c.args.name.now c.args.set.now c.args.text.now.tokens) _ c.loop-triple.yielded
    (wanted_of c.loop-triple.triple-iterator) _
    (g.W.Sink.taken c.loop-triple.out) _ c.loop-triple.lines.items c.loop-triple.invariant.put part all)

pub returns-clause-written : goal.returns-clause-written
returns-clause-written g c =
    let same : c.into_iter-triple-iterator.result ≡ c.in_ok-wanted.wanted = search rules in
    let all : c.loop-triple.yielded ≡ wanted_of c.in_ok-wanted.wanted =
    sym (append-nil c.loop-triple.yielded) ∙ ap (λ l. c.loop-triple.yielded ++ l) (sym c.in-None.ensures.steps.0)
    ∙ sym c.loop-triple.invariant.all ∙ ap wanted_of same in
    let lines : c.as_slice.result.now ≡ c.loop-triple.lines.items = search rules in
    let put : Appends (g.W.Sink.taken c.loop-triple.out) (g.W.Sink.taken c.put_all.new.out) c.loop-triple.lines.items =
    subst (λ l. Appends (g.W.Sink.taken c.loop-triple.out) (g.W.Sink.taken c.put_all.new.out) l) lines c.in_ok-put_all.ensures.ok in
    whole_lines c.args.name.now c.args.set.now c.args.ask.now c.args.text.now.tokens
    (wanted_of c.in_ok-wanted.wanted) c.loop-triple.some _ _ c.in_ok-wanted.ensures.all
    (subst (λ l. Appends (g.W.Sink.taken c.args.out.now) (g.W.Sink.taken c.put_all.new.out)
    (flat_map (match_line c.args.name.now c.args.set.now c.args.text.now.tokens) l)) all
    (put_whole _ (g.W.Sink.taken c.loop-triple.out) _ _ _ c.loop-triple.invariant.put put))
    (c.loop-triple.invariant.some ∙ ap (λ l. nat_lt 0 (length l)) all)

pub returns-in_err-wanted-clause-part : goal.returns-in_err-wanted-clause-part
returns-in_err-wanted-clause-part g c = on_error _ c.from_residual.result (λ lines are. begins_empty (g.W.Sink.taken c.args.out.now) lines)
