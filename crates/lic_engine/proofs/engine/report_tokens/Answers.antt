use Rattle.std.proofs.Common.{rules, ◌≡◌, ◌∙◌, ◌≤◌, ◌++◌, ap, ap₂, arith, length, take, drop, sym, subst, nat_lt}
use Rattle.std.proofs.lemmas.List.{take-append-drop}
use Rattle.std.specs.Io.KnownBytes.{Appends}
use Rattle.lic_stream.specs.Stream.{BeginsWith}
use Rattle.lic_stream.proofs.Written.{IsPut, put_begins, put_begins_within, put_more}
use Rattle.lic_report.specs.Report.{token_line, token_lines}
use Rattle.lic_report.specs.TokenLines.{lines_between}
use Rattle.lic_engine.proofs.ReportLemmas.{some_tokens, put_some, put_tokens, begins_tokens}
use Rattle.lic_engine.proofs.engine.report_tokens.Goals as goal

pub returns-in_err-add_some-clause-part : goal.returns-in_err-add_some-clause-part
returns-in_err-add_some-clause-part g c =
    let tokens = c.args.text.now.tokens in
    let added = c.loop-token_lines.token_lines.added in
    begins_tokens _ c.args.name.now tokens _ _
    (put_begins (token_line c.args.name.now) tokens (take added tokens) (drop added tokens) _ _ _ c.loop-token_lines.invariant.put
    (sym (take-append-drop added tokens)))

pub loop-token_lines-preserved : goal.loop-token_lines-preserved
loop-token_lines-preserved g c =
    let tokens = c.args.text.now.tokens in
    let known = c.loop-token_lines.invariant in
    let some = c.in_ok-add_some.ensures in
    record {
      front = some.front ∙ known.front;
      tokens = some.tokens ∙ known.tokens;
      within = omega (arith, some.within.1, ap length known.tokens);
      put = put_more _ (g.W.Sink.taken c.loop-token_lines.out) _ _ _ _
          (put_some c.args.name.now tokens c.loop-token_lines.token_lines.added c.add_some.new.self.added _ _ _ _ known.put some.within.0
          (some.lines
          ∙ ap₂ (λ f ts. c.loop-token_lines.lines ++ lines_between f ts c.loop-token_lines.token_lines.added c.add_some.new.self.added)
          known.front known.tokens))
          c.in_ok-put_enough.ensures.ok;
      sound = search rules;
    }

pub returns-in_err-put_enough-clause-part : goal.returns-in_err-put_enough-clause-part
returns-in_err-put_enough-clause-part g c =
    let tokens = c.args.text.now.tokens in
    let known = c.loop-token_lines.invariant in
    let some = c.in_ok-add_some.ensures in
    let added = c.add_some.new.self.added in
    let put : IsPut _ (g.W.Sink.taken c.loop-token_lines.out) c.add_some.new.lines (token_lines c.args.name.now (take added tokens)) =
    put_some c.args.name.now tokens c.loop-token_lines.token_lines.added added _ _ _ _ known.put some.within.0
    (some.lines
    ∙ ap₂ (λ f ts. c.loop-token_lines.lines ++ lines_between f ts c.loop-token_lines.token_lines.added added) known.front known.tokens) in
    begins_tokens _ c.args.name.now tokens _ _
    (put_begins_within (token_line c.args.name.now) tokens (take added tokens) (drop added tokens) _ _ _ _ put c.in_err-put_enough.ensures.part
    (sym (take-append-drop added tokens)))

pub returns-in_err-put_all-clause-part : goal.returns-in_err-put_all-clause-part
returns-in_err-put_all-clause-part g c =
    let tokens = c.args.text.now.tokens in
    let known = c.loop-token_lines.invariant in
    let some = c.in_ok-add_some.ensures in
    let added = c.add_some.new.self.added in
    let put : IsPut _ (g.W.Sink.taken c.loop-token_lines.out) c.add_some.new.lines (token_lines c.args.name.now (take added tokens)) =
    put_some c.args.name.now tokens c.loop-token_lines.token_lines.added added _ _ _ _ known.put some.within.0
    (some.lines
    ∙ ap₂ (λ f ts. c.loop-token_lines.lines ++ lines_between f ts c.loop-token_lines.token_lines.added added) known.front known.tokens) in
    let lines : c.as_slice.result.now ≡ c.add_some.new.lines = search rules in
    let part : BeginsWith (g.W.Sink.taken c.loop-token_lines.out) (g.W.Sink.taken c.put_all.new.out) c.add_some.new.lines =
    subst (λ l. BeginsWith (g.W.Sink.taken c.loop-token_lines.out) (g.W.Sink.taken c.put_all.new.out) l) lines c.in_err-put_all.ensures.part in
    begins_tokens _ c.args.name.now tokens _ _
    (put_begins_within (token_line c.args.name.now) tokens (take added tokens) (drop added tokens) _ (g.W.Sink.taken c.loop-token_lines.out) _
    c.add_some.new.lines put part (sym (take-append-drop added tokens)))

pub returns-clause-written : goal.returns-clause-written
returns-clause-written g c =
    let tokens = c.args.text.now.tokens in
    let known = c.loop-token_lines.invariant in
    let some = c.in_ok-add_some.ensures in
    let added = c.add_some.new.self.added in
    let gathered : IsPut _ (g.W.Sink.taken c.loop-token_lines.out) c.add_some.new.lines (token_lines c.args.name.now (take added tokens)) =
    put_some c.args.name.now tokens c.loop-token_lines.token_lines.added added _ _ _ _ known.put some.within.0
    (some.lines
    ∙ ap₂ (λ f ts. c.loop-token_lines.lines ++ lines_between f ts c.loop-token_lines.token_lines.added added) known.front known.tokens) in
    let lines : c.as_slice.result.now ≡ c.add_some.new.lines = search rules in
    let put : Appends (g.W.Sink.taken c.loop-token_lines.out) (g.W.Sink.taken c.put_all.new.out) c.add_some.new.lines =
    subst (λ l. Appends (g.W.Sink.taken c.loop-token_lines.out) (g.W.Sink.taken c.put_all.new.out) l) lines c.in_ok-put_all.ensures.ok in
    let whole : length tokens ≤ added = omega (arith, some.all c.if-branch.false, ap length known.tokens, some.within.0) in
    let some_lines : nat_lt 0 c.len.result ≡ nat_lt 0 (length (token_lines c.args.name.now tokens)) =
    ap (nat_lt 0) c.len.ensures ∙ some_tokens c.args.name.now tokens in
    (put_tokens c.args.name.now tokens added _ (g.W.Sink.taken c.loop-token_lines.out) _ c.add_some.new.lines gathered put whole, some_lines)
