use Rattle.std.proofs.Common.{◌≡◌, ◌∙◌, ◌+◌, ◌<◌, ◌++◌, ◌∷◌, [], ℕ, All, String, length, map, arith, rules, ap, length-append, refl, sym, subst}
use Rattle.std.specs.Global.{Global}
use Rattle.std.specs.String.{string_bytes}
use Rattle.std.proofs.lemmas.List.Elements.{All-map, All-push}
use Rattle.std.proofs.lemmas.List.Sorted.{All-permutation}
use Rattle.std.proofs.lemmas.Iterator.Adapters.{YieldsList-from_vec}
use Rattle.std.proofs.lemmas.Iterator.Consumers.{YieldsList-end}
use Rattle.lic_kind.specs.LineRules.{rules_of}
use Rattle.lic_markup.specs.Parts.{TemplateValue}
use Rattle.lic_set.specs.Sets.{Known, pair_known, pairs_known}
use Rattle.lic_load.specs.Listings.{IsReadBy}
use Rattle.lic_load.specs.Loading.{AreGoneOver}
use Rattle.lic_load.specs.Loading.AreGoneOver.{nothing}
use Rattle.lic_load.specs.Reporting.{IsReported, line_of_template}
use Rattle.lic_load.proofs.Counts.{length_set}
use Rattle.lic_load.proofs.GoneOver.{are_read, read_more, left_out_more}
use Rattle.lic_load.proofs.SetFaults.{fault_of_set}
use Rattle.lic_load.proofs.templates.load_all.Goals as goal

pub returns-in-Ok-build : goal.returns-in-Ok-build
returns-in-Ok-build g c =
    let given = c.into_iter-id-iterator.ensures.into_iter_gives in
    let all = YieldsList-end (YieldsList-from_vec {s = c.into_iter-id-iterator.result} c.args.listing.ids.items given.0 (given.1 ∙ c.args.listing.ids.ok.0))
    c.loop-id.yielded c.loop-id.id-iterator c.loop-id.yielded_by c.next.result c.next.new.self c.in-None.is c.next.ensures.steps in
    let same = length_set c.loop-id.templates.items c.in-Ok-build.set c.in-Ok-build.ensures.holds in
    record {
      left_out = (
        λ refused. let fewer : length c.loop-id.templates.items < length c.loop-id.yielded + c.args.listing.unnamed = c.loop-id.invariant.left_out.0 refused in
            omega (arith, all.1, same),
        λ fewer. c.loop-id.invariant.left_out.1 (omega (arith, all.1, same)),
      );
      read =
          let P : Known → Type 0 = λ known. IsReadBy (rules_of c.args.rules.now) c.args.words.now known.template in
          All-permutation P (pairs_known c.loop-id.templates.items) c.in-Ok-build.set c.in-Ok-build.ensures.holds.holds
          (All-map P pair_known c.loop-id.templates.items c.loop-id.invariant.read);
      loaded = record {
        read = pairs_known c.loop-id.templates.items;
        are_read = are_read c.args.listing c.loop-id.yielded (pairs_known c.loop-id.templates.items) all.0 c.report_unnamed.ensures c.loop-id.invariant.gone_over;
        set_of = c.in-Ok-build.ensures.holds;
      };
      refused = tt;
    }

pub returns-in-Err-build-clause-refused : goal.returns-in-Err-build-clause-refused
returns-in-Err-build-clause-refused g c =
    let given = c.into_iter-id-iterator.ensures.into_iter_gives in
    let all = YieldsList-end (YieldsList-from_vec {s = c.into_iter-id-iterator.result} c.args.listing.ids.items given.0 (given.1 ∙ c.args.listing.ids.ok.0))
    c.loop-id.yielded c.loop-id.id-iterator c.loop-id.yielded_by c.next.result c.next.new.self c.in-None.is c.next.ensures.steps in (
      pairs_known c.loop-id.templates.items,
      are_read c.args.listing c.loop-id.yielded (pairs_known c.loop-id.templates.items) all.0 c.report_unnamed.ensures c.loop-id.invariant.gone_over,
      fault_of_set c.loop-id.templates.items c.in-Err-build.fault c.build.result c.in-Err-build.is c.build.ensures.many c.build.ensures.twice,
    )

pub loop-id-init : goal.loop-id-init
loop-id-init g c = record {
  within = search rules;
  read = search rules;
  left_out = search rules;
  gone_over =
      subst (λ pairs. AreGoneOver (rules_of c.args.rules.now) c.args.words.now (g.E.Sink.taken c.report_unnamed.new.err) (g.E.Sink.failed c.report_unnamed.new.err) []
      (pairs_known pairs) (g.E.Sink.taken c.report_unnamed.new.err) (g.E.Sink.failed c.report_unnamed.new.err))
      (sym c.new-templates.ensures.items) nothing;
}

pub loop-id-preserved : goal.loop-id-preserved
loop-id-preserved g c =
    let longer : length (c.loop-id.yielded ++ c.in-Some.id ∷ []) ≡ length c.loop-id.yielded + 1 = length-append _ _ in
    let reported = c.in_ok-report_left_out-in-Err.ensures in
    record {
      within = omega (arith, longer, c.loop-id.invariant.within);
      read = c.loop-id.invariant.read;
      left_out = (λ refused. omega (arith, longer, c.loop-id.invariant.within), λ fewer. refl);
      gone_over =
          left_out_more c.loop-id.yielded (pairs_known c.loop-id.templates.items) c.in-Some.id reported.0 c.loop-id.invariant.gone_over
          (subst (λ id. IsReported (g.E.Sink.taken c.loop-id.err) (g.E.Sink.taken c.report_left_out.new.err) (g.E.Sink.failed c.loop-id.err)
          (g.E.Sink.failed c.report_left_out.new.err) (line_of_template id reported.0)) c.as_str-in-Err.ensures.value reported.1);
    }

pub loop-id-preserved-in-Continue-1 : goal.loop-id-preserved-in-Continue-1
loop-id-preserved-in-Continue-1 g c =
    let P : String Global × TemplateValue → Type 0 = λ pair. IsReadBy (rules_of c.args.rules.now) c.args.words.now pair.1 in
    let grown : length c.push.new.self.items ≡ length c.loop-id.templates.items + 1 =
    ap length c.in_ok-push-in-Ok.ensures.items ∙ length-append _ _ in
    let longer : length (c.loop-id.yielded ++ c.in-Some.id ∷ []) ≡ length c.loop-id.yielded + 1 = length-append _ _ in
    record {
      within = omega (arith, grown, longer, c.loop-id.invariant.within);
      read = subst (All P) (sym c.in_ok-push-in-Ok.ensures.items) (All-push P _ _ c.loop-id.invariant.read c.in-Ok.ensures);
      left_out = (
        λ refused. let fewer : length c.loop-id.templates.items < length c.loop-id.yielded + c.args.listing.unnamed = c.loop-id.invariant.left_out.0 refused in
            omega (arith, grown, longer, fewer),
        λ fewer. c.loop-id.invariant.left_out.1 (omega (arith, grown, longer, fewer)),
      );
      gone_over =
          subst (λ pairs. AreGoneOver (rules_of c.args.rules.now) c.args.words.now (g.E.Sink.taken c.report_unnamed.new.err) (g.E.Sink.failed c.report_unnamed.new.err)
          (map string_bytes (c.loop-id.yielded ++ c.in-Some.id ∷ [])) (pairs_known pairs) (g.E.Sink.taken c.loop-id.err) (g.E.Sink.failed c.loop-id.err))
          (sym c.in_ok-push-in-Ok.ensures.items)
          (read_more c.loop-id.yielded c.loop-id.templates.items c.in-Some.id c.in-Ok.template c.loop-id.invariant.gone_over c.in-Ok.ensures);
    }
