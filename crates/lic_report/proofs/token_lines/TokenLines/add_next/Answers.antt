use Rattle.std.proofs.Common.{◌≡◌, ◌<◌, ◌≤◌, ◌+◌, ◌++◌, List, ℕ, suc, length, get_or, ap, ap₂, sym, subst, ◌∙◌, arith}
use Rattle.std.proofs.lemmas.Bool.Decides.{nat_tests}
use Rattle.std.specs.List.{slice_range}
use Rattle.lic_phrases.specs.Spelling.{spelled}
use Rattle.lic_norm.specs.Places.{texts_of}
use Rattle.lic_places.proofs.TokenPlaces.{place_end-is}
use Rattle.lic_fields.specs.Fields.{ArePlain}
use Rattle.lic_report.specs.Report.{no_token}
use Rattle.lic_report.specs.TokenLines.{lines_between}
use Rattle.lic_report.proofs.LinesBetween.{between_one, line_is}
use Rattle.lic_report.proofs.PlainLemmas.{end_of, plain_text, start-order}
use Rattle.lic_report.proofs.TokenLemmas.{end-fits, text-long, text-range}
use Rattle.lic_report.proofs.token_lines.TokenLines.add_next.Goals as goal

pub plain_after-plain_to-requires : goal.plain_after-plain_to-requires
plain_after-plain_to-requires c =
    let tokens = c.self.inside.text.now.tokens in
    let within : c.self.inside.added < length tokens = omega (arith, c.if-i-len.false, c.len.ensures) in
    omega (arith, c.place-start.ensures.end, ap length c.spelled-spelled.ensures, end-fits tokens c.self.inside.added no_token within)

pub slice_bounds-add_line-count : goal.slice_bounds-add_line-count
slice_bounds-add_line-count c =
    let tokens = c.self.inside.text.now.tokens in
    let within : c.self.inside.added < length tokens = omega (arith, c.if-i-len.false, c.len.ensures) in
    omega (arith, c.place-start.ensures.start, c.place-start.ensures.end, text-long tokens c.self.inside.added no_token within)

pub slice_bounds-add_line-start : goal.slice_bounds-add_line-start
slice_bounds-add_line-start c = slice_bounds-add_line-count c

pub slice_bounds-add_line-end : goal.slice_bounds-add_line-end
slice_bounds-add_line-end c =
    let tokens = c.self.inside.text.now.tokens in
    let within : c.self.inside.added < length tokens = omega (arith, c.if-i-len.false, c.len.ensures) in
    omega (arith, c.place-start.ensures.end, ap length c.spelled-spelled.ensures, end-fits tokens c.self.inside.added no_token within)

pub add_line-requires : goal.add_line-requires
add_line-requires c =
    let tokens = c.self.inside.text.now.tokens in
    let i = c.self.inside.added in
    let within : i < length tokens = omega (arith, c.if-i-len.false, c.len.ensures) in
    let text : slice_range c.spelled-spelled.result.now c.place-start.result.start c.place-start.result.end ≡ (get_or tokens i no_token).text =
    ap (λ (b : List ℕ). slice_range b c.place-start.result.start c.place-start.result.end) c.spelled-spelled.ensures
    ∙ (ap₂ (λ a b. slice_range (spelled (texts_of tokens)) a b) c.place-start.ensures.start c.place-start.ensures.end
    ∙ text-range tokens i no_token within) in
    record {
      plain = λ fits.
          let ends : c.place-start.result.end ≤ c.self.inside.plain_to = grind (arith, nat_tests, fits) in
          subst ArePlain (sym text)
          (plain_text tokens i i c.self.inside.plain_to no_token c.self.invariant.1 (omega arith) within
          (omega (arith, ends, c.place-start.ensures.end)));
    }

pub invariant_of-self : goal.invariant_of-self
invariant_of-self c =
    let tokens = c.self.inside.text.now.tokens in
    let i = c.self.inside.added in
    let within : i < length tokens = omega (arith, c.if-i-len.false, c.len.ensures) in
    let next : suc i ≡ i + 1 = omega arith in
    let ends : c.place-start.result.end ≡ end_of tokens (i + 1) =
    c.place-start.ensures.end ∙ (place_end-is tokens i ∙ ap (end_of tokens) next) in
    let order : end_of tokens i ≤ c.place-start.result.end =
    omega (arith, start-order tokens i within, c.place-start.ensures.end, text-long tokens i no_token within) in
    let before : ArePlain (slice_range c.spelled-spelled.result.now (end_of tokens i) c.self.inside.plain_to) =
    subst (λ (b : List ℕ). ArePlain (slice_range b (end_of tokens i) c.self.inside.plain_to)) (sym c.spelled-spelled.ensures) c.self.invariant.1 in (
      omega (arith, within),
      subst (λ (n : ℕ). ArePlain (slice_range (spelled (texts_of tokens)) n c.plain_after-plain_to.result)) ends
          (subst (λ (b : List ℕ). ArePlain (slice_range b c.place-start.result.end c.plain_after-plain_to.result)) c.spelled-spelled.ensures
          (c.plain_after-plain_to.ensures (end_of tokens i) order before)),
    )

pub returns-clause-lines : goal.returns-clause-lines
returns-clause-lines c =
    let tokens = c.self.inside.text.now.tokens in
    let i = c.self.inside.added in
    let within : i < length tokens = omega (arith, c.if-i-len.false, c.len.ensures) in
    let text : slice_range c.spelled-spelled.result.now c.place-start.result.start c.place-start.result.end ≡ (get_or tokens i no_token).text =
    ap (λ (b : List ℕ). slice_range b c.place-start.result.start c.place-start.result.end) c.spelled-spelled.ensures
    ∙ (ap₂ (λ a b. slice_range (spelled (texts_of tokens)) a b) c.place-start.ensures.start c.place-start.ensures.end
    ∙ text-range tokens i no_token within) in
    subst (λ v. c.add_line.new.lines ≡ c.args.lines.now ++ lines_between v.front v.tokens v.added (i + 1)) c.self.view_is
    (c.in_ok-add_line.ensures
    ∙ (line_is c.args.lines.now c.self.inside.front _ c.span-span.result (get_or tokens i no_token) _ (c.span-span.ensures no_token) text
    ∙ ap (λ l. c.args.lines.now ++ l) (sym (between_one c.self.inside.front tokens i no_token within))))
