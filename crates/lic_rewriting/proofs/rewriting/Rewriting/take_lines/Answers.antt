use Rattle.std.proofs.Common.{◌≡◌, ℕ, ◌-◌, ◌<◌, [], true, length, refl, sym, ap, subst, ◌∙◌, append-nil, length-drop, arith}
use Rattle.lic_columns.specs.TokenOffsets.{TokenOffsets}
use Rattle.lic_phrases.specs.Settling.{Settles}
use Rattle.lic_rewriting.specs.Sections.{AreTokenOffsets, tokens_at}
use Rattle.lic_tokens.specs.Tokens.{HaveTexts}
use Rattle.lic_rewriting.proofs.LeftTokens.{all_taken, left, left_offsets, left_texts, part_taken}
use Rattle.lic_rewriting.proofs.SectionTokens.{length-span_tokens}
use Rattle.lic_rewriting.proofs.rewriting.Rewriting.take_lines.Goals as goal

-- there are as many tokens as offsets where one begins
long : (at : ℕ) (offsets : TokenOffsets) → AreTokenOffsets at offsets → length (tokens_at at offsets) ≡ length offsets.starts
long at offsets are = length-span_tokens true at at offsets.letters offsets.starts offsets.ends are.paired

pub loop-from-init : goal.loop-from-init
loop-from-init c = record {
  within = omega arith;
  offsets = c.requires.offsets;
  texts = c.requires.texts;
  taken = λ taken has. (
    [],
    record {
      settled = has.settled;
      settles = subst (λ ts. Settles c.args.self.now.phrases.now.phrases ts has.settled c.args.self.now.rewriter) (sym (append-nil taken)) has.settles;
      listed = c.reserve.ensures ∙ has.listed;
      known = has.known;
      texts = subst HaveTexts (sym (append-nil taken)) has.texts;
    },
    refl,
  );
  phrases = refl;
  emptied = c.clear.ensures.items;
}

pub take_until-requires-clause-within : goal.take_until-requires-clause-within
take_until-requires-clause-within c =
    let known = c.loop-from.invariant in
    omega (arith, known.within, ap length c.of-section.ensures, long c.args.at c.loop-from.lines known.offsets)

pub take_until-requires-clause-before : goal.take_until-requires-clause-before
take_until-requires-clause-before c =
    record { taken = _; has = (c.loop-from.invariant.taken c.requires.before.taken c.requires.before.has).1 }

pub overflow_sub-next : goal.overflow_sub-next
overflow_sub-next c =
    let known = c.loop-from.invariant in
    omega (
      arith,
      c.loop-from-test.true,
      ap length c.starts-in-loop-from.ensures,
      c.in_ok-next.ensures.from,
      c.max-part.ensures,
      ap length c.of-section.ensures,
      long c.args.at c.loop-from.lines known.offsets,
    )

pub let_go-requires-clause-starts : goal.let_go-requires-clause-starts
let_go-requires-clause-starts c =
    let known = c.loop-from.invariant in
    omega (arith, c.in_ok-next.ensures.within, ap length c.of-section.ensures, long c.args.at c.loop-from.lines known.offsets)

pub let_go-requires-clause-ends : goal.let_go-requires-clause-ends
let_go-requires-clause-ends c =
    let known = c.loop-from.invariant in
    omega (
      arith,
      c.in_ok-next.ensures.within,
      ap length c.of-section.ensures,
      long c.args.at c.loop-from.lines known.offsets,
      known.offsets.paired,
    )

pub loop-from-smaller : goal.loop-from-smaller
loop-from-smaller c =
    let known = c.loop-from.invariant in
    let k = c.in_ok-next.next - 1 in
    omega (
      arith,
      c.loop-from-test.true,
      ap length c.starts-in-loop-from.ensures,
      c.in_ok-next.ensures.from,
      c.in_ok-next.ensures.within,
      c.max-part.ensures,
      ap length c.of-section.ensures,
      long c.args.at c.loop-from.lines known.offsets,
      ap (λ (p : TokenOffsets). length p.starts) c.let_go.ensures,
      length-drop k c.loop-from.lines.starts,
    )

pub loop-from-preserved : goal.loop-from-preserved
loop-from-preserved c =
    let at = c.args.at in
    let known = c.loop-from.invariant in
    let offsets = c.loop-from.lines in
    let next = c.in_ok-next.next in
    let k = next - 1 in
    let part = c.in_ok-next.ensures in
    let is : c.let_go.new.self ≡ left k offsets = c.let_go.ensures in
    let count = long at offsets known.offsets in
    let some : 0 < next = omega (arith, c.loop-from-test.true, ap length c.starts-in-loop-from.ensures, part.from, c.max-part.ensures, ap length c.of-section.ensures, count) in
    let lt : k < length offsets.starts = omega (arith, some, part.within, ap length c.of-section.ensures, count) in
    record {
      within = omega (arith, lt, ap (λ (p : TokenOffsets). length p.starts) is, length-drop k offsets.starts);
      offsets = subst (AreTokenOffsets at) (sym is) (left_offsets at offsets known.offsets k lt);
      texts = subst (λ (p : TokenOffsets). HaveTexts (tokens_at at p)) (sym is) (left_texts at offsets known.offsets k lt known.texts);
      taken = part_taken at offsets known.offsets k lt c.loop-from.from next c.of-section.result (tokens_at at c.args.lines.now) c.let_go.new.self c.args.self.now c.loop-from.self
          c.take_until.new.self c.of-section.ensures is (omega (arith, some)) known.taken part.taken;
      phrases = part.phrases ∙ known.phrases;
      emptied = part.emptied;
    }

pub returns-clause-taken : goal.returns-clause-taken
returns-clause-taken c = λ taken has.
    let at = c.args.at in
    let known = c.loop-from.invariant in
    let offsets = c.loop-from.lines in
    all_taken (tokens_at at offsets) (tokens_at at c.args.lines.now) c.loop-from.from c.args.self.now c.loop-from.self known.taken
    (omega (arith, c.loop-from-test.false, ap length c.starts-in-loop-from.ensures, long at offsets known.offsets)) taken has
