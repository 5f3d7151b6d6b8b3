-- The canonical spelling of some tokens.
use Rattle.std.proofs.Common.{arith, ◌+◌, ◌-◌, ◌<◌, ◌≤◌, length, ap, ap₂, sym, subst, ◌∙◌}
use Rattle.std.specs.Prelude.{slice_range, IsUtf8}
use Rattle.std.specs.Str.{IsCharBoundary}
use Rattle.std.proofs.lemmas.Str.{IsUtf8-between}
use Rattle.lic_tokens.specs.Places.{place_start, place_end}
use Rattle.lic_places.specs.Places.{AreTexts, spelling_of}
use Rattle.lic_places.proofs.TokenPlaces.{spelling-utf8}
use Rattle.lic_view.proofs.Laws.{tokens_are_at-order}
use Rattle.lic_view.proofs.ViewPlaces.{ends-order}
use Rattle.lic_view.proofs.CountPlaces.{start-whole, end-whole}
use Rattle.lic_view.proofs.ViewRanges.{spelled-at, spelled-none}
use Rattle.lic_view.proofs.view.spelled_from.Goals as goal

pub slice_bounds-utf8_text-count : goal.slice_bounds-utf8_text-count
slice_bounds-utf8_text-count c =
    let tokens = c.args.tokens.now in
    let texts : AreTexts tokens = record { utf8 = c.texts_are_utf8.ensures; texts = c.texts_are_token_texts.ensures } in
    let some : 0 < c.args.count = omega (arith, c.if-count-eq0.false) in
    let first : place_start tokens c.args.first < place_end tokens c.args.first = tokens_are_at-order tokens c.args.first texts (omega (arith, c.requires)) in
    omega (
      arith,
      c.place-start.ensures.start,
      c.place-end.ensures.end,
      first,
      ends-order tokens c.args.first (c.args.first + c.args.count - 1) texts (omega arith) (omega (arith, c.requires)),
    )

pub slice_bounds-utf8_text-start : goal.slice_bounds-utf8_text-start
slice_bounds-utf8_text-start c =
    let tokens = c.args.tokens.now in
    let texts : AreTexts tokens = record { utf8 = c.texts_are_utf8.ensures; texts = c.texts_are_token_texts.ensures } in
    let some : 0 < c.args.count = omega (arith, c.if-count-eq0.false) in
    let first : place_start tokens c.args.first < place_end tokens c.args.first = tokens_are_at-order tokens c.args.first texts (omega (arith, c.requires)) in
    omega (
      arith,
      c.place-start.ensures.start,
      c.place-end.ensures.end,
      first,
      ends-order tokens c.args.first (c.args.first + c.args.count - 1) texts (omega arith) (omega (arith, c.requires)),
    )

pub slice_bounds-utf8_text-end : goal.slice_bounds-utf8_text-end
slice_bounds-utf8_text-end c =
    let tokens = c.args.tokens.now in
    let texts : AreTexts tokens = record { utf8 = c.texts_are_utf8.ensures; texts = c.texts_are_token_texts.ensures } in
    let whole : IsCharBoundary (spelling_of tokens) (place_end tokens (c.args.first + c.args.count - 1)) =
    end-whole tokens (c.args.first + c.args.count - 1) texts (omega (arith, c.requires, c.if-count-eq0.false)) in
    omega (arith, c.place-end.ensures.end, ap length c.spelled.ensures, whole.0)

pub utf8_text-requires : goal.utf8_text-requires
utf8_text-requires c =
    let tokens = c.args.tokens.now in
    let first = c.args.first in
    let last = c.args.first + c.args.count - 1 in
    let texts : AreTexts tokens = record { utf8 = c.texts_are_utf8.ensures; texts = c.texts_are_token_texts.ensures } in
    let order : place_start tokens first ≤ place_end tokens last =
    omega (
      arith,
      tokens_are_at-order tokens first texts (omega (arith, c.requires, c.if-count-eq0.false)),
      ends-order tokens first last texts (omega (arith, c.if-count-eq0.false)) (omega (arith, c.requires, c.if-count-eq0.false)),
    ) in
    subst IsUtf8
    (sym (ap₂ (λ m n. slice_range c.spelled.result.now m n) c.place-start.ensures.start c.place-end.ensures.end
    ∙ ap (λ l. slice_range l (place_start tokens first) (place_end tokens last)) c.spelled.ensures))
    (IsUtf8-between (spelling_of tokens) (place_start tokens first) (place_end tokens last) (spelling-utf8 tokens texts) order
    (start-whole tokens first texts (omega (arith, c.requires, c.if-count-eq0.false)))
    (end-whole tokens last texts (omega (arith, c.requires, c.if-count-eq0.false))))

pub returns : goal.returns
returns c =
    spelled-at c.args.tokens.now c.args.first c.args.count c.requires c.place-start.result.start c.place-end.result.end
    c.spelled.result.now c.utf8_text.result.now (omega (arith, c.if-count-eq0.false)) c.place-start.ensures.start c.place-end.ensures.end
    c.spelled.ensures c.utf8_text.ensures

pub returns-then-count-eq0 : goal.returns-then-count-eq0
returns-then-count-eq0 c = spelled-none c.args.tokens.now c.args.first c.args.count c.requires 0 c.if-count-eq0.true
