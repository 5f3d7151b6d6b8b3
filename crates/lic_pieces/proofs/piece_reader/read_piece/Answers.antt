use Rattle.std.proofs.Common.{◌≡◌, ◌+◌, ◌++◌, [], refl, true, drop, map, ap, sym, subst, ◌∙◌, append_assoc}
use Rattle.std.specs.Str.{IsCharBoundary}
use Rattle.std.proofs.lemmas.List.{drop-drop, map-append}
use Rattle.std.proofs.lemmas.Str.{IsCharBoundary-from_rest, IsCharBoundary-start}
use Rattle.lic_kind.specs.LineRules.{rules_of}
use Rattle.lic_phrases.specs.TokenTexts.{HaveTokenTexts}
use Rattle.lic_pieces.specs.Edges.{HasEdges}
use Rattle.lic_pieces.specs.Pieces.{bare_token, piece_cells, piece_tokens}
use Rattle.lic_pieces.proofs.PieceLines.{no_more_cells, no_more_tokens}
use Rattle.lic_pieces.proofs.piece_reader.read_piece.Goals as goal

pub with_capacity-requires : goal.with_capacity-requires
with_capacity-requires c = subst HaveTokenTexts (sym c.phrases.ensures) c.spellings_are_token_texts.ensures

pub loop-at-init : goal.loop-at-init
loop-at-init c = record {
  edges = ([], c.none.ensures, refl);
  taken = ([], c.in_ok-with_capacity.ensures.taken, refl);
  phrases = ap (λ p. p.phrases) c.in_ok-with_capacity.ensures.phrases ∙ c.phrases.ensures;
  boundary = IsCharBoundary-start c.args.text.now c.utf8.text;
}

pub take_next-requires-clause-before : goal.take_next-requires-clause-before
take_next-requires-clause-before c = record { taken = c.loop-at.invariant.taken.0; has = c.loop-at.invariant.taken.1 }

pub loop-at-preserved : goal.loop-at-preserved
loop-at-preserved c =
    let known = c.loop-at.invariant in
    let text = c.args.text.now in
    let at = c.loop-at.at in
    let n = c.in_ok-count.count in
    let rules = rules_of c.args.rules.now in
    let before = c.args.before in
    let front = c.loop-at.has_front in
    let left : c.range_from.result.now ≡ drop at text = c.range_from.ensures.value in
    let rest : drop n c.range_from.result.now ≡ drop (at + n) text = ap (drop n) left ∙ drop-drop n at text in
    let more = c.in_ok-count.ensures.edges known.edges.0 known.edges.1 in
    let took = c.in_ok-count.ensures.taken known.taken.0 known.taken.1 in
    record {
      edges = (
        known.edges.0 ++ more.0,
        more.1,
        append_assoc known.edges.0 more.0 (piece_cells rules true before (drop (at + n) text))
            ∙ ap (λ l. known.edges.0 ++ l) (ap (λ l. more.0 ++ piece_cells rules true before l) (sym rest) ∙ more.2
            ∙ ap (piece_cells rules front before) left)
            ∙ known.edges.2,
      );
      taken = (
        known.taken.0 ++ took.0,
        took.1,
        ap (λ l. l ++ piece_tokens rules true before (drop (at + n) text)) (map-append bare_token known.taken.0 took.0)
            ∙ append_assoc (map bare_token known.taken.0) (map bare_token took.0) (piece_tokens rules true before (drop (at + n) text))
            ∙ ap (λ l. map bare_token known.taken.0 ++ l) (ap (λ l. map bare_token took.0 ++ piece_tokens rules true before l) (sym rest) ∙ took.2
            ∙ ap (piece_tokens rules front before) left)
            ∙ known.taken.2,
      );
      phrases = ap (λ p. p.phrases) c.in_ok-count.ensures.phrases ∙ known.phrases;
      boundary = IsCharBoundary-from_rest text at n known.boundary.0 (subst (λ l. IsCharBoundary l n) left c.in_ok-count.ensures.boundary);
    }

pub returns-clause-edges : goal.returns-clause-edges
returns-clause-edges c =
    let so_far = c.loop-at.invariant.edges in
    subst (HasEdges c.loop-at.reader.edges)
    (no_more_cells (rules_of c.args.rules.now) c.loop-at.has_front c.args.before c.args.text.now c.loop-at.at _ _ c.loop-at-test.false so_far.2)
    so_far.1

pub returns-clause-taken : goal.returns-clause-taken
returns-clause-taken c =
    let so_far = c.loop-at.invariant.taken in (
      so_far.0,
      so_far.1,
      no_more_tokens
          (rules_of c.args.rules.now) c.loop-at.has_front c.args.before c.args.text.now c.loop-at.at _ _ c.loop-at-test.false so_far.2,
    )
