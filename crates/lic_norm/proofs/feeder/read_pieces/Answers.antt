use Rattle.std.proofs.Common.{◌≡◌, ◌≢◌, Some, rules}
use Rattle.std.specs.List.{flat_map}
use Rattle.lic_norm.specs.declared.fault.TextFault.TheVariants.{Memory}
use Rattle.lic_norm.specs.Refusal.{refusal_of}
use Rattle.lic_norm.proofs.Refused.{refused_piece}
use Rattle.lic_norm.proofs.feeder.read_pieces.Goals as goal

pub returns-in_err-feed-clause-refused : goal.returns-in_err-feed-clause-refused
returns-in_err-feed-clause-refused c =
    let stated : c.in_err-feed.field-0.0 ≢ Memory → refusal_of (flat_map (λ p. p.now) c.args.pieces.now) ≡ Some c.in_err-feed.field-0.0 =
    λ not_memory. refused_piece (λ p. p.now) c.args.pieces.now c.loop-piece.piece-index _ c.loop-piece.feeder.bytes c.in_err-feed.field-0.0 c.loop-piece-test.true
    c.loop-piece.invariant.fed (c.in_err-feed.ensures.refused c.loop-piece.invariant.unrefused not_memory) in
    let same = c.from_residual.ensures in
    search (rules, same, stated)
