use Rattle.std.proofs.Common.{◌≡◌, None, take}
use Rattle.std.specs.List.{flat_map}
use Rattle.lic_kind.specs.LineRules.{rules_of}
use Rattle.lic_norm.proofs.feeder.read_pieces.Given as goal

-- the pieces so far were fed
abbrev pub invariant-loop-piece : goal.invariant-loop-piece
invariant-loop-piece l = record {
  fed : l.feeder.bytes ≡ flat_map (λ p. p.now) (take l.piece-index l.fn.pieces);
  unrefused : l.feeder.refused ≡ None;
  words : l.feeder.words ≡ l.fn.words;
  rules : l.feeder.rules ≡ rules_of l.fn.rules;
}
