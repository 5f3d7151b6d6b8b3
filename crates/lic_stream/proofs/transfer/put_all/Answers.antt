use Rattle.std.proofs.Common.{take, drop, sym, rules}
use Rattle.std.proofs.lemmas.List.{take-append-drop}
use Rattle.std.proofs.KnownBytes.{Appends-kept}
use Rattle.lic_stream.proofs.Written.{Appends-none, Appends-take}
use Rattle.lic_stream.proofs.transfer.put_all.Goals as goal

pub returns-in-Err-clause-part : goal.returns-in-Err-clause-part
returns-in-Err-clause-part g c = (
  take c.loop-at.at c.args.piece.now,
  drop c.loop-at.at c.args.piece.now,
  Appends-kept _ _ _ _ c.loop-at.invariant.written c.in-Err.ensures.bytes,
  sym (take-append-drop c.loop-at.at c.args.piece.now),
)

pub returns-in-Ok-eq0-clause-part : goal.returns-in-Ok-eq0-clause-part
returns-in-Ok-eq0-clause-part g c = (
  take c.loop-at.at c.args.piece.now,
  drop c.loop-at.at c.args.piece.now,
  Appends-none _ _ _ _ _ _ c.loop-at.invariant.written c.in-Ok-eq0.ensures.bytes (search rules),
  sym (take-append-drop c.loop-at.at c.args.piece.now),
)

pub loop-at-preserved : goal.loop-at-preserved
loop-at-preserved g c =
    record {
      within = search rules;
      written = Appends-take _ _ _ c.args.piece.now c.loop-at.at c.in-Ok.n c.loop-at.invariant.written c.in-Ok.ensures.bytes;
      sound = search rules;
    }
