use Rattle.std.proofs.Common.{◌≡◌, ℕ, List, map, take}
use Rattle.lic_command.specs.Lines.{AreWritten, input_of}
use Rattle.lic_command.specs.Reporting.{AreReported}
use Rattle.lic_command.specs.declared.progress.Progress.TheVariants.{Hidden}
use Rattle.lic_command.proofs.files.write_each.Given as goal

-- what was read and written about the files so far, on both streams, and no write failed
abbrev pub invariant-loop-done : goal.invariant-loop-done
invariant-loop-done g l =
    (refused : List (List ℕ))
    × AreWritten l.fn.work (input_of (g.R.Source.left l.initial.input) (g.R.Source.failed l.initial.input)) (g.W.Sink.taken l.initial.out)
    (map (λ name. name.now) (take l.done l.fn.files.names.now)) refused
    (input_of (g.R.Source.left l.input) (g.R.Source.failed l.input)) (g.W.Sink.taken l.out) l.written
    × (l.fn.files.progress ≡ Hidden
    → AreReported (g.E.Sink.taken l.initial.err) (g.E.Sink.failed l.initial.err) refused (g.E.Sink.taken l.err) (g.E.Sink.failed l.err))
    × (g.W.Sink.failed l.out ≡ g.W.Sink.failed l.initial.out)
