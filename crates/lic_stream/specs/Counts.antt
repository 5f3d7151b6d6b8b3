-- A reader or writer, and how many of its calls have failed.
use Rattle.std.specs.Prelude.{ℕ}
use Rattle.lic_stream.specs.declared.stream.Counted.{Counted}

abbrev pub stream_of : {T : Type 0} → Counted T → T
stream_of s = s.inner

abbrev pub failures_of : {T : Type 0} → Counted T → ℕ
failures_of s = s.count
