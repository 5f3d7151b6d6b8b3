-- What calls of a source and of a sink do to their bytes and to their counts of failed calls.
use Rattle.std.specs.Prelude.{◌≡◌, ℕ, ◌+◌, ◌-◌, ◌^◌, ◌≤◌, ◌==◌, ◌&&◌, min, List, length, cond, Result, Ok, Err, nat_lt, Option, ◌++◌}
use Rattle.std.specs.Io.KnownBytes.{Appends, Consumes}

-- the count after one more failed call: it stays at the greatest `u64`
abbrev pub one_more : ℕ → ℕ
one_more n = min (n + 1) (2 ^ 64 - 1)

-- the count of failed calls after a read
abbrev pub failures_after_pull : {E : Type 0} → Result ℕ E → ℕ → ℕ
failures_after_pull (Ok n) f = f
failures_after_pull (Err e) f = one_more f

-- the count of failed calls after a write of a piece: one that takes no byte of a piece that is not empty failed
abbrev pub failures_after_put : {E : Type 0} → Result ℕ E → List ℕ → ℕ → ℕ
failures_after_put (Ok n) piece f = cond ((n == 0) && nat_lt 0 (length piece)) (one_more f) f
failures_after_put (Err e) piece f = one_more f

-- known bytes grew by a beginning of `all`
abbrev pub BeginsWith : Option (List ℕ) → Option (List ℕ) → List ℕ → Type 0
BeginsWith old new all = (written rest : List ℕ) × Appends old new written × (all ≡ written ++ rest)

-- these bytes were read, and that many at most
abbrev pub ReadsUpTo : Option (List ℕ) → Option (List ℕ) → ℕ → Type 0
ReadsUpTo old new limit = (bytes : List ℕ) × Consumes old new bytes × (length bytes ≤ limit)
