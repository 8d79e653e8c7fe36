-- A count, as it is read.
use Rattle.std.specs.Prelude.{ℕ, List}
use Rattle.std.specs.Borrow.{Bor}
use Rattle.metrics_core.specs.declared.kinds.MetricKind.{MetricKind}
use Rattle.name_counts.specs.Counts.{NameCount}

-- a pair with its count, as they are lent
abbrev pub entry_read : MetricKind × Bor (List ℕ) × ℕ → NameCount
entry_read entry = record { kind = entry.0; name = entry.1.now; count = entry.2 }
