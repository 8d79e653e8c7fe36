use Rattle.std.proofs.Common.{◌≡◌, ◌++◌, ◌-◌, ◌≤◌, replicate}
use Rattle.dsd_exporter.proofs.queued.push_times.Given as goal

-- so many are there
abbrev pub invariant-loop-made : goal.invariant-loop-made
invariant-loop-made l = record {
  values : l.values.items ≡ l.fn.values.items ++ replicate l.made l.value;
  few : l.made ≤ l.count;
}

abbrev pub decreases-loop-made : goal.decreases-loop-made
decreases-loop-made l = l.count - l.made
