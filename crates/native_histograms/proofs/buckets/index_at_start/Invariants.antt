use Rattle.std.proofs.Common.{◌≡◌, ℕ, suc, ◌*◌, ◌^◌, ◌<◌}
use Rattle.metrics_core.specs.Numbers.{one}
use Rattle.native_histograms.proofs.buckets.index_at_start.Given as goal

abbrev pub invariant-loop-place : goal.invariant-loop-place
invariant-loop-place l = (l.bound ≡ one * 2 ^ l.place) × ((j : ℕ) → suc j ≡ l.place → one * 2 ^ j < l.scaled)
