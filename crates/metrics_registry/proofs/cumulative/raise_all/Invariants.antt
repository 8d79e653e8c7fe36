use Rattle.std.proofs.Common.{◌≡◌, ◌++◌, map, take, drop}
use Rattle.metrics_registry.specs.Buckets.{raised_bucket}
use Rattle.metrics_registry.proofs.cumulative.raise_all.Given as goal

abbrev pub invariant-loop-bucket : goal.invariant-loop-bucket
invariant-loop-bucket l =
    l.buckets ≡ map (raised_bucket l.value.0 l.count) (take l.bucket-index l.initial.buckets) ++ drop l.bucket-index l.initial.buckets
