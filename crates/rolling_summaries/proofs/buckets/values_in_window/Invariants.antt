use Rattle.std.proofs.Common.{◌≡◌, ◌*◌, ◌++◌, ◌≤◌, length}
use Rattle.std.specs.VecDeque.Iter.{deque_iter_rest}
use Rattle.metrics_registry.specs.Quantiles.{ascending}
use Rattle.rolling_summaries.specs.Summaries.{kept_in_window, Apart}
use Rattle.rolling_summaries.proofs.Kept.{values_of}
use Rattle.rolling_summaries.proofs.buckets.values_in_window.Given as goal

abbrev pub invariant-loop-bucket : goal.invariant-loop-bucket
invariant-loop-bucket l =
    let span = l.window.limit * l.window.width in
    let rest = deque_iter_rest l.bucket-iterator in record {
      apart : Apart l.window.width rest;
      fewer : length rest ≤ length l.kept.items;
      ordered : l.bag ≡ ascending l.bag;
      same : ascending (values_of (kept_in_window span l.window.now l.kept.items)) ≡ ascending (l.bag ++ values_of (kept_in_window span l.window.now rest));
    }
