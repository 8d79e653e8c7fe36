use Rattle.std.proofs.Common.{◌≡◌, ◌*◌}
use Rattle.std.specs.VecDeque.{deque_len}
use Rattle.rolling_summaries.specs.Summaries.{kept_in_window, Apart}
use Rattle.rolling_summaries.proofs.buckets.drop_old.Given as goal

abbrev pub invariant-loop-oldest : goal.invariant-loop-oldest
invariant-loop-oldest l = record {
  apart : Apart l.window.width l.kept.items;
  same : kept_in_window (l.window.limit * l.window.width) l.window.now l.kept.items ≡ kept_in_window (l.window.limit * l.window.width) l.window.now l.initial.kept.items;
}

abbrev pub decreases-loop-oldest : goal.decreases-loop-oldest
decreases-loop-oldest l = deque_len l.kept
