use Rattle.std.proofs.Common.{◌-◌, ◌≤◌, replicate}
use Rattle.dsd_exporter.specs.Flushing.{Offers}
use Rattle.dsd_exporter.proofs.queued.offer_times.Given as goal

-- so many were handed over
abbrev pub invariant-loop-made : goal.invariant-loop-made
invariant-loop-made g l = record {
  offers : Offers (l.fn.sample, g.W.Words.to_come l.fn.words) (replicate l.made l.value) (l.sample, g.W.Words.to_come l.words);
  few : l.made ≤ l.count;
}

abbrev pub decreases-loop-made : goal.decreases-loop-made
decreases-loop-made g l = l.count - l.made
