use Rattle.std.proofs.Common.{◌≡◌, None}
use Rattle.histogram_series.specs.Drains.{Drains}
use Rattle.histogram_series.proofs.series.HistogramSeries.drain.Given as goal

-- entries were taken out, and none waits
abbrev pub invariant-loop : goal.invariant-loop
invariant-loop g l =
    (goal.iterator-loop g).can_next l.iterator' × (goal.iterator-loop g).is_finite l.iterator' × Drains l.fn.self l.self × (l.self.stray ≡ None)
