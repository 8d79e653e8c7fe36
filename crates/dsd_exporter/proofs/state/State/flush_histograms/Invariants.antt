use Rattle.std.proofs.Common.{◌≡◌, ℕ, List, length}
use Rattle.metrics_core.specs.declared.numbers.Fixed.{Fixed as FixedOf}
use Rattle.metrics_core.specs.Words.{Draws}
use Rattle.dsd_exporter.specs.Flushing.{HistogramsFlushed, Unchanged}
use Rattle.dsd_exporter.proofs.state.State.flush_histograms.Given as goal

-- so many of the first histograms were flushed
abbrev pub invariant-loop-place : goal.invariant-loop-place
invariant-loop-place g l = record {
  found : List (List FixedOf);
  drawn : List ℕ;
  many : length found ≡ l.place;
  done : HistogramsFlushed l.fn.self.settings Unchanged found drawn l.fn.self l.self l.fn.writer l.writer l.fn.telemetry l.telemetry;
  draws : Draws (g.W.Words.to_come l.fn.words) drawn (g.W.Words.to_come l.words);
  all : l.place-end ≡ length l.fn.self.series.histograms;
}
