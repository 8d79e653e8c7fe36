use Rattle.std.proofs.Common.{◌≡◌, List, length}
use Rattle.flushed_cells.specs.declared.gauge_state.GaugeState.{GaugeState}
use Rattle.dsd_exporter.specs.Flushing.{GaugesFlushed}
use Rattle.dsd_exporter.proofs.state.State.flush_gauges.Given as goal

-- so many of the first gauges were flushed
abbrev pub invariant-loop-place : goal.invariant-loop-place
invariant-loop-place g l = record {
  found : List GaugeState;
  many : length found ≡ l.place;
  done : GaugesFlushed l.fn.self.settings l.moment found l.fn.self l.self l.fn.writer l.writer l.fn.telemetry l.telemetry;
  all : l.place-end ≡ length l.fn.self.series.gauges;
}
