use Rattle.std.proofs.Common.{◌≡◌, List, length}
use Rattle.flushed_cells.specs.declared.counter_state.CounterState.{CounterState}
use Rattle.dsd_exporter.specs.Flushing.{CountersFlushed}
use Rattle.dsd_exporter.proofs.state.State.flush_counters.Given as goal

-- so many of the first counters were flushed
abbrev pub invariant-loop-place : goal.invariant-loop-place
invariant-loop-place g l = record {
  found : List CounterState;
  many : length found ≡ l.place;
  done : CountersFlushed l.fn.self.settings l.moment found l.fn.self l.self l.fn.marks.items l.marks.items l.fn.writer l.writer l.fn.telemetry l.telemetry;
  all : l.place-end ≡ length l.fn.self.series.counters;
}
