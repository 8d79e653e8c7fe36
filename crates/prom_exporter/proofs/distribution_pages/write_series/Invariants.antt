use Rattle.std.proofs.Common.{◌≤◌, List, take}
use Rattle.std.specs.Prelude.{flat_map, string_bytes}
use Rattle.metrics_core.specs.Keys.{LabelText}
use Rattle.prom_exporter.specs.SampledRows.{lines_at, HasRowsOf}
use Rattle.prom_exporter.specs.Sending.{SendsMore}
use Rattle.prom_exporter.proofs.distribution_pages.write_series.Given as goal

-- the rows so far were sent or wait
abbrev pub invariant-loop-place : goal.invariant-loop-place
invariant-loop-place g l = record {
  sent : (globals : List LabelText) → HasRowsOf globals l.series l.rows
      → SendsMore (g.K.Sink.written l.initial.sink) (g.K.Sink.written l.sink) (string_bytes l.initial.buffer) (string_bytes l.buffer) (flat_map (lines_at globals l.moment l.series l.name) (take l.place-index l.places));
  never_falls : g.K.Sink.faults l.initial.sink ≤ g.K.Sink.faults l.sink;
}
