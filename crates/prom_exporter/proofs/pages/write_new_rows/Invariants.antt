use Rattle.std.proofs.Common.{◌≤◌, take}
use Rattle.std.specs.Prelude.{flat_map, string_bytes}
use Rattle.prom_exporter.specs.Rows.{row_at}
use Rattle.prom_exporter.specs.Sending.{SendsMore}
use Rattle.prom_exporter.proofs.pages.write_new_rows.Given as goal

-- the rows so far were sent or wait
abbrev pub invariant-loop-place : goal.invariant-loop-place
invariant-loop-place g l = record {
  sent : SendsMore (g.K.Sink.written l.initial.sink) (g.K.Sink.written l.sink) (string_bytes l.initial.buffer) (string_bytes l.buffer)
      (flat_map (row_at g.C.Shown.shown l.name l.label_sets l.series) (take l.place-index l.places));
  never_falls : g.K.Sink.faults l.initial.sink ≤ g.K.Sink.faults l.sink;
}
