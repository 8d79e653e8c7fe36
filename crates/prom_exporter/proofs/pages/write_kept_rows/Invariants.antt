use Rattle.std.proofs.Common.{◌≡◌, ◌≤◌, ◌*◌, drop, length, take}
use Rattle.std.specs.Prelude.{flat_map, string_bytes}
use Rattle.prom_exporter.specs.Printed.{AreKept, together}
use Rattle.prom_exporter.specs.Rows.{row_at}
use Rattle.prom_exporter.specs.Sending.{SendsMore}
use Rattle.prom_exporter.proofs.pages.write_kept_rows.Given as goal

-- the rows so far were sent or wait, and are kept
abbrev pub invariant-loop-index : goal.invariant-loop-index
invariant-loop-index g l = record {
  rest : l.rest ≡ drop (together * l.index) l.places;
  begun : l.index ≤ length l.printed.rows.items;
  name : string_bytes l.printed.name ≡ l.name;
  kept : AreKept l.name l.label_sets l.places l.initial.printed.rows.items → AreKept l.name l.label_sets l.places l.printed.rows.items;
  sent : AreKept l.name l.label_sets l.places l.initial.printed.rows.items
      → SendsMore (g.K.Sink.written l.initial.sink) (g.K.Sink.written l.sink) (string_bytes l.initial.buffer) (string_bytes l.buffer)
      (flat_map (row_at g.C.Shown.shown l.name l.label_sets l.series) (take (together * l.index) l.places));
  never_falls : g.K.Sink.faults l.initial.sink ≤ g.K.Sink.faults l.sink;
}
