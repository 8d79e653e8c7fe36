use Rattle.std.proofs.Common.{◌≤◌, map, take}
use Rattle.std.specs.Prelude.{flat_map, string_bytes}
use Rattle.std.specs.Option.{option_copied}
use Rattle.prom_exporter.specs.Printed.{ArePrinted}
use Rattle.prom_exporter.specs.Rows.{family_kept, kept_block}
use Rattle.prom_exporter.specs.Sending.{SendsMore}
use Rattle.prom_exporter.proofs.pages.write_blocks.Given as goal

-- the blocks so far were sent or wait, and what is kept of rows is kept on
abbrev pub invariant-loop-index : goal.invariant-loop-index
invariant-loop-index g l = record {
  printed : ArePrinted l.label_sets (map family_kept l.families.entries) l.printed.items;
  sent : SendsMore (g.K.Sink.written l.initial.sink) (g.K.Sink.written l.sink) (string_bytes l.initial.buffer) (string_bytes l.buffer)
      (flat_map (kept_block g.C.Shown.shown l.naming (option_copied l.suffix) l.family_type l.label_sets l.series) (take l.index (map family_kept l.families.entries)));
  never_falls : g.K.Sink.faults l.initial.sink ≤ g.K.Sink.faults l.sink;
}
