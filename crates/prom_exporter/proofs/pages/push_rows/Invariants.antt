use Rattle.std.proofs.Common.{◌≡◌, ◌++◌, take}
use Rattle.std.specs.Prelude.{flat_map, string_bytes}
use Rattle.prom_exporter.specs.Rows.{row_at}
use Rattle.prom_exporter.proofs.pages.push_rows.Given as goal

-- the rows so far were appended
abbrev pub invariant-loop-place : goal.invariant-loop-place
invariant-loop-place g l = record {
  rows : string_bytes l.buffer ≡ string_bytes l.initial.buffer ++ flat_map (row_at g.C.Shown.shown l.name l.label_sets l.series) (take l.place-index l.places);
}
