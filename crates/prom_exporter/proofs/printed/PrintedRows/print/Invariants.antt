use Rattle.std.proofs.Common.{◌≡◌, length, take}
use Rattle.std.specs.Prelude.{string_bytes}
use Rattle.prom_exporter.specs.Printed.{AreRows, ShowValues}
use Rattle.prom_exporter.proofs.printed.PrintedRows.print.Given as goal

-- the rows so far are printed
abbrev pub invariant-loop-place : goal.invariant-loop-place
invariant-loop-place g l = record {
  rows : AreRows l.name l.label_sets (take l.place-index l.places) l.self.values.items (string_bytes l.self.text);
  shown : ShowValues g.C.Shown.shown l.series (take l.place-index l.places) l.self.values.items;
  many : length l.self.values.items ≡ l.place-index;
}
