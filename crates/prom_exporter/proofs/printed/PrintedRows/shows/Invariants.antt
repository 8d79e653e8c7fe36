use Rattle.std.proofs.Common.{◌≡◌, length, take}
use Rattle.prom_exporter.specs.Printed.{ShowValues}
use Rattle.prom_exporter.proofs.printed.PrintedRows.shows.Given as goal

-- the values so far are shown
abbrev pub invariant-loop-index : goal.invariant-loop-index
invariant-loop-index g l = record {
  shown : ShowValues g.C.Shown.shown l.series (take l.index l.places) (take l.index l.self.values.items);
  many : length l.self.values.items ≡ length l.places;
}
