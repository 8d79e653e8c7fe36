use Rattle.std.proofs.Common.{◌≡◌, length}
use Rattle.prom_format.specs.LabelSets.{labels_of}
use Rattle.prom_exporter.specs.Kept.{KeepsFirst}
use Rattle.prom_exporter.proofs.rows.Rows.catch_up.Given as goal

-- what so many of the first want is kept
abbrev pub invariant-loop-place : goal.invariant-loop-place
invariant-loop-place g l = record {
  first : KeepsFirst (labels_of l.globals.entries) l.series l.self;
  many : length l.self.label_sets ≡ l.place;
}
