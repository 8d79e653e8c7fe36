use Rattle.std.proofs.Common.{◌+◌, ◌-◌, ◌<◌, ℕ, List, length}
use Rattle.prom_exporter.specs.Printed.{ArePrinted}
use Rattle.prom_exporter.proofs.printed.begin_family.Given as goal

-- what was kept is kept on
abbrev pub invariant-loop-alloc : goal.invariant-loop-alloc
invariant-loop-alloc l = record {
  printed : (label_sets : List (List ℕ)) (families : List (List ℕ × List ℕ)) → l.index < length families
      → ArePrinted label_sets families l.initial.printed.items → ArePrinted label_sets families l.printed.items;
}

abbrev pub decreases-loop-alloc : goal.decreases-loop-alloc
decreases-loop-alloc l = l.index + 1 - length l.printed.items
