use Rattle.prom_exporter.proofs.Looked.{shown-known}
use Rattle.prom_exporter.proofs.cells.KeptCell.count.Goals as goal

pub invariant_of-self : goal.invariant_of-self
invariant_of-self g c = shown-known g.C.ValueCell.value_of _ _ _ c.value.ensures.value
