use Rattle.cell_lanes.proofs.owned.OwnedCell.read.Goals as goal

pub returns-clause-stands : goal.returns-clause-stands
returns-clause-stands g c = rw (← c.self.view_is) (g.C.SharedCell.readings_stand _ _ _ c.read.ensures.read)
