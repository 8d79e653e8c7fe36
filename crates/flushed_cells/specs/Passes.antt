-- What contracts read of a pass.
use Rattle.atomic_table.specs.Seated.{TableId}
use Rattle.legal_history.specs.declared.history.View.{View}
use Rattle.flushed_cells.specs.declared.pass.DsdPass.{DsdPass}

-- what the pass knows
abbrev pub view_of : {S C : Type 0} → DsdPass S C → View C
view_of pass = pass.seat.me.0.client

-- whose pass it is
abbrev pub cell_of : {S C : Type 0} → DsdPass S C → TableId
cell_of pass = pass.seat.table_id
