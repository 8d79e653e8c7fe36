-- What a column of series ends as, where a reference to a cell is returned.
use Rattle.std.specs.Prelude.{ℕ}
use Rattle.std.specs.Borrow.{Lends, Fml, RattleType, MutBor}
use Rattle.metrics_registry.specs.Stored.{with_stored_cell}
use Rattle.metrics_registry.specs.declared.columns.Column.{Column}
use Rattle.metrics_registry.specs.contracts.columns.Column.{the_row}

-- the series stored at a place has the last cell written through r
abbrev pub lends_stored : (T : RattleType) → MutBor (Column T.Denot) → ℕ → MutBor T.Denot → Fml
lends_stored T s i r = Lends (the_row T) T s r (with_stored_cell s.now i)
