-- Which passes are those of a shared state.
use Rattle.std.specs.Prelude.{◌≡◌}
use base.Stored.{Coded-set}
use Rattle.atomic_table.specs.Seated.{table_id_coded}
use Rattle.shared_turns.specs.declared.pass.TurnPass.{TurnPass}
use Rattle.dsd_exporter.specs.Exporter.{Exporter}
use Rattle.shared_flushes.specs.declared.entries.StateEntry.{StateEntry}
use Rattle.shared_flushes.specs.declared.state.SharedState.{SharedState}

-- the pass is one of this state
abbrev pub IsPass : SharedState → TurnPass Exporter StateEntry → Type 0
IsPass s p = p.seat.table_id ≡ s.turns.table.shared.table_id

-- there is at most one proof of that
abbrev pub one_pass : (s : SharedState) (p : TurnPass Exporter StateEntry) → IsProp (IsPass s p)
one_pass s p = Coded-set table_id_coded p.seat.table_id s.turns.table.shared.table_id
