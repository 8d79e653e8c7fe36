-- What contracts read of a recorder.
use Rattle.std.specs.Prelude.{◌≡◌}
use Rattle.shared_turns.specs.declared.pass.TurnPass.{TurnPass}
use Rattle.shared_turns.specs.Passes.{view_of}
use Rattle.prom_exporter.specs.Exporter.{Exporter}
use Rattle.shared_recorder.specs.declared.entries.RecorderEntry.{RecorderEntry}
use Rattle.shared_recorder.specs.declared.recorder.SharedRecorder.{SharedRecorder}

-- the pass is one of this recorder
abbrev pub IsPass : SharedRecorder → TurnPass Exporter RecorderEntry → Type 0
IsPass r p = p.seat.table_id ≡ r.turns.table.shared.table_id

-- the pass is one of this recorder as before: it has its number, and as many passes were split off
abbrev pub Stays : SharedRecorder → TurnPass Exporter RecorderEntry → TurnPass Exporter RecorderEntry → Type 0
Stays r p q = IsPass r q × ((view_of q).number ≡ (view_of p).number) × (q.splits ≡ p.splits)
