-- What closures that run in a second thread borrow may go there.
use mir.Syntax.{Lifetime, Sym}
use base.Fml.{Lft}
use denote.Ref.{MutRef, ShrRef}
use denote.RattleType.{RattleType}
use denote.Struct.Field.{row_field}
use denote.Struct.Tuple.{TupleAt, parts, type_at}
use denote.Param.Send.{AllSend, IsSend, mut_send, shr_send, sendable, view_send}
use denote.Param.SendFields.{FieldsHave, declared_send, as_row_send}
use Rattle.std.proofs.Common.{List, [], ◌∷◌}
use Rattle.std.proofs.Crossing.{crosses}
use Rattle.std.proofs.Crossing as alloc
use Rattle.std.specs.contracts.alloc.Global as Global
use Rattle.dsd_exporter.specs.contracts.state.State as State
use Rattle.dsd_exporter.proofs.Crossing.{state-send}
use Rattle.metrics_core.proofs.words.Lcg.TheSendSync as words
use Rattle.dsd_writer.specs.contracts.writer.PayloadWriter as Writer
use Rattle.dsd_writer.specs.contracts.writer.PayloadWriter.TheInside as written
use Rattle.dsd_exporter.proofs.flush_state.FlushState.TheSendSync as marks
use Rattle.dsd_exporter.proofs.update.TelemetryUpdate.TheSendSync as updates
use Rattle.dsd_exporter.proofs.sending.FlushReport.TheSendSync as reports
use Rattle.script_player.specs.contracts.flushes.Flushes as Flushes

-- what makes payloads of lines
writer-send : IsSend Writer.the_row
writer-send =
    view_send _ _ _ _ _ (declared_send written.the_type (
      search sendable,
      (search sendable, (search (sendable, crosses) depth 20 fits 4000, (search (sendable, crosses) depth 20 fits 4000, (search (sendable, crosses) depth 20 fits 4000, (search sendable, tt))))),
    ))

-- what flushes go through
flushes-send : IsSend Flushes.the_row
flushes-send =
    declared_send Flushes.the_type (
      search (sendable, marks.the_send),
      (as_row_send Writer.the_field writer-send, (search (sendable, updates.the_send), (search (sendable, words.the_send), (search (sendable, reports.the_send), tt)))),
    )

-- ---- what is lent to a closure

pub flushes-lent : (ℓ : Lifetime) (κ : Lft) → IsSend (MutRef ℓ κ Flushes.the_row)
flushes-lent ℓ κ = mut_send ℓ κ Flushes.the_row flushes-send

pub lines-lent : (ℓ : Lifetime) (κ : Lft) → IsSend (MutRef ℓ κ State.the_row)
lines-lent ℓ κ = mut_send ℓ κ State.the_row state-send

pub alloc-lent : (ℓ : Lifetime) (κ : Lft) → IsSend (ShrRef ℓ κ Global.the_row)
alloc-lent ℓ κ = shr_send ℓ κ Global.the_row alloc.sync

-- ---- a closure, over its captures

captures-send : (Ts : List RattleType) → AllSend Ts → FieldsHave IsSend (parts Ts)
captures-send [] s = tt
captures-send (T ∷ Ts) s = (as_row_send (row_field T) s.0, captures-send Ts s.1)

pub closure-send : (ν : Sym) (Ts : List RattleType) → AllSend Ts → IsSend (TupleAt ν Ts)
closure-send ν Ts s = declared_send (type_at ν Ts) (captures-send Ts s)
