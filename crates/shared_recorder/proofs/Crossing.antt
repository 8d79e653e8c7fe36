-- A state that is shared may go to another thread, and threads may share a recorder.
use denote.Param.Send.{IsSend, IsSync, sendable, view_send}
use denote.Param.SendFields.{declared_sync, declared_send}
use Rattle.std.proofs.Crossing.{crosses}
use Rattle.std.proofs.mem.ManuallyDrop.TheSendSync as manually_drop
use Rattle.prom_exporter.proofs.Crossing.{state-send}
use Rattle.shared_turns.proofs.turns.Turns.TheSendSync as turns
use Rattle.shared_recorder.specs.contracts.kept.KeptState as Kept
use Rattle.shared_recorder.specs.contracts.kept.KeptState.TheInside as kept
use Rattle.shared_recorder.specs.contracts.recorder.SharedRecorder as Recorder

pub kept-send : IsSend Kept.the_row
kept-send = view_send _ _ _ _ _ (declared_send kept.the_type (search (sendable, crosses, manually_drop.the_send, state-send) depth 20, tt))

pub recorder-send : IsSend Recorder.the_row
recorder-send = declared_send Recorder.the_type (search (sendable, crosses, turns.the_send, kept-send) depth 20, tt)

pub recorder-sync : IsSync Recorder.the_row
recorder-sync = declared_sync Recorder.the_type (search (sendable, crosses, turns.the_sync, kept-send) depth 20, tt)
