-- A recorder and its handles may go to another thread, and threads may share them.
use denote.Param.Send.{IsSend, IsSync, sendable, view_send, view_sync}
use denote.Param.SendFields.{declared_send, declared_sync}
use Rattle.std.proofs.Crossing.{crosses}
use Rattle.shared_turns.proofs.pass.TurnPass.TheSendSync as passes
use Rattle.shared_recorder.proofs.Crossing.{kept-send, recorder-send as inner-send, recorder-sync as inner-sync}
use Rattle.prom_recorder.specs.contracts.own_pass.OwnPass as Own
use Rattle.prom_recorder.specs.contracts.shared.Shared as Shared
use Rattle.prom_recorder.specs.contracts.recorder.PrometheusRecorder as Recorder
use Rattle.prom_recorder.specs.contracts.recorder.PrometheusRecorder.TheInside as recorder
use Rattle.prom_recorder.specs.contracts.handle.PrometheusHandle as Handle
use Rattle.prom_recorder.specs.contracts.handle.PrometheusHandle.TheInside as handle

own-send : IsSend Own.the_row
own-send = declared_send Own.the_type (search (sendable, crosses, inner-send, inner-sync) depth 20, (search (sendable, crosses, passes.the_send, kept-send) depth 20, tt))

shared-send : IsSend Shared.the_row
shared-send = declared_send Shared.the_type (search (sendable, crosses, inner-send, inner-sync) depth 20, (search (sendable, crosses, own-send) depth 20, tt))

shared-sync : IsSync Shared.the_row
shared-sync = declared_sync Shared.the_type (search (sendable, crosses, inner-send, inner-sync) depth 20, (search (sendable, crosses, own-send) depth 20, tt))

pub recorder-send : IsSend Recorder.the_row
recorder-send = view_send _ _ _ _ _ (declared_send recorder.the_type (search (sendable, crosses, shared-send, shared-sync) depth 20, tt))

pub recorder-sync : IsSync Recorder.the_row
recorder-sync = view_sync _ _ _ _ _ (declared_sync recorder.the_type (search (sendable, crosses, shared-send, shared-sync) depth 20, tt))

pub handle-send : IsSend Handle.the_row
handle-send = view_send _ _ _ _ _ (declared_send handle.the_type (search (sendable, crosses, shared-send, shared-sync) depth 20, tt))

pub handle-sync : IsSync Handle.the_row
handle-sync = view_sync _ _ _ _ _ (declared_sync handle.the_type (search (sendable, crosses, shared-send, shared-sync) depth 20, tt))
