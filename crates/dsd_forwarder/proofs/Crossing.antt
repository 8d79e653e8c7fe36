-- A recorder may be shared among threads, and a forwarder may go to another.
use denote.Param.Send.{IsSend, IsSync, sendable, view_send}
use denote.Param.SendFields.{declared_send, declared_sync}
use Rattle.std.proofs.Crossing.{crosses}
use Rattle.dsd_exporter.proofs.Crossing.{state-send}
use Rattle.shared_turns.proofs.pass.TurnPass.TheSendSync as passes
use Rattle.shared_flushes.proofs.Crossing.{shared-send, shared-sync}
use Rattle.dsd_forwarder.specs.contracts.held_pass.HeldPass as Held
use Rattle.dsd_forwarder.specs.contracts.recorder.DogStatsDRecorder as Recorder
use Rattle.dsd_exporter.proofs.flush_state.FlushState.TheSendSync as marks
use Rattle.dsd_exporter.proofs.update.TelemetryUpdate.TheSendSync as update
use Rattle.dsd_forwarder.proofs.configuration.ForwarderConfiguration.TheSendSync as configuration
use Rattle.dsd_forwarder.proofs.telemetry.Telemetry.TheSendSync as telemetry
use Rattle.dsd_forwarder.specs.contracts.forwarder.Forwarder as Forwarder
use Rattle.dsd_forwarder.specs.contracts.forwarder.Forwarder.TheInside as forwarder

held-send : IsSend Held.the_row
held-send = declared_send Held.the_type (search (sendable, crosses, shared-send, shared-sync) depth 30 fits 4000, (search (sendable, crosses, passes.the_send, state-send) depth 30 fits 4000, tt))

pub recorder-sync : IsSync Recorder.the_row
recorder-sync = declared_sync Recorder.the_type (search (sendable, crosses, shared-send, shared-sync) depth 30 fits 4000, (search (sendable, crosses, held-send) depth 30 fits 4000, tt))

pub forwarder-send : IsSend Forwarder.the_row
forwarder-send =
    view_send _ _ _ _ _ (declared_send forwarder.the_type (
      search (sendable, crosses, held-send) depth 30 fits 4000,
      (
        search (sendable, crosses, configuration.the_send) depth 20,
        (
          search sendable,
          (
            search (sendable, crosses, marks.the_send) depth 20,
            (
              search (sendable, crosses) depth 30 fits 4000,
              (search (sendable, crosses, update.the_send) depth 20, (search sendable, (search (sendable, crosses, telemetry.the_send) depth 20, tt))),
            ),
          ),
        ),
      ),
    ))
