-- A registration and what came of it may go to another thread.
use denote.Param.Send.{IsSend, sendable}
use denote.Param.SendFields.{declared_send}
use Rattle.std.proofs.Crossing.{crosses}
use Rattle.shared_turns.proofs.pass.TurnPass.TheSendSync as passes
use Rattle.shared_recorder.proofs.Crossing.{kept-send}
use Rattle.shared_beside.specs.contracts.registration.KeyRegistration as Registration
use Rattle.shared_beside.specs.contracts.registration.Registered as Registered

pub registration-send : IsSend Registration.the_row
registration-send =
    declared_send Registration.the_type
    (search (sendable, crosses) depth 20, (search (sendable, crosses, passes.the_send, kept-send) depth 20, (search (sendable, crosses) depth 20, (search (sendable, crosses) depth 30 fits 4000, tt))))

pub registered-send : IsSend Registered.the_row
registered-send = declared_send Registered.the_type (search (sendable, crosses, passes.the_send, kept-send) depth 20, (search (sendable, crosses) depth 30 fits 4000, tt))
