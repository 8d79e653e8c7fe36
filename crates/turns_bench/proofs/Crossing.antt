-- What a thread is to do and what came of it may go to another thread.
use denote.Param.Send.{IsSend, sendable}
use denote.Param.SendFields.{declared_send}
use Rattle.std.proofs.Crossing.{crosses}
use Rattle.shared_turns.proofs.pass.TurnPass.TheSendSync as passes
use Rattle.shared_recorder.proofs.Crossing.{kept-send}
use Rattle.turns_bench.specs.contracts.turns.Turning as Turning
use Rattle.turns_bench.specs.contracts.turns.Turned as Turned

pub job-send : IsSend Turning.the_row
job-send =
    declared_send Turning.the_type
    (search (sendable, crosses) depth 20, (search (sendable, crosses, passes.the_send, kept-send) depth 20, (search (sendable, crosses) depth 30 fits 4000, tt)))

pub answer-send : IsSend Turned.the_row
answer-send = declared_send Turned.the_type (search (sendable, crosses, passes.the_send, kept-send) depth 20, (search (sendable, crosses) depth 30 fits 4000, tt))
