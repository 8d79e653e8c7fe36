use denote.Param.Send.{IsSend, sendable}
use denote.Param.SendFields.{declared_send}
use Rattle.std.proofs.Crossing.{crosses}
use Rattle.shared_turns.proofs.pass.TurnPass.TheSendSync as passes
use Rattle.dsd_exporter.proofs.Crossing.{state-send}
use Rattle.dsd_forwarder.proofs.Crossing.{recorder-sync}
use Rattle.forwarder_tests.specs.contracts.beside.Count as Count
use Rattle.forwarder_tests.specs.contracts.beside.Counted as Counted
use Rattle.forwarder_tests.proofs.beside.count_beside.Goals as goal

count-send : IsSend Count.the_row
count-send =
    declared_send Count.the_type
    (search (sendable, crosses) depth 20, (search (sendable, crosses, passes.the_send, state-send) depth 30 fits 4000, (search (sendable, crosses) depth 30 fits 4000, tt)))

counted-send : IsSend Counted.the_row
counted-send = declared_send Counted.the_type (search (sendable, crosses, passes.the_send, state-send) depth 30 fits 4000, (search (sendable, crosses) depth 20, tt))

pub both_beside-one-requires-send-J : goal.both_beside-one-requires-send-J
both_beside-one-requires-send-J g c κs within = search (sendable, count-send) depth 10

pub both_beside-one-requires-send-J-Answer : goal.both_beside-one-requires-send-J-Answer
both_beside-one-requires-send-J-Answer g c κs within = search (sendable, counted-send) depth 10

pub both_beside-one-requires-sync-J-Shared : goal.both_beside-one-requires-sync-J-Shared
both_beside-one-requires-sync-J-Shared g c κs within = search (sendable, recorder-sync) depth 10
