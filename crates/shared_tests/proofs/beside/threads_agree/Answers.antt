use denote.Param.Send.{IsSend, sendable}
use denote.Param.SendFields.{declared_send}
use Rattle.std.proofs.Crossing.{crosses}
use Rattle.shared_turns.proofs.pass.TurnPass.TheSendSync as passes
use Rattle.shared_recorder.proofs.Crossing.{kept-send, recorder-sync}
use Rattle.shared_beside.specs.Beside.{IsLent}
use Rattle.thread_jobs.proofs.Pairs.{in_each}
use Rattle.shared_tests.specs.declared.beside.Worked.{Worked}
use Rattle.shared_tests.specs.contracts.beside.Work as Work
use Rattle.shared_tests.specs.contracts.beside.Worked as Done
use Rattle.shared_tests.proofs.beside.threads_agree.Goals as goal

work-send : IsSend Work.the_row
work-send =
    declared_send Work.the_type
    (search (sendable, crosses) depth 20, (search (sendable, crosses, passes.the_send, kept-send) depth 20, (search (sendable, crosses) depth 30 fits 4000, tt)))

done-send : IsSend Done.the_row
done-send = declared_send Done.the_type (search (sendable, crosses, passes.the_send, kept-send) depth 20, (search (sendable, crosses) depth 30 fits 4000, tt))

pub all_beside-requires-send-J : goal.all_beside-requires-send-J
all_beside-requires-send-J g c κs within = search (sendable, work-send) depth 10

pub all_beside-requires-send-J-Answer : goal.all_beside-requires-send-J-Answer
all_beside-requires-send-J-Answer g c κs within = search (sendable, done-send) depth 10

pub all_beside-requires-sync-J-Shared : goal.all_beside-requires-sync-J-Shared
all_beside-requires-sync-J-Shared g c κs within = search (sendable, recorder-sync) depth 10

pub take_all-agree-requires-clause-lent : goal.take_all-agree-requires-clause-lent
take_all-agree-requires-clause-lent g c = in_each (λ (one : Worked). IsLent c.args.recorder.now one.pass) c.in_ok-jobs.jobs.items c.in_ok-answers.answers.items c.in_ok-answers.ensures
