use denote.Param.Send.{sendable}
use Rattle.prom_recorder.proofs.Crossing.{recorder-sync}
use Rattle.shared_beside.specs.Beside.{IsLent}
use Rattle.thread_jobs.proofs.Pairs.{in_each}
use Rattle.turns_bench.specs.declared.turns.Turned.{Turned}
use Rattle.turns_bench.proofs.Crossing.{job-send, answer-send}
use Rattle.turns_bench.proofs.turns.run_on.Goals as goal

pub all_beside-requires-send-J : goal.all_beside-requires-send-J
all_beside-requires-send-J g c κs within = search (sendable, job-send) depth 10

pub all_beside-requires-send-J-Answer : goal.all_beside-requires-send-J-Answer
all_beside-requires-send-J-Answer g c κs within = search (sendable, answer-send) depth 10

pub all_beside-requires-sync-J-Shared : goal.all_beside-requires-sync-J-Shared
all_beside-requires-sync-J-Shared g c κs within = search (sendable, recorder-sync) depth 10

pub take_all-requires-clause-lent : goal.take_all-requires-clause-lent
take_all-requires-clause-lent g c = in_each (λ (one : Turned). IsLent c.args.recorder.now one.pass) c.in_ok-jobs.jobs.items c.in_ok-turned.turned.items c.in_ok-turned.ensures
