use Rattle.std.proofs.lemmas.Result.{IfOk-weaker}
use Rattle.cell_lanes.specs.Lanes.{all_calls_on}
use Rattle.sample_queue.proofs.Pushed.{given_out}
use Rattle.sample_queue.proofs.rounds.run_queues.Goals as goal

pub returns-clause-given : goal.returns-clause-given
returns-clause-given g c =
    IfOk-weaker c.run_and_read.result _ _
    (λ answer reads s e. given_out (all_calls_on c.args.index c.args.lanes.now) s.root answer (reads s e))
    c.run_and_read.ensures.read
