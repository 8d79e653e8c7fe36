use Rattle.std.proofs.lemmas.Result.{IfOk-weaker}
use Rattle.cell_lanes.specs.Lanes.{all_calls_on}
use Rattle.flushed_cells.proofs.Flushes.{flushed_after}
use Rattle.flushed_cells.specs.Counters.{CounterStep, counter_start, counter_flush, answered}
use Rattle.flushed_cells.proofs.rounds.run_counters.Goals as goal

pub returns-clause-flushed : goal.returns-clause-flushed
returns-clause-flushed g c =
    IfOk-weaker c.run_and_read.result _ _
    (λ answer reads s e. flushed_after CounterStep counter_start answered counter_flush (all_calls_on c.args.index c.args.lanes.now) s.root answer (reads s e))
    c.run_and_read.ensures.read
