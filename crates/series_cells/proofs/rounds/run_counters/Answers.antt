use Rattle.std.proofs.Common.{ℕ, List, subst}
use Rattle.std.proofs.lemmas.Result.{IfOk-weaker}
use Rattle.cell_lanes.specs.Things.{root_of}
use Rattle.cell_lanes.specs.Lanes.{Finished, all_calls_on}
use Rattle.cell_lanes.proofs.Played.{later_none}
use Rattle.metrics_core.specs.declared.calls.SeriesCall.{SeriesCall}
use Rattle.series_cells.specs.Series.{StandsAsCounter, as_counter, counted}
use Rattle.series_cells.proofs.Played.{value_after}
use Rattle.series_cells.proofs.rounds.run_counters.Goals as goal

pub returns-clause-finished : goal.returns-clause-finished
returns-clause-finished g c =
    IfOk-weaker c.run_and_read.result _ _
    (λ _ finished. subst (λ (later : ℕ → List SeriesCall). Finished root_of StandsAsCounter c.args.lanes.now later c.args.counters.now.items c.run_and_read.new.cells.items) (later_none c.args.index) finished)
    c.run_and_read.ensures.finished

pub returns-clause-value : goal.returns-clause-value
returns-clause-value g c =
    IfOk-weaker c.run_and_read.result _ _
    (λ value reads s e. value_after as_counter counted (all_calls_on c.args.index c.args.lanes.now) s.root value (reads s e))
    c.run_and_read.ensures.read
