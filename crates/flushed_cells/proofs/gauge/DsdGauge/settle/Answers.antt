use Rattle.std.proofs.Common.{List, subst, rules}
use Rattle.legal_history.specs.declared.history.Entry.{Entry}
use Rattle.legal_history.specs.History.{calls}
use Rattle.legal_history.specs.Object.{Runs}
use Rattle.flushed_cells.specs.declared.gauge_calls.GaugeCall.{GaugeCall}
use Rattle.flushed_cells.specs.Gauges.{GaugeStep, gauge_start}
use Rattle.flushed_cells.specs.Passes.{view_of}
use Rattle.flushed_cells.proofs.Sitting.{tells_seated}
use Rattle.flushed_cells.proofs.gauge.DsdGauge.settle.Goals as goal

pub load_as-requires : goal.load_as-requires
load_as-requires g c = (search rules, (search rules, (c.requires.pass, λ x seats k at. tells_seated GaugeStep gauge_start x seats c.args.pass.now.seat.id (view_of c.args.pass.now) c.args.pass.now.live k at)))

pub returns-clause-settled : goal.returns-clause-settled
returns-clause-settled g c = (c.load_as.ensures.rule.1.1.whole c.requires.root.0 c.requires.root.1).1

pub returns-clause-state : goal.returns-clause-state
returns-clause-state g c =
    let told = c.load_as.ensures.rule.1 in
    (c.load_as.result, subst (λ (log : List (Entry GaugeCall)). Runs GaugeStep gauge_start (calls log) c.load_as.result) (told.1.whole c.requires.root.0 c.requires.root.1).0 told.2)
