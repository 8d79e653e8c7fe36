use Rattle.std.proofs.lemmas.Result.{err_from_is_err_and}
use Rattle.prom_exporter.proofs.Stepping.{steps_made}
use Rattle.prom_exporter.proofs.state.PrometheusState.step.Goals as goal

pub returns-in_err-run_upkeep-clause-refused : goal.returns-in_err-run_upkeep-clause-refused
returns-in_err-run_upkeep-clause-refused g c =
    let refusal = err_from_is_err_and c.from_residual.result c.from_residual.ensures.1 in
    rw refusal.1 c.in_err-run_upkeep.ensures.refused

pub returns-clause-steps : goal.returns-clause-steps
returns-clause-steps g c =
    let counted = c.step_counters.ensures in
    let gauged = c.step_gauges.ensures in
    let sampled = c.step_histograms.ensures in
    steps_made c.args.moment c.args.self.now c.run_upkeep.new.self c.step_counters.new.self c.step_gauges.new.self c.step_histograms.new.self
    c.in_ok-run_upkeep.ensures.kept_up counted.noted counted.others gauged.noted gauged.others sampled.counted sampled.others
