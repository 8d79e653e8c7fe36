use Rattle.script_player.proofs.RestingSteps.{said_rests}
use Rattle.script_player.proofs.set_up.describe.Goals as goal

pub returns-in-Counter-clause-rest : goal.returns-in-Counter-clause-rest
returns-in-Counter-clause-rest g c = said_rests _ _ c.describe_counter.ensures.others

pub returns-in-Gauge-clause-rest : goal.returns-in-Gauge-clause-rest
returns-in-Gauge-clause-rest g c = said_rests _ _ c.describe_gauge.ensures.others

pub returns-in-Histogram-clause-rest : goal.returns-in-Histogram-clause-rest
returns-in-Histogram-clause-rest g c = said_rests _ _ c.describe_histogram.ensures.others
