use Rattle.dsd_receiver.proofs.Loops.{gauge_stands}
use Rattle.dsd_receiver.proofs.gauge_changes.FixedGaugeChange.make.Goals as goal

pub returns-clause-held : goal.returns-clause-held
returns-clause-held c = (gauge_stands c.args.gauge.now c.args.pass.now c.set-set.new.pass _ c.requires.held c.set-set.ensures.1).0
