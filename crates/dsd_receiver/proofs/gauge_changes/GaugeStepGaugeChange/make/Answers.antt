use Rattle.dsd_receiver.proofs.Loops.{gauge_stands}
use Rattle.dsd_receiver.proofs.gauge_changes.GaugeStepGaugeChange.make.Goals as goal

pub returns-in-SetTo-clause-held : goal.returns-in-SetTo-clause-held
returns-in-SetTo-clause-held c = (gauge_stands c.args.gauge.now c.args.pass.now c.set-set.new.pass _ c.requires.held c.set-set.ensures.1).0

pub returns-in-MoveBy-clause-held : goal.returns-in-MoveBy-clause-held
returns-in-MoveBy-clause-held c = (gauge_stands c.args.gauge.now c.args.pass.now c.increment-moved.new.pass _ c.requires.held c.increment-moved.ensures.1).0
