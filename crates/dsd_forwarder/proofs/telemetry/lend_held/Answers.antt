use Rattle.std.proofs.Common.{subst}
use Rattle.dsd_exporter.specs.Lending.{LendsCounter}
use Rattle.dsd_forwarder.proofs.Given.{held_given}
use Rattle.dsd_forwarder.proofs.telemetry.lend_held.Goals as goal

pub returns-in-Some-clause-held : goal.returns-in-Some-clause-held
returns-in-Some-clause-held c =
    held_given c.args.id c.in-Some.lent c.new.result c.args.state.now c.lend_counter.new.self
    (subst (λ l. LendsCounter c.args.id l c.args.state.now c.lend_counter.new.self) c.in-Some.is c.in_ok-lent.ensures.lent) c.new.ensures
