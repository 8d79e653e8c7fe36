use Rattle.std.proofs.Common.{subst}
use Rattle.std.specs.Prelude.{IfOk, IfErr}
use Rattle.dsd_writer.specs.Left.{payloads_left}
use Rattle.prom_exporter.specs.Exporter.{state_of}
use Rattle.flush_delivery.specs.Delivering.{IsAppliedOver, IsStoppedOver}
use Rattle.flush_delivery.proofs.Applying.{plain_left}
use Rattle.flush_delivery.proofs.delivery.apply_written.Goals as goal

pub returns-clause-applied : goal.returns-clause-applied
returns-clause-applied g c =
    subst (λ l. IfOk c.apply_payloads.result (λ applied. IsAppliedOver c.args.moment l (state_of c.args.to.now) applied (state_of c.apply_payloads.new.to)))
    (plain_left c.args.writer.now (payloads_left c.payloads.result) c.requires.plain c.payloads.ensures.payloads) c.apply_payloads.ensures.applied

pub returns-clause-refused : goal.returns-clause-refused
returns-clause-refused g c =
    subst (λ l. IfErr c.apply_payloads.result (λ fault. IsStoppedOver c.args.moment l (state_of c.args.to.now) fault (state_of c.apply_payloads.new.to)))
    (plain_left c.args.writer.now (payloads_left c.payloads.result) c.requires.plain c.payloads.ensures.payloads) c.apply_payloads.ensures.refused
