use Rattle.std.proofs.Common.{sym, subst, ◌∙◌}
use Rattle.std.proofs.Common.{flat_map}
use Rattle.dsd_lines.specs.Payloads.{payload_lines}
use Rattle.dsd_writer.specs.Left.{payloads_left}
use Rattle.prom_exporter.specs.Exporter.{state_of}
use Rattle.flush_delivery.specs.Delivering.{IsStoppedOver}
use Rattle.flush_delivery.proofs.Applying.{applied_next, applied_stops}
use Rattle.flush_delivery.proofs.delivery.apply_payloads.Goals as goal

pub loop-payload-preserved : goal.loop-payload-preserved
loop-payload-preserved g c = record {
  so_far = applied_next c.args.moment (payloads_left c.args.payloads) (payloads_left c.loop-payload.payloads) (state_of c.args.to.now) (state_of c.loop-payload.to) (state_of c.apply_payload.new.self)
      c.loop-payload.applied c.loop-payload.invariant.so_far c.in-Some.payload.now (payloads_left c.next_payload.new.self) c.in-Some.ensures.next
      c.in-Ok.more c.both-applied.result c.in-Ok.ensures.applied c.both-applied.ensures.lines c.both-applied.ensures.bad;
  settings = c.apply_payload.ensures.settings ∙ c.loop-payload.invariant.settings;
}

pub returns-in-Err-clause-refused : goal.returns-in-Err-clause-refused
returns-in-Err-clause-refused g c =
    subst (λ fault. IsStoppedOver c.args.moment (flat_map payload_lines (payloads_left c.args.payloads)) (state_of c.args.to.now) fault (state_of c.apply_payload.new.self)) (sym c.behind.ensures)
    (applied_stops c.args.moment (payloads_left c.args.payloads) (payloads_left c.loop-payload.payloads) (state_of c.args.to.now) (state_of c.loop-payload.to) (state_of c.apply_payload.new.self)
    c.loop-payload.applied c.loop-payload.invariant.so_far c.in-Some.payload.now (payloads_left c.next_payload.new.self) c.in-Some.ensures.next c.in-Err.fault c.in-Err.ensures.refused)
