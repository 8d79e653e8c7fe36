use Rattle.std.proofs.Common.{◌≡◌, length}
use Rattle.dsd_writer.specs.Left.{payloads_left}
use Rattle.prom_exporter.specs.Exporter.{state_of}
use Rattle.flush_delivery.proofs.Applying.{AppliedSoFar}
use Rattle.flush_delivery.proofs.delivery.apply_payloads.Given as goal

-- the first payloads were applied
abbrev pub invariant-loop-payload : goal.invariant-loop-payload
invariant-loop-payload g l = record {
  so_far : AppliedSoFar l.moment (payloads_left l.fn.payloads) (payloads_left l.payloads) (state_of l.initial.to) l.applied (state_of l.to);
  settings : l.to.settings ≡ l.initial.to.settings;
}

abbrev pub decreases-loop-payload : goal.decreases-loop-payload
decreases-loop-payload g l = length (payloads_left l.payloads)
