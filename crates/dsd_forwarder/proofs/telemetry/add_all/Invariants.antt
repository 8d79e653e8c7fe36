use Rattle.dsd_forwarder.proofs.Added.{SoFar}
use Rattle.dsd_forwarder.proofs.telemetry.add_all.Given as goal

abbrev pub invariant-loop-count : goal.invariant-loop-count
invariant-loop-count g l = SoFar l.update l.count-index l.initial.counts l.counts
