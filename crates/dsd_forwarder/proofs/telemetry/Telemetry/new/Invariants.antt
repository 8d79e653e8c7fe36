use Rattle.dsd_forwarder.specs.Telemetry.{Registers}
use Rattle.dsd_forwarder.proofs.Registered.{Registered}
use Rattle.dsd_forwarder.proofs.telemetry.Telemetry.new.Given as goal

abbrev pub invariant-loop-counter : goal.invariant-loop-counter
invariant-loop-counter l = Registered (Registers l.transport) l.counter-index l.initial.state l.counts.items l.state
