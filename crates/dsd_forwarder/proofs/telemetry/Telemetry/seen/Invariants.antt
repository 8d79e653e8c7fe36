use Rattle.std.proofs.Common.{◌≡◌}
use Rattle.shared_turns.specs.Passes.{view_of}
use Rattle.dsd_forwarder.specs.Telemetry.{RegistersSeen}
use Rattle.dsd_forwarder.proofs.Registered.{Registered}
use Rattle.dsd_forwarder.proofs.telemetry.Telemetry.seen.Given as goal

abbrev pub invariant-loop-counter : goal.invariant-loop-counter
invariant-loop-counter g l = record {
  registered : Registered (RegistersSeen l.transport) l.counter-index (view_of l.initial.own.pass) l.counts.items (view_of l.own.pass);
  state : l.own.state ≡ l.initial.own.state;
  number : (view_of l.own.pass).number ≡ (view_of l.initial.own.pass).number;
}
