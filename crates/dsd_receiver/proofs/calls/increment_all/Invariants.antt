use Rattle.std.proofs.Common.{take}
use Rattle.dsd_receiver.specs.Received.{increments}
use Rattle.dsd_receiver.specs.Passes.{IsCounterHeld, MakesCalls}
use Rattle.dsd_receiver.proofs.calls.increment_all.Given as goal

abbrev pub invariant-loop-count : goal.invariant-loop-count
invariant-loop-count l = record {
  held : IsCounterHeld l.counter l.pass;
  calls : MakesCalls l.initial.pass (increments l.rate (take l.count-index l.counts)) l.pass;
}
