use Rattle.std.proofs.Common.{map, take}
use Rattle.dsd_receiver.specs.Passes.{IsGaugeHeld, MakesCalls}
use Rattle.dsd_receiver.proofs.calls.change_each.Given as goal

abbrev pub invariant-loop-change : goal.invariant-loop-change
invariant-loop-change g l = record {
  held : IsGaugeHeld l.gauge l.pass;
  calls : MakesCalls l.initial.pass (map g.C.GaugeChange.call (take l.change-index l.changes)) l.pass;
}
