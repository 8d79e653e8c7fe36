use Rattle.std.proofs.Common.{take}
use Rattle.dsd_lines.specs.Texts.{numbers_of}
use Rattle.dsd_receiver.specs.Received.{records}
use Rattle.dsd_receiver.specs.Passes.{IsHistogramHeld, MakesRecords}
use Rattle.dsd_receiver.proofs.calls.record_each.Given as goal

abbrev pub invariant-loop-place : goal.invariant-loop-place
invariant-loop-place g l = record {
  held : IsHistogramHeld l.histogram l.pass;
  calls : MakesRecords l.initial.pass (records l.moment l.times (numbers_of (take l.place l.values))) l.pass;
}
