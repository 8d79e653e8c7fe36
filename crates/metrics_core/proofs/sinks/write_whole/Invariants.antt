use Rattle.std.proofs.Common.{◌≤◌, length}
use Rattle.std.specs.Prelude.{IfSome}
use Rattle.metrics_core.specs.Outside.{WrittenUpTo}
use Rattle.metrics_core.proofs.sinks.write_whole.Given as goal

abbrev pub invariant-loop-rest : goal.invariant-loop-rest
invariant-loop-rest g l = record {
  grew : IfSome (g.K.Sink.written l.initial.sink) (λ before. WrittenUpTo before (g.K.Sink.written l.sink) l.piece l.rest);
  never_falls : g.K.Sink.faults l.initial.sink ≤ g.K.Sink.faults l.sink;
}

abbrev pub decreases-loop-rest : goal.decreases-loop-rest
decreases-loop-rest g l = length l.rest
