use Rattle.std.proofs.Common.{◌≤◌, drop, flat_map}
use Rattle.metrics_core.specs.Outside.{GrewUpTo}
use Rattle.program_words.proofs.say.say.Given as goal

abbrev pub invariant-loop-piece : goal.invariant-loop-piece
invariant-loop-piece g l = record {
  never_falls : g.E.Sink.faults l.initial.err ≤ g.E.Sink.faults l.err;
  grew : GrewUpTo (g.E.Sink.written l.initial.err) (g.E.Sink.written l.err) (flat_map (λ piece. piece.now) l.pieces) (flat_map (λ piece. piece.now) (drop l.piece-index l.pieces));
}
