use Rattle.std.proofs.Common.{◌≤◌, take, vec_len}
use Rattle.program_words.specs.Reading.{HasRoom}
use Rattle.program_words.proofs.ReadingSteps.{ReadSoFar}
use Rattle.program_words.proofs.reading.read_all.Given as goal

abbrev pub invariant-loop : goal.invariant-loop
invariant-loop g l = record {
  room : HasRoom l.filled (vec_len l.bytes);
  turns : l.counter ≤ l.filled;
  never_falls : g.S.Source.faults l.initial.source ≤ g.S.Source.faults l.source;
  so_far : ReadSoFar (g.S.Source.left l.initial.source) (g.S.Source.left l.source) (take l.filled l.bytes.items);
}
