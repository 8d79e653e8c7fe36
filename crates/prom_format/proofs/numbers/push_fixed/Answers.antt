use Rattle.std.proofs.Common.{arith}
use Rattle.prom_format.proofs.Kept.{IsCharBoundary-kept}
use Rattle.prom_format.proofs.numbers.push_fixed.Goals as goal

pub undo_refused-requires : goal.undo_refused-requires
undo_refused-requires c = IsCharBoundary-kept c.args.buffer.now c.push_parts-outcome.new.buffer _ (omega arith) c.push_parts-outcome.ensures.kept
