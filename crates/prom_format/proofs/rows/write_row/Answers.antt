use Rattle.std.proofs.Common.{arith}
use Rattle.prom_format.proofs.Kept.{IsCharBoundary-kept}
use Rattle.prom_format.proofs.rows.write_row.Goals as goal

pub undo_refused-requires : goal.undo_refused-requires
undo_refused-requires c = IsCharBoundary-kept c.args.buffer.now c.push_row-outcome.new.buffer _ (omega arith) c.push_row-outcome.ensures.kept
