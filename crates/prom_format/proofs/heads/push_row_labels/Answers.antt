use Rattle.std.proofs.Common.{arith}
use Rattle.prom_format.proofs.Kept.{IsCharBoundary-kept}
use Rattle.prom_format.proofs.heads.push_row_labels.Goals as goal

pub undo_refused-requires : goal.undo_refused-requires
undo_refused-requires c = IsCharBoundary-kept c.args.buffer.now c.push_label_set-outcome.new.buffer _ (omega arith) c.push_label_set-outcome.ensures.kept
