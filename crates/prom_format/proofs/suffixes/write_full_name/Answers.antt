use Rattle.std.proofs.Common.{arith}
use Rattle.prom_format.proofs.Kept.{IsCharBoundary-kept}
use Rattle.prom_format.proofs.suffixes.write_full_name.Goals as goal

pub undo_refused-requires : goal.undo_refused-requires
undo_refused-requires c = IsCharBoundary-kept c.args.buffer.now c.push_full_name-outcome.new.buffer _ (omega arith) c.push_full_name-outcome.ensures.kept
