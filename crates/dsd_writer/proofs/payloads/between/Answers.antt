use Rattle.dsd_writer.proofs.Pieces.{part_is}
use Rattle.dsd_writer.proofs.payloads.between.Goals as goal

pub returns : goal.returns
returns c = part_is c.args.bytes.now c.args.start c.args.end c.min.result c.min-end.result c.min-end.ensures c.min.ensures
