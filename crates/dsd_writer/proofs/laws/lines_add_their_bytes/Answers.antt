use Rattle.dsd_writer.proofs.Spare.{added_at_least, added_at_most}
use Rattle.dsd_writer.proofs.laws.lines_add_their_bytes.Goals as goal

pub returns-clause-least : goal.returns-clause-least
returns-clause-least c = λ writer lines. added_at_least writer.on_stream writer.limit writer.lines lines

pub returns-clause-most : goal.returns-clause-most
returns-clause-most c = λ writer lines. added_at_most writer.on_stream writer.limit writer.lines lines
