use Rattle.std.proofs.lemmas.List.{take_rest}
use Rattle.drive_script.proofs.Pieces.{lines_cut_at}
use Rattle.drive_script.proofs.beside.first_piece.Goals as goal

pub returns-in-Some-clause-lines : goal.returns-in-Some-clause-lines
returns-in-Some-clause-lines c = rw take_rest (lines_cut_at c.args.bytes.now c.in-Some.end c.in-Some.ensures)
