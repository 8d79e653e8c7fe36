use Rattle.std.proofs.Common.{◌≡◌, drop}
use Rattle.std.proofs.lemmas.List.{take_rest}
use Rattle.drive_script.proofs.Pieces.{newline_at}
use Rattle.drive_script.proofs.beside.end_of_piece.Goals as goal

pub returns : goal.returns
returns c =
    let behind : c.in_ok-behind.behind.now ≡ drop c.args.least c.args.bytes.now = rw take_rest at c.in_ok-behind.ensures.lookup.0.2 in
    newline_at c.args.bytes.now c.in_ok-behind.behind.now c.args.least c.in_ok-end.end behind c.in_ok-end.ensures
