use Rattle.std.proofs.Common.{◌+◌, ◌<◌, ◌∷◌, ◌∙◌, ap, take, drop, length, Some, None, arith}
use Rattle.std.specs.List.{position_or_len}
use Rattle.std.proofs.lemmas.List.{take_rest}
use Rattle.drive_script.specs.Script.{lines_of}
use Rattle.drive_script.proofs.Pieces.{ends_line, first_end, line_ended, line_unended}
use Rattle.drive_script.proofs.reader.split_line.Goals as goal

pub returns-in-Some-clause-lines : goal.returns-in-Some-clause-lines
returns-in-Some-clause-lines c =
    let bytes = c.args.bytes.now in
    let ended = first_end bytes (Some c.in-Some.end) c.in-Some.ensures in
    let found : position_or_len ends_line bytes < length bytes = omega (arith, ended.0, ended.1) in
    rw take_rest (line_ended bytes found ∙ ap (λ n. take n bytes ∷ lines_of (drop (n + 1) bytes)) ended.0)

pub returns-in-None-clause-lines : goal.returns-in-None-clause-lines
returns-in-None-clause-lines c = line_unended c.args.bytes.now c.requires (first_end c.args.bytes.now None c.in-None.ensures)
