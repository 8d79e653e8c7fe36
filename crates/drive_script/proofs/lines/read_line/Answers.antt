use Rattle.std.proofs.Common.{◌≡◌, Some, None, sym, rules}
use Rattle.drive_script.specs.Reading.{call_at, round_at, register_at, describe_at}
use Rattle.drive_script.specs.Texts.{call_line_of, setup_of}
use Rattle.drive_script.proofs.Forms.{call_takes, round_takes, register_takes, describe_takes, no_reading}
use Rattle.drive_script.proofs.lines.read_line.Goals as goal

pub returns-in-Some : goal.returns-in-Some
returns-in-Some c = call_takes c.args.line.now (call_line_of c.in-Some.call) (sym c.in-Some.ensures)

pub returns-in-Some-round_line : goal.returns-in-Some-round_line
returns-in-Some-round_line c = round_takes c.args.line.now c.in-Some-round_line.moment (sym c.in-Some-round_line.ensures)

pub returns-in-Some-2 : goal.returns-in-Some-2
returns-in-Some-2 c =
    let read : register_at c.args.line.now ≡ Some (c.in-Some-2.kind, (c.in-Some-2.key.name, c.in-Some-2.key.labels)) = search rules in
    register_takes c.args.line.now c.in-Some-2.kind c.in-Some-2.key read

pub returns-in-Some-3 : goal.returns-in-Some-3
returns-in-Some-3 c =
    let read : describe_at c.args.line.now ≡ Some (setup_of c.in-Some-3.description) = search rules in
    describe_takes c.args.line.now (setup_of c.in-Some-3.description) read

pub returns-in-None : goal.returns-in-None
returns-in-None c =
    let no_call : call_at c.args.line.now ≡ None = search rules in
    let no_round : round_at c.args.line.now ≡ None = search rules in
    let no_register : register_at c.args.line.now ≡ None = search rules in
    let no_description : describe_at c.args.line.now ≡ None = search rules in
    no_reading c.args.line.now no_call no_round no_register no_description (rw c.in-None.is at c.in_ok-header.ensures)
