use Rattle.drive_script.specs.Script as text
use Rattle.drive_script.specs.Script.{IsLine}
use Rattle.drive_script.specs.Texts.{call_line_of, header_of, setup_of}
use Rattle.drive_script.proofs.Steps.{step_taken}
use Rattle.drive_script.proofs.progress.ScriptSoFar.take.Goals as goal

pub returns-in-Header : goal.returns-in-Header
returns-in-Header c = λ lines line h is_line.
    let says : text.ScriptLine = text.Header (header_of c.in-Header.line) in
    step_taken lines line c.args.self.now _ says c.add_header.result h (rw c.in-Header.is at is_line) (c.add_header.ensures.next h.script.said h.known)

pub returns-in-Round : goal.returns-in-Round
returns-in-Round c = λ lines line h is_line.
    let says : text.ScriptLine = text.Round c.in-Round.moment in
    step_taken lines line c.args.self.now _ says c.begin_round.result h (rw c.in-Round.is at is_line) (c.begin_round.ensures.next h.script.said h.known h.valid.moments)

pub returns-in-Setup : goal.returns-in-Setup
returns-in-Setup c = λ lines line h is_line.
    let says : text.ScriptLine = text.Setup (setup_of c.in-Setup.setup) in
    step_taken lines line c.args.self.now _ says c.set_up.result h (rw c.in-Setup.is at is_line) (c.set_up.ensures.next h.script.said h.known h.valid.registrations)

pub returns-in-Call : goal.returns-in-Call
returns-in-Call c = λ lines line h is_line.
    let says : text.ScriptLine = text.CallOf (call_line_of c.in-Call.call) in
    step_taken lines line c.args.self.now _ says c.call.result h (rw c.in-Call.is at is_line) (c.call.ensures.next h.script.said h.known)
