use Rattle.std.proofs.Common.{◌≡◌, ◌∙◌, Some, drop, sym, ap, rules}
use Rattle.std.specs.Prelude.{codes}
use Rattle.drive_script.specs.Reading.{behind, run_length}
use Rattle.drive_script.proofs.Loops.{text_behind_run, text_of_run}
use Rattle.drive_script.proofs.TextFields.{text_of_utf8, text_of_other}
use Rattle.drive_script.proofs.cursor.Cursor.text.Goals as goal

pub returns-then-is_none-2 : goal.returns-then-is_none-2
returns-then-is_none-2 c =
    let start = c.args.self.now.rest.now in
    let quoted = c.literal.new.self.rest.now in
    let opened : behind (codes "\"") start ≡ Some quoted = search rules in
    let back : c.literal-2.new.self.rest.now ≡ drop (run_length quoted) quoted = search rules in
    rw (text_behind_run start quoted c.run-run.result.now c.literal-2.new.self.rest.now opened c.run-run.ensures.run back) c.escaped_text.ensures

pub returns-in-Ok : goal.returns-in-Ok
returns-in-Ok c =
    let start = c.args.self.now.rest.now in
    let quoted = c.literal.new.self.rest.now in
    let run = c.run-run.result.now in
    let rest = c.run-run.new.self.rest.now in
    let left = c.literal-2.new.self.rest.now in
    let opened : behind (codes "\"") start ≡ Some quoted = search rules in
    let closed : behind (codes "\"") rest ≡ Some left = search rules in
    let utf8 = c.in-Ok.ensures.cases in
    text_of_run start quoted run rest opened c.run-run.ensures.run c.run-run.ensures.rest left closed ∙ text_of_utf8 run left utf8.1 ∙ ap (λ text. Some (text, left)) (sym utf8.0)

pub returns-in-Err : goal.returns-in-Err
returns-in-Err c =
    let start = c.args.self.now.rest.now in
    let quoted = c.literal.new.self.rest.now in
    let run = c.run-run.result.now in
    let rest = c.run-run.new.self.rest.now in
    let left = c.literal-2.new.self.rest.now in
    let opened : behind (codes "\"") start ≡ Some quoted = search rules in
    let closed : behind (codes "\"") rest ≡ Some left = search rules in
    text_of_run start quoted run rest opened c.run-run.ensures.run c.run-run.ensures.rest left closed ∙ text_of_other run left c.in-Err.ensures.cases.0
