use Rattle.std.proofs.Common.{◌≡◌, ◌∙◌, Some, ap, rules}
use Rattle.drive_script.specs.Reading.{◌>>=◌, and_then, characters_at, text_of}
use Rattle.drive_script.proofs.TextFields.{text_given, text_refused}
use Rattle.drive_script.proofs.cursor.Cursor.escaped_text.Goals as goal

pub returns-in-Ok : goal.returns-in-Ok
returns-in-Ok c =
    let rest = c.characters.new.self.rest.now in
    let read : and_then c.args.run.now (characters_at c.args.self.now.rest.now) ≡ Some (c.in-Some.text.items, rest) = search rules in
    ap (λ o. o >>= text_of) read ∙ text_given c.in-Some.text rest c.in-Ok.text c.in-Ok.ensures.ok

pub returns : goal.returns
returns c =
    let rest = c.characters.new.self.rest.now in
    let read : and_then c.args.run.now (characters_at c.args.self.now.rest.now) ≡ Some (c.in-Some.text.items, rest) = search rules in
    ap (λ o. o >>= text_of) read ∙ text_refused c.in-Some.text rest c.in-Err.field-0 c.in-Err.ensures.succeeds
