use Rattle.std.proofs.Common.{◌≡◌, ◌<◌, ◌≤◌, length, get_or, rules}
use Rattle.drive_script.specs.Script.{kind_of}
use Rattle.drive_script.specs.Texts.{act_of, script_so_far}
use Rattle.drive_script.specs.Valid.{registered}
use Rattle.drive_script.proofs.Steps.{handle_decides, no_handle}
use Rattle.drive_script.proofs.progress.ScriptSoFar.has_handle.Goals as goal

pub returns-in-Some : goal.returns-in-Some
returns-in-Some c = λ said known.
    let kinds = c.args.self.now.kinds.items in
    let within : c.args.call.now.handle < length kinds = rw c.deref.ensures.value at c.in-Some.ensures.lookup.3.0 in
    let here : c.in-Some.kind.now ≡ get_or kinds c.args.call.now.handle c.in-Some.kind.now = rw c.deref.ensures.value at c.in-Some.ensures.lookup.1 in
    handle_decides (registered (script_so_far c.args.self.now)) kinds c.args.call.now.handle c.in-Some.kind.now (kind_of (act_of c.args.call.now.act)) c.eq.result known.kinds within here (λ is. search rules) (λ is. search rules)

pub returns-in-None : goal.returns-in-None
returns-in-None c = λ said known.
    let kinds = c.args.self.now.kinds.items in
    let past : length kinds ≤ c.args.call.now.handle = rw c.deref.ensures.value at c.in-None.ensures.lookup.3 in
    (λ is. absurd cc, λ h. absurd (no_handle (registered (script_so_far c.args.self.now)) kinds c.args.call.now.handle (kind_of (act_of c.args.call.now.act)) known.kinds past h))
