use Rattle.std.proofs.Common.{ap, sym, ◌∙◌}
use Rattle.std.proofs.lemmas.Result.{on_ok_weaker}
use Rattle.drive_script.specs.Texts.{setup_of}
use Rattle.script_player.specs.Play.{setup_step}
use Rattle.script_player.specs.Player.{rows_state}
use Rattle.script_player.proofs.set_up.set_up_row.Goals as goal

pub returns-in-Describe-clause-stepped : goal.returns-in-Describe-clause-stepped
returns-in-Describe-clause-stepped g c =
    let before = rows_state c.args.pages.now c.args.handles.now.items in
    on_ok_weaker c.describe.result (λ stepped. stepped c.args.handles.now.items ∙ ap (λ line. setup_step before (setup_of line)) (sym c.in-Describe.is)) c.describe.ensures.stepped
