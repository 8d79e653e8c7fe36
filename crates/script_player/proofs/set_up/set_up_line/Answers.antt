use Rattle.std.proofs.Common.{ap, sym, ◌∙◌}
use Rattle.std.proofs.lemmas.Result.{on_ok_weaker}
use Rattle.drive_script.specs.Texts.{setup_of}
use Rattle.script_player.specs.Flushes.{register_step}
use Rattle.script_player.specs.Player.{lines_state}
use Rattle.script_player.proofs.set_up.set_up_line.Goals as goal

pub returns-clause-registered : goal.returns-clause-registered
returns-clause-registered c =
    on_ok_weaker c.register_line.result (λ registered marks. registered marks
    ∙ ap (λ line. register_step (lines_state marks c.args.lines.now c.args.handles.now.items) (setup_of line)) (sym c.in-Register.is))
    c.register_line.ensures.registered
