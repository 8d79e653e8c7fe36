use Rattle.std.proofs.Common.{◌≡◌, List, ap, ◌∙◌, fold, map}
use Rattle.std.proofs.lemmas.Result.{on_ok_weaker}
use Rattle.dsd_exporter.specs.Exporter.{state_seen}
use Rattle.drive_script.specs.Texts.{setup_of}
use Rattle.drive_script.specs.declared.script.Setup.{Setup}
use Rattle.script_player.specs.Copies.{in_parts}
use Rattle.script_player.specs.Flushes.{FlushPlay, register_step}
use Rattle.script_player.specs.Play.{PlayState, setup_step}
use Rattle.script_player.specs.Player.{PlayerText, lines_state, rows_state}
use Rattle.script_player.proofs.Standing.{sends_nothing}
use Rattle.script_player.proofs.play.Player.set_up.Goals as goal

pub returns-clause-unsent : goal.returns-clause-unsent
returns-clause-unsent g c = sends_nothing c.args.self.now _ _ _ c.self.view_is

pub returns-clause-stepped : goal.returns-clause-stepped
returns-clause-stepped g c =
    let room : rows_state c.make_room.new.exporters.prometheus c.make_room.new.handles.items ≡ c.args.self.now.pages
    = (λ i. rows_state (c.in_ok-make_room.ensures.exporters.0 i) (c.in_ok-make_room.ensures.handles i)) ∙ ap (λ (p : PlayerText). p.pages) c.self.view_is in
    on_ok_weaker c.set_up_both.result (λ done. done ∙ ap (λ (p : PlayState). fold setup_step p (map setup_of c.args.setup.items)) room) c.set_up_both.ensures.stepped

pub returns-clause-registered : goal.returns-clause-registered
returns-clause-registered g c =
    let marks = c.self.inside.flushes.marks in
    let begin = lines_state marks c.make_room.new.exporters.dogstatsd c.make_room.new.line_handles.items in
    let room : begin ≡ c.args.self.now.flushes
    = (λ i. record { dogstatsd = state_seen marks (c.in_ok-make_room.ensures.exporters.1 i); handles = c.in_ok-make_room.ensures.line_handles i }) ∙ ap (λ (p : PlayerText). p.flushes) c.self.view_is in
    let lines : List Setup → FlushPlay = λ setup. fold register_step begin (map setup_of setup) in
    let copied : lines (in_parts c.in_ok-copies.copies.items) ≡ lines c.args.setup.items = c.in_ok-copies.ensures begin ∙ ap lines c.deref-2.ensures.value in
    on_ok_weaker c.set_up_both.result
    (λ done. done marks ∙ copied ∙ ap (λ (p : FlushPlay). fold register_step p (map setup_of c.args.setup.items)) room)
    c.set_up_both.ensures.registered
