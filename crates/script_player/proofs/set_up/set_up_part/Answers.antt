use Rattle.std.proofs.Common.{◌≡◌, ◌∷◌, ap, sym, ◌∙◌, fold, map, reverse}
use Rattle.drive_script.specs.Texts.{setup_of}
use Rattle.script_player.specs.Flushes.{register_step}
use Rattle.script_player.specs.Player.{lines_state}
use Rattle.script_player.proofs.SetupSteps.{turned}
use Rattle.script_player.proofs.set_up.set_up_part.Goals as goal

pub loop-line-preserved : goal.loop-line-preserved
loop-line-preserved c =
    let inv = c.loop-line.invariant in
    let left = reverse c.give_room_back.new.setup.items in
    let steps : reverse c.loop-line.setup.items ≡ c.in-Some.line ∷ left =
    turned c.loop-line.setup.items c.pop.new.self.items c.in-Some.line c.in-Some.ensures.items ∙ ap (λ l. c.in-Some.line ∷ reverse l) (sym c.give_room_back.ensures.same) in
    let e = c.in_ok-set_up_line.ensures in
    record {
      settings = e.settings ∙ inv.settings;
      rest = λ rests. e.rest (inv.rest rests);
      registered = λ marks. ap (λ p. fold register_step p (map setup_of left)) (e.registered marks)
          ∙ ap (λ lines. fold register_step (lines_state marks c.loop-line.lines c.loop-line.handles.items) (map setup_of lines)) (sym steps)
          ∙ inv.registered marks;
    }
