use Rattle.std.proofs.Common.{◌∷◌, ap, ◌∙◌}
use Rattle.dsd_lines.specs.Reading.{led}
use Rattle.dsd_lines.specs.Texts.{pieces_behind}
use Rattle.dsd_lines.proofs.Cuts.{next_piece, led_by_this}
use Rattle.dsd_lines.proofs.pieces.Pieces.next_led.Goals as goal

pub returns-clause-none : goal.returns-clause-none
returns-clause-none c =
    let stop = c.args.self.now.stop in
    let others = pieces_behind stop c.cut.result.1 in
    ap (λ rest. led c.args.character (pieces_behind stop rest)) c.in_ok-self.was
    ∙ ap (led c.args.character) (next_piece stop c.in_ok-self.field-0.now c.cut.result.0.now c.cut.result.1 c.cut.ensures.front c.cut.ensures.back)
    ∙ ap (λ piece. led c.args.character (piece ∷ others)) c.in_ok-first.ensures.cases.0
    ∙ led_by_this c.args.character c.in_ok-first.first.now c.in_ok-first.text.now others c.if-first-character.false
