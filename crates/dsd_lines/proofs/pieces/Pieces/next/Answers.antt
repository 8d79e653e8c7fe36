use Rattle.std.proofs.Common.{ap, ◌∙◌}
use Rattle.dsd_lines.specs.Texts.{pieces_behind}
use Rattle.dsd_lines.proofs.Cuts.{next_piece}
use Rattle.dsd_lines.proofs.pieces.Pieces.next.Goals as goal

pub returns : goal.returns
returns c =
    ap (pieces_behind c.args.self.now.stop) c.in_ok-self.was
    ∙ next_piece c.args.self.now.stop c.in_ok-self.field-0.now c.cut.result.0.now c.cut.result.1 c.cut.ensures.front c.cut.ensures.back
