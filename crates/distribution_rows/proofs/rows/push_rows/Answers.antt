use Rattle.std.proofs.Common.{◌++◌, ap, ◌∙◌}
use Rattle.std.specs.Prelude.{string_bytes}
use Rattle.std.proofs.lemmas.Result.{on_ok_weaker}
use Rattle.distribution_rows.specs.Lines.{shown_lines}
use Rattle.distribution_rows.proofs.Shown.{lines_are_rows}
use Rattle.distribution_rows.proofs.rows.push_rows.Goals as goal

pub returns : goal.returns
returns c =
    let name = c.args.name.now in
    let shown = c.args.distribution.now in
    on_ok_weaker c.push_lines.result
    (λ is set set_is. is ∙ ap (λ l. string_bytes c.args.buffer.now ++ l) ((λ j. shown_lines name (set_is j) c.args.moment shown) ∙ lines_are_rows name set c.args.moment shown))
    c.push_lines.ensures
