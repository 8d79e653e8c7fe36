use Rattle.std.proofs.Common.{◌∷◌, [], ◌++◌, ◌∙◌, sym, ap, subst}
use Rattle.std.specs.List.{AllZip}
use Rattle.std.proofs.lemmas.List.{append_assoc}
use Rattle.metrics_core.proofs.Lists.{AllZip-push}
use Rattle.drive_script.specs.Runs.{said_so_far}
use Rattle.drive_script.specs.Script.{IsLine, lines_of}
use Rattle.drive_script.specs.Texts.{line_of}
use Rattle.drive_script.proofs.beside.read_lines.Goals as goal

pub loop-rest-preserved : goal.loop-rest-preserved
loop-rest-preserved c =
    let (done, lines, said) = c.loop-rest.invariant in
    let line = c.split_line.result.0.now in
    let is_line : IsLine line (line_of c.in-Some.says) = rw c.in-Some.is at c.in_ok-says.ensures in (
      done ++ line ∷ [],
      lines ∙ ap (λ ls. done ++ ls) c.split_line.ensures.lines ∙ sym (append_assoc done (line ∷ []) (lines_of c.split_line.result.1.now)),
      subst (AllZip IsLine (done ++ line ∷ [])) (sym c.in_ok-push_line.ensures) (AllZip-push IsLine done (said_so_far c.loop-rest.said.items c.loop-rest.calls.items) line (line_of c.in-Some.says) said is_line),
    )
