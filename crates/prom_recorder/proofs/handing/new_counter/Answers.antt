use Rattle.std.proofs.Common.{◌≡◌, ◌∙◌, sym, ap, Some}
use Rattle.legal_history.specs.History.{child, first}
use Rattle.prom_recorder.proofs.handing.new_counter.Goals as goal

-- src/lib.rt:35:1
pub returns : goal.returns
returns c = record { cell = c.in_ok-cell.cell; id_is = λ i. c.args.id; handle = c.from_arc-handle.ensures ∙ ap Some c.in_ok-new.ensures.ok; pass = c.in_ok-pass.ensures.pass.1; knows = c.in_ok-pass.ensures.child.0 ∙ ap child c.in_ok-cell.ensures.1 }
