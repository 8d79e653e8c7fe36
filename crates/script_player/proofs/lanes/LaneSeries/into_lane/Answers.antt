use Rattle.std.proofs.Common.{sym, ap, subst, ◌∙◌}
use Rattle.std.proofs.lemmas.Bool.{eq-eqb}
use Rattle.cell_lanes.specs.Lines.{LaneText}
use Rattle.legal_history.specs.History.{Distinct}
use Rattle.script_player.proofs.LaneSteps.{distinct_keys}
use Rattle.script_player.proofs.lanes.LaneSeries.into_lane.Goals as goal

pub returns-clause-once : goal.returns-clause-once
returns-clause-once c =
    subst Distinct (sym (ap (λ (lane : LaneText _). lane.cells) c.new.ensures ∙ c.in_ok-cells.ensures.items ∙ c.as_slice.ensures.keys))
    (distinct_keys _ (λ a b e. eq-eqb a b e) c.args.self.cells.keys c.as_slice.ensures.unique)
