use Rattle.std.proofs.Common.{◌≡◌, true}
use Rattle.std.proofs.Math.Bool.{Bool-set}
use Rattle.std.specs.Arc.{arc_value}
use Rattle.cell_lanes.specs.Owned.{counts}
use Rattle.cell_lanes.proofs.Facts.{one_equation}
use Rattle.cell_lanes.proofs.owned.OwnedCellLender.lend.Goals as goal

pub same-self : goal.same-self
same-self g c =
    let kept = c.self.inside in
    let same : (counted : counts kept.out (g.C.SharedCell.view kept.root).out ≡ true) (own : g.C.SharedCell.is_pass (arc_value kept.cell) kept.root) (first : (g.C.SharedCell.view kept.root).number ≡ 0)
    → record kept { counted = counted; own = own; first = first } ≡ kept =
    λ counted own first i. record kept {
      counted = Bool-set (counts kept.out (g.C.SharedCell.view kept.root).out) true counted kept.counted i;
      own = g.C.SharedCell.is_one_fact (arc_value kept.cell) kept.root own kept.own i;
      first = one_equation (g.C.SharedCell.view kept.root).number 0 first kept.first i;
    } in
    same _ _ _
