use Rattle.std.proofs.Common.{sym, ap, ◌∙◌, arith}
use Rattle.value_bags.specs.Bags.{total}
use Rattle.value_bags.proofs.counts.Counts.capacity.Goals as goal

pub returns : goal.returns
returns g c =
    let same = ap total (sym c.self.view_is) ∙ sym c.self.invariant.0 in
    omega arith
