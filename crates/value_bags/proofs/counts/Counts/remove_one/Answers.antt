use Rattle.std.proofs.Common.{◌<◌, sym, ap, ◌∙◌, subst, arith}
use Rattle.std.specs.Arc.{arc_value}
use Rattle.std.specs.List.{All}
use Rattle.value_bags.specs.Entries.{with_keys}
use Rattle.value_bags.specs.Bags.{total}
use Rattle.value_bags.proofs.Counted.{total-count_down-found, positive-count_down}
use Rattle.value_bags.proofs.counts.Counts.remove_one.Goals as goal

pub overflow_sub-self : goal.overflow_sub-self
overflow_sub-self g c =
    let was = with_keys arc_value c.self.inside.counts.entries in
    let less = total-count_down-found g.V.PartialEq.eq was (arc_value c.args.value.now) c.self.invariant.1 (sym c.uncount_one.ensures.found ∙ c.if-uncount_one.true) in
    let all = c.self.invariant.0 in
    omega arith

pub invariant_of-self : goal.invariant_of-self
invariant_of-self g c =
    let was = with_keys arc_value c.self.inside.counts.entries in
    let less = total-count_down-found g.V.PartialEq.eq was (arc_value c.args.value.now) c.self.invariant.1 (sym c.uncount_one.ensures.found ∙ c.if-uncount_one.true) in
    let all = c.self.invariant.0 in
    let new = ap total c.uncount_one.ensures.uncounted in
    (omega arith, subst (All (λ x. 0 < x.1)) (sym c.uncount_one.ensures.uncounted) (positive-count_down g.V.PartialEq.eq was (arc_value c.args.value.now) c.self.invariant.1))
