use Rattle.std.proofs.Common.{◌+◌, ◌<◌, sym, ap, ◌∙◌, subst}
use Rattle.std.specs.Arc.{arc_value}
use Rattle.std.specs.List.{All}
use Rattle.value_bags.specs.Entries.{with_keys}
use Rattle.value_bags.specs.Bags.{total}
use Rattle.value_bags.proofs.Counted.{total-count_up, positive-count_up}
use Rattle.value_bags.proofs.counts.Counts.push.Goals as goal

pub invariant_of-self-2 : goal.invariant_of-self-2
invariant_of-self-2 g c =
    let eq = g.V.PartialEq.eq in
    let was = with_keys arc_value c.self.inside.counts.entries in
    let e = c.in_ok-count_one.ensures.counted in
    (c.in-Some.ensures.1 ∙ ap (λ n. n + 1) c.self.invariant.0 ∙ sym (total-count_up eq was (arc_value c.args.value.now)) ∙ ap total (sym e), subst (All (λ x. 0 < x.1)) (sym e) (positive-count_up eq was (arc_value c.args.value.now) c.self.invariant.1))
