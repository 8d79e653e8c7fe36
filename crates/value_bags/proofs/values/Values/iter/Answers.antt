use Rattle.std.proofs.Common.{◌≡◌, length, map, sym, ap, ◌∙◌}
use Rattle.std.specs.Arc.{arc_value}
use Rattle.value_bags.specs.Bags.{values_of}
use Rattle.value_bags.specs.Left.{values_left}
use Rattle.value_bags.specs.Stored.{bag_of}
use Rattle.value_bags.proofs.Walked.{length-values}
use Rattle.value_bags.proofs.values.Values.iter.Goals as goal
use Rattle.value_bags.proofs.values.Values.iter.Goals.{in-Short, in-Long}

pub invariant_of-result : goal.invariant_of-result
invariant_of-result g c =
    let same : values_left c.match-self.rest ≡ values_of c.args.self.now =
    elim c.match-self.branch [
      | in-Short w ↦ ap values_left w.rest-is ∙ ap (map arc_value) w.deref.ensures.value ∙ ap (λ f. values_of (bag_of f)) (sym w.in-Short.is) ∙ ap values_of c.self.view_is
      | in-Long w ↦ ap values_left w.rest-is ∙ w.of.ensures ∙ ap (λ f. values_of (bag_of f)) (sym w.in-Long.is) ∙ ap values_of c.self.view_is
    ] in
    c.len-left.ensures.len ∙ length-values c.args.self.now ∙ ap length (sym same)
