use Rattle.std.proofs.Common.{refl, sym, ◌∙◌, arith}
use Rattle.std.specs.Arc.{arc_value}
use Rattle.value_bags.proofs.Walked.{first-positive, walked}
use Rattle.value_bags.proofs.listing.Repeats.next.Goals as goal

pub overflow_sub-self-2 : goal.overflow_sub-self-2
overflow_sub-self-2 g c =
    let h = (first-positive arc_value c.self.inside.counts (c.in_ok-value.value.now, c.in_ok-value.count.now) c.in_ok-value.counts c.in_ok-value.ensures.parts c.self.invariant.1).0 in
    omega arith

pub invariant_of-self-2 : goal.invariant_of-self-2
invariant_of-self-2 g c = (λ _. refl, (first-positive arc_value c.self.inside.counts (c.in_ok-value.value.now, c.in_ok-value.count.now) c.in_ok-value.counts c.in_ok-value.ensures.parts c.self.invariant.1).1)

pub returns : goal.returns
returns g c =
    sym c.self.view_is
    ∙ walked arc_value c.self.inside.value c.self.inside.again c.self.inside.counts (c.in_ok-value.value.now, c.in_ok-value.count.now) c.in_ok-value.counts c.deref.result.now c.if-self-gt0.false c.in_ok-value.ensures.parts
    (first-positive arc_value c.self.inside.counts (c.in_ok-value.value.now, c.in_ok-value.count.now) c.in_ok-value.counts c.in_ok-value.ensures.parts c.self.invariant.1).0 c.deref.ensures
