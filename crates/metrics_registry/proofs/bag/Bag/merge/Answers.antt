use Rattle.std.proofs.Common.{◌≡◌, ◌+◌, ◌++◌, length, ap, ◌∙◌, arith}
use Rattle.std.specs.Prelude.{ℤ}
use Rattle.metrics_registry.specs.Quantiles.{ascending}
use Rattle.metrics_registry.specs.Bags.{repeated, copies}
use Rattle.metrics_registry.specs.Chunks.{entries_of}
use Rattle.metrics_registry.specs.QuantileLaws.{length-ascending}
use Rattle.metrics_registry.proofs.Bagged.{ascending-merged, length-merged}
use Rattle.metrics_registry.proofs.bag.Bag.merge.Goals as goal
use Rattle.metrics_registry.proofs.bag.Bag.merge.Goals.{In_ok-add_all, In_ok-add_all-2}

-- the bag's own values, added to none
own : (c : In_ok-add_all) → (v : ℤ) → copies v (entries_of c.add_all.new.chunks.items) ≡ copies v (entries_of c.self.inside.chunks.items)
own c v =
    omega (arith, c.in_ok-add_all.ensures.added v, ap (λ l. copies v (entries_of l)) c.new-merged.ensures.items, ap (λ l. copies v (entries_of l)) c.as_slice.ensures.value)

-- and then those of the other bag
both : (c : In_ok-add_all-2) → ((v : ℤ) → copies v (entries_of c.add_all.new.chunks.items) ≡ copies v (entries_of c.self.inside.chunks.items))
    → (v : ℤ) → copies v (entries_of c.add_all-2.new.chunks.items) ≡ copies v (entries_of c.self.inside.chunks.items) + copies v (entries_of c.other.inside.chunks.items)
both c first v =
    omega (arith, c.in_ok-add_all-2.ensures.added v, first v, ap (λ l. copies v (entries_of l)) c.as_slice-2.ensures.value)

pub add_all-requires-2-clause-fits : goal.add_all-requires-2-clause-fits
add_all-requires-2-clause-fits c =
    omega (
      arith,
      length-merged (entries_of c.new-merged.result.items) (entries_of c.as_slice.result.now) (entries_of c.add_all.new.chunks.items) c.in_ok-add_all.ensures.added,
      ap (λ l. length (repeated (entries_of l))) c.new-merged.ensures.items,
      ap (λ l. length (repeated (entries_of l))) c.as_slice.ensures.value,
      ap (λ l. length (repeated (entries_of l))) c.as_slice-2.ensures.value,
      c.self.invariant.counted,
      c.other.invariant.counted,
      c.in-Some.ensures,
    )

pub invariant_of-self : goal.invariant_of-self
invariant_of-self c =
    let at = goal.at.invariant_of-self c in
    record {
      ordered = c.add_all-2.ensures.ordered;
      counted = omega (arith, length-merged (entries_of c.self.inside.chunks.items) (entries_of c.other.inside.chunks.items) (entries_of c.add_all-2.new.chunks.items) (both at.In_ok-add_all-2 (own at.In_ok-add_all)), c.self.invariant.counted, c.other.invariant.counted, c.in-Some.ensures);
    }

pub returns-clause-merged : goal.returns-clause-merged
returns-clause-merged c =
    let at = goal.at.returns-clause-merged c in
    ascending-merged (entries_of c.self.inside.chunks.items) (entries_of c.other.inside.chunks.items) (entries_of c.add_all-2.new.chunks.items) (both at.In_ok-add_all-2 (own at.In_ok-add_all))
    ∙ (λ j. ascending (c.self.view_is j ++ c.other.view_is j))

pub returns-clause-full : goal.returns-clause-full
returns-clause-full c full =
    absurd (
    omega (
      arith,
      full,
      ap length c.self.view_is,
      length-ascending (repeated (entries_of c.self.inside.chunks.items)),
      c.self.invariant.counted,
      ap length c.other.view_is,
      length-ascending (repeated (entries_of c.other.inside.chunks.items)),
      c.other.invariant.counted,
      c.in-Some.ensures,
    )
    )
