use Rattle.std.proofs.Common.{◌≡◌, ◌+◌, ◌++◌, length, ap, ◌∙◌, arith}
use Rattle.std.specs.Prelude.{ℤ}
use Rattle.metrics_registry.specs.Quantiles.{ascending}
use Rattle.metrics_registry.specs.Bags.{repeated, copies}
use Rattle.metrics_registry.specs.Chunks.{entries_of}
use Rattle.metrics_registry.specs.QuantileLaws.{length-ascending}
use Rattle.metrics_registry.proofs.Bagged.{ascending-merged, length-merged}
use Rattle.metrics_registry.proofs.bag.Bag.merged_with.Goals as goal
use Rattle.metrics_registry.proofs.bag.Bag.merged_with.Goals.{In_ok-add_all}

-- the counts after those of the other bag were added
both : (c : In_ok-add_all) → (v : ℤ) → copies v (entries_of c.add_all.new.chunks.items) ≡ copies v (entries_of c.self.inside.chunks.items) + copies v (entries_of c.other.inside.chunks.items)
both c v =
    omega (arith, c.in_ok-add_all.ensures.added v, ap (λ l. copies v (entries_of l)) c.as_slice.ensures.value)

pub invariant_of-result : goal.invariant_of-result
invariant_of-result c =
    record {
      ordered = c.add_all.ensures.ordered;
      counted = omega (arith, length-merged (entries_of c.self.inside.chunks.items) (entries_of c.other.inside.chunks.items) (entries_of c.add_all.new.chunks.items) (both (goal.at.invariant_of-result c).In_ok-add_all), c.self.invariant.counted, c.other.invariant.counted, c.in-Some.ensures);
    }

pub returns-clause-merged : goal.returns-clause-merged
returns-clause-merged c =
    ascending-merged (entries_of c.self.inside.chunks.items) (entries_of c.other.inside.chunks.items) (entries_of c.add_all.new.chunks.items) (both (goal.at.returns-clause-merged c).In_ok-add_all)
    ∙ (λ j. ascending (c.self.view_is j ++ c.other.view_is j))

pub returns-clause-full : goal.returns-clause-full
returns-clause-full c full =
    absurd (
    omega (
      arith,
      full,
      ap length c.self.view_is,
      length-ascending (repeated (entries_of c.self.inside.chunks.items)),
      c.self.invariant.counted,
      ap length c.other.view_is,
      length-ascending (repeated (entries_of c.other.inside.chunks.items)),
      c.other.invariant.counted,
      c.in-Some.ensures,
    )
    )
