use Rattle.std.proofs.Common.{◌≡◌, ◌+◌, ◌++◌, length, cond, ap, ◌∙◌, arith, w64, rules}
use Rattle.std.specs.Prelude.{ℤ, replicate, FitsSigned}
use Rattle.std.specs.Int.{cast_signed, cast_unsigned}
use Rattle.std.specs.Ordering.{int_eq}
use Rattle.std.proofs.lemmas.Int.{to_z-of_z}
use Rattle.metrics_registry.specs.Quantiles.{ascending}
use Rattle.metrics_registry.specs.Bags.{repeated, copies}
use Rattle.metrics_registry.specs.Chunks.{entries_of}
use Rattle.metrics_registry.specs.QuantileLaws.{length-ascending}
use Rattle.metrics_registry.proofs.Bagged.{ascending-put, length-put}
use Rattle.metrics_registry.proofs.bag.Bag.add.Goals as goal
use Rattle.metrics_registry.proofs.bag.Bag.add.Goals.{In_ok-raise}

-- the counts after the value was raised
raised : (c : In_ok-raise) → FitsSigned w64 c.args.value.0 → (v : ℤ) → copies v (entries_of c.raise.new.chunks.items) ≡ copies v (entries_of c.self.inside.chunks.items) + cond (int_eq v c.args.value.0) c.args.count 0
raised c fits v =
    let own : cast_signed w64 (cast_unsigned w64 c.args.value.0) ≡ c.args.value.0 = to_z-of_z w64 c.args.value.0 fits in
    c.in_ok-raise.ensures.raised v ∙ ap (λ k. copies v (entries_of c.self.inside.chunks.items) + cond (int_eq v k) c.args.count 0) own

pub invariant_of-self-2 : goal.invariant_of-self-2
invariant_of-self-2 c =
    let fits : FitsSigned w64 c.args.value.0 = search rules in
    let put = raised (goal.at.invariant_of-self-2 c).In_ok-raise fits in
    record {
      ordered = c.raise.ensures.ordered;
      counted = omega (arith, length-put c.args.value.0 c.args.count (entries_of c.self.inside.chunks.items) (entries_of c.raise.new.chunks.items) put, c.self.invariant.counted, c.in-Some.ensures);
    }

pub returns-clause-added : goal.returns-clause-added
returns-clause-added c =
    let fits : FitsSigned w64 c.args.value.0 = search rules in
    ascending-put c.args.value.0 c.args.count (entries_of c.self.inside.chunks.items) (entries_of c.raise.new.chunks.items) (raised (goal.at.returns-clause-added c).In_ok-raise fits)
    ∙ ap (λ bag. ascending (bag ++ replicate c.args.count c.args.value.0)) c.self.view_is

pub returns-clause-full : goal.returns-clause-full
returns-clause-full c full =
    absurd (omega (arith, full, ap length c.self.view_is, length-ascending (repeated (entries_of c.self.inside.chunks.items)), c.self.invariant.counted, c.in-Some.ensures))
