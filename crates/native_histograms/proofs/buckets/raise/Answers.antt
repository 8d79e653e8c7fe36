use Rattle.std.proofs.Common.{◌≡◌, w32, ◌∙◌}
use Rattle.std.specs.Int.{cast_signed, cast_unsigned}
use Rattle.std.specs.Map.{lookup}
use Rattle.std.specs.Ordering.{int_eq}
use Rattle.std.proofs.lemmas.Int.{to_z-of_z}
use Rattle.std.proofs.lemmas.Result.{on_ok_weaker}
use Rattle.native_histograms.specs.Placed.{raised_at}
use Rattle.native_histograms.proofs.Bucketed.{raises}
use Rattle.native_histograms.proofs.buckets.raise.Goals as goal

pub returns-clause-raised : goal.returns-clause-raised
returns-clause-raised c =
    let own : cast_signed w32 (cast_unsigned w32 c.args.index) ≡ c.args.index = to_z-of_z w32 c.args.index c.ranges.index in
    on_ok_weaker c.add.result (λ raised.
    raises c.args.buckets.now.entries c.add.new.buckets.entries c.args.index c.args.count c.requires c.add.ensures.ordered (λ q.
    raised q ∙ (λ j. raised_at (own j) (c.from.ensures j) q (lookup (λ i. int_eq q i) c.args.buckets.now.entries))))
    c.add.ensures.raised
