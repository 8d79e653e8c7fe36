use Rattle.std.proofs.Common.{rules, arith, ◌≡◌, ◌∙◌, ◌+◌, ◌<◌, ◌^◌}
use Rattle.std.specs.Prelude.{fold}
use Rattle.metrics_core.specs.Numbers.{in_64_bits}
use Rattle.metrics_core.specs.Hashes.{label_hash}
use Rattle.metrics_core.specs.KeyLaws.{wrapping_sum}
use Rattle.metrics_core.proofs.labels.add_hashes.Goals as goal

-- the fold that the code makes, and its sum
pub returns : goal.returns
returns c =
    let folded : c.fold.result ≡ fold (λ total x. in_64_bits (total + label_hash x)) c.args.start c.args.labels.now = search rules in
    let small : c.args.start < 2 ^ 64 = omega arith in
    folded ∙ wrapping_sum label_hash c.args.start c.args.labels.now small
