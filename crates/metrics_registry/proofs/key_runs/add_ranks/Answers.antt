use Rattle.std.proofs.Common.{rules, arith, ◌≡◌, ◌∙◌, ◌+◌, ◌<◌, ◌^◌}
use Rattle.std.specs.Prelude.{fold}
use Rattle.metrics_core.specs.Numbers.{in_64_bits}
use Rattle.metrics_core.specs.KeyLaws.{wrapping_sum}
use Rattle.metrics_registry.specs.KeyRuns.{value_rank}
use Rattle.metrics_registry.proofs.key_runs.add_ranks.Goals as goal

-- the fold that the code makes, and its sum
pub returns : goal.returns
returns c =
    let folded : c.fold.result ≡ fold (λ total x. in_64_bits (total + value_rank x)) c.args.start c.args.labels.now = search rules in
    let small : c.args.start < 2 ^ 64 = omega arith in
    folded ∙ wrapping_sum value_rank c.args.start c.args.labels.now small
