use Rattle.std.proofs.Common.{ap, sym, ◌∙◌, subst, refl, ◌<◌, ◌*◌, ◌^◌}
use Rattle.std.specs.Prelude.{option_map}
use Rattle.std.specs.Int.NonZero.{non_zero_u32_get}
use Rattle.distributions.specs.Rules.{rules_of, saying}
use Rattle.distributions.specs.Kinds.{DistributionRules}
use Rattle.distributions.specs.Builders.{bounds_of, has_bound, count_or_default, given_rules}
use Rattle.std.specs.Arc.{arc_value}
use Rattle.distributions.proofs.Building.{rule_for-saying, duration_is, count_is, kind_for-same, summary_same}
use Rattle.distributions.proofs.builder.DistributionBuilder.new.Goals as goal

pub invariant_of-result : goal.invariant_of-result
invariant_of-result c =
    let duration = sym (duration_is c.args.bucket_duration _ c.unwrap_or.ensures) in
    let count = sym (count_is c.args.bucket_count _ _ c.unwrap_or-2.ensures c.default_bucket_count.ensures) in (
      subst (λ n. 0 < n) duration c.requires.wide,
      subst (λ n. n * c.unwrap_or.result < 2 ^ 64) count (subst (λ n. count_or_default c.args.bucket_count * n < 2 ^ 64) duration c.requires.fits),
      c.requires.bounds,
      c.in_ok-bucket_overrides.ensures.among has_bound c.requires.bounds_for,
    )

pub returns : goal.returns
returns c =
    let duration = duration_is c.args.bucket_duration _ c.unwrap_or.ensures in
    let count = count_is c.args.bucket_count _ _ c.unwrap_or-2.ensures c.default_bucket_count.ensures in
    let built = c.in_ok-bucket_overrides.bucket_overrides in
    let given = rules_of c.args.bucket_overrides.items in
    let kept : DistributionRules = record {
      native_for = c.in_ok-native_histogram_overrides.native_histogram_overrides;
      buckets_for = saying bounds_of built;
      buckets = option_map bounds_of c.args.buckets;
      summary = record { quantiles = (arc_value c.in_ok-quantiles.quantiles).items; bucket_count = non_zero_u32_get c.unwrap_or-2.result; bucket_duration = c.unwrap_or.result };
    } in
    record {
      kinds = λ name.
          kind_for-same kept (given_rules c.args.quantiles.items c.args.bucket_duration c.args.buckets c.args.bucket_count c.args.bucket_overrides.items c.args.native_histogram_overrides.items) name
          (c.in_ok-native_histogram_overrides.ensures.same name)
          (rule_for-saying bounds_of name built ∙ ap (option_map (λ rule. (rule.0, bounds_of rule.1))) (c.in_ok-bucket_overrides.ensures.same name) ∙ sym (rule_for-saying bounds_of name given))
          refl
          (summary_same _ _ _ _ _ _ (ap (λ quantiles. quantiles.items) c.in_ok-quantiles.ensures.ok) count duration);
    }
