use Rattle.std.proofs.Common.{◌≡◌, ap, sym, ◌∙◌, subst, ◌<◌, length, map}
use Rattle.std.proofs.lemmas.Bool.{ltb-true}
use Rattle.std.specs.Option.{option_copied}
use Rattle.std.specs.Prelude.{option_map}
use Rattle.prom_format.specs.Matchers.{rule_for}
use Rattle.distributions.specs.Kinds.{DistributionRules, bucket_kind, general_kind}
use Rattle.distributions.specs.Kinds as kinds
use Rattle.distributions.specs.Builders.{has_bound, kind_of_bounds}
use Rattle.distributions.proofs.Building.{kind_of_rule, kind_of_none, rule_for-passes, bounds_by_items}
use Rattle.distributions.proofs.builder.DistributionBuilder.bounds_for.Goals as goal

pub returns-in-Some-clause-kind : goal.returns-in-Some-clause-kind
returns-in-Some-clause-kind c =
    let P : DistributionRules → Type 0 = λ v. bucket_kind (rule_for v.buckets_for c.args.name.now) (general_kind v.summary v.buckets) ≡ kinds.Histogram (map (λ bound. bound.0) c.as_slice.result.now) in
    subst P c.self.view_is
    (kind_of_rule c.self.inside.bucket_overrides c.args.name.now _ c.in-Some.bounds.now c.in-Some.ensures.rule
    ∙ ap (λ items. kinds.Histogram (map (λ bound. bound.0) items)) (sym c.as_slice.ensures.value))

pub returns-in-Some-clause-some : goal.returns-in-Some-clause-some
returns-in-Some-clause-some c =
    subst (λ items. 0 < length items) (sym c.as_slice.ensures.value)
    (ltb-true _ _ (rule_for-passes has_bound c.args.name.now c.self.inside.bucket_overrides c.self.invariant.3 c.in-Some.bounds.now c.in-Some.ensures.rule))

pub returns-in-None-clause-kind : goal.returns-in-None-clause-kind
returns-in-None-clause-kind c =
    let P : DistributionRules → Type 0 = λ v. bucket_kind (rule_for v.buckets_for c.args.name.now) (general_kind v.summary v.buckets) ≡ kind_of_bounds v.summary (option_copied c.general_bounds.result) in
    subst P c.self.view_is (kind_of_none c.self.inside.bucket_overrides c.args.name.now _ c.in-None.ensures.rule
    ∙ ap (general_kind _) (bounds_by_items c.self.inside.buckets ∙ ap (option_map (map (λ bound. bound.0))) (sym c.general_bounds.ensures)))
