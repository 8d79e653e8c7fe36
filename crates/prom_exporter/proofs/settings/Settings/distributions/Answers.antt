use Rattle.std.proofs.Common.{◌≡◌, List, ℕ, map, Some, sym, ap, subst, ◌∙◌}
use Rattle.std.specs.Prelude.{option_map, IfOk}
use Rattle.std.specs.Int.NonZero.{non_zero_u32_get}
use Rattle.metrics_core.specs.declared.numbers.Fixed.{Fixed}
use Rattle.distributions.specs.Builders.{bounds_of}
use Rattle.distributions.specs.Rules.{rules_of}
use Rattle.distributions.specs.Kinds.{DistributionRules, kind_for}
use Rattle.metrics_registry.specs.Quantiles.{clamped}
use Rattle.prom_exporter.specs.Builder.{billionths_of, rule_text}
use Rattle.prom_exporter.proofs.CopiedRules.{copied_bounds, copied_said}
use Rattle.prom_exporter.proofs.settings.Settings.distributions.Goals as goal
use Rattle.prom_exporter.proofs.settings.Settings.distributions.Goals.{in-Some+in_ok-from_slice-in-Some, in-None}

pub new-requires-clause-bounds_for : goal.new-requires-clause-bounds_for
new-requires-clause-bounds_for c =
    copied_bounds c.self.inside.buckets_for.items c.in_ok-copied_rules.field-0.items (c.in_ok-copied_rules.ensures ∙ ap (map rule_text) c.as_slice-3.ensures.value) c.self.invariant.2

pub returns : goal.returns
returns c =
    let inside = c.self.inside in
    let quantiles = c.in_ok-clamped_quantiles.ensures ∙ ap (λ l. map clamped (billionths_of l)) c.as_slice-2.ensures.value in
    let natives = c.in_ok-copied_native_rules.ensures ∙ ap rules_of c.as_slice-4.ensures.value in
    let said = copied_said inside.buckets_for.items c.in_ok-copied_rules.field-0.items (c.in_ok-copied_rules.ensures ∙ ap (map rule_text) c.as_slice-3.ensures.value) in
    let buckets : option_map bounds_of c.match-self.buckets ≡ option_map bounds_of inside.buckets = elim c.match-self.branch [
      | in-Some+in_ok-from_slice-in-Some w ↦ ap (option_map bounds_of) w.buckets-is ∙ ap (λ l. Some (map (λ (bound : Fixed). bound.0) l)) (w.in_ok-from_slice-in-Some.ensures.items ∙ w.as_slice.ensures.value) ∙ sym (ap (option_map bounds_of) w.in-Some.is)
      | in-None w ↦ ap (option_map bounds_of) w.buckets-is ∙ sym (ap (option_map bounds_of) w.in-None.is)
    ] in
    rw (← c.self.view_is) (subst (λ (rules : DistributionRules). IfOk c.new.result (λ builder. (name : List ℕ) → kind_for builder name ≡ kind_for rules name))
    (λ j. record {
      native_for = natives j;
      buckets_for = said j;
      buckets = buckets j;
      summary = record { quantiles = quantiles j; bucket_count = non_zero_u32_get inside.bucket_count; bucket_duration = inside.bucket_duration };
    }) c.new.ensures.kinds)
