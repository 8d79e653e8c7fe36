use Rattle.std.proofs.Common.{◌≡◌, ℕ, ◌≤◌, length, Option, None, refl, sym, ap, subst, ◌∙◌, arith}
use Rattle.std.specs.Prelude.{unwrap_or}
use Rattle.metrics_core.specs.declared.kinds.MetricKind.TheVariants.{Gauge}
use Rattle.metrics_registry.specs.Recency.{Idle}
use Rattle.prom_format.specs.LabelSets.{labels_of}
use Rattle.prom_exporter.specs.Builder.{with_globals}
use Rattle.prom_exporter.specs.Exporter.{Cells}
use Rattle.prom_exporter.specs.Kept.{HaveKinds}
use Rattle.prom_exporter.specs.Rows.{keys_of}
use Rattle.prom_exporter.specs.Stepped.{IsNoted, AreNoted}
use Rattle.prom_exporter.proofs.KeptRows.{kept_same}
use Rattle.prom_exporter.proofs.Stepping.{noted_keys, noted_under, retains_noted}
use Rattle.prom_exporter.proofs.state.PrometheusState.step_gauges.Goals as goal

pub returns-then-gauge_count-count-clause-noted : goal.returns-then-gauge_count-count-clause-noted
returns-then-gauge_count-count-clause-noted c = rw (← c.self.view_is) (noted_under (unwrap_or c.recency_of-recency.result None) c.self.inside.settings.idle c.args.moment Gauge c.recency_of-recency.ensures c.self.inside.series.gauges c.retain_gauges.new.self.gauges
    (retains_noted (unwrap_or c.recency_of-recency.result None) c.args.moment Gauge _ (λ f. f ≡ (c.recency_of-recency.result, c.args.moment))
    (λ f id cell b left f' is called. (
      (λ j. (called.met.1.0.0 j, called.met.1.0.1 j)) ∙ is,
      subst (λ (h : Option (Option Idle) × ℕ). IsNoted (unwrap_or h.0 None) h.1 Gauge cell.now b left.now) is called.met.1.1,
    )) _ _ _ _ refl c.retain_gauges.ensures.retained.1))

pub returns-else-gauge_count-count-clause-noted : goal.returns-else-gauge_count-count-clause-noted
returns-else-gauge_count-count-clause-noted c = rw (← c.self.view_is) (noted_under (unwrap_or c.recency_of-recency.result None) c.self.inside.settings.idle c.args.moment Gauge c.recency_of-recency.ensures c.self.inside.series.gauges c.retain_gauges.new.self.gauges
    (retains_noted (unwrap_or c.recency_of-recency.result None) c.args.moment Gauge _ (λ f. f ≡ (c.recency_of-recency.result, c.args.moment))
    (λ f id cell b left f' is called. (
      (λ j. (called.met.1.0.0 j, called.met.1.0.1 j)) ∙ is,
      subst (λ (h : Option (Option Idle) × ℕ). IsNoted (unwrap_or h.0 None) h.1 Gauge cell.now b left.now) is called.met.1.1,
    )) _ _ _ _ refl c.retain_gauges.ensures.retained.1))

pub invariant_of-self-else-gauge_count-count : goal.invariant_of-self-else-gauge_count-count
invariant_of-self-else-gauge_count-count c =
    let series = c.self.inside.series in
    let now = c.retain_gauges.new.self in
    let noted : AreNoted c.self.inside.settings.idle c.args.moment Gauge series.gauges now.gauges = noted_under (unwrap_or c.recency_of-recency.result None) c.self.inside.settings.idle c.args.moment Gauge c.recency_of-recency.ensures c.self.inside.series.gauges c.retain_gauges.new.self.gauges
    (retains_noted (unwrap_or c.recency_of-recency.result None) c.args.moment Gauge _ (λ f. f ≡ (c.recency_of-recency.result, c.args.moment))
    (λ f id cell b left f' is called. (
      (λ j. (called.met.1.0.0 j, called.met.1.0.1 j)) ∙ is,
      subst (λ (h : Option (Option Idle) × ℕ). IsNoted (unwrap_or h.0 None) h.1 Gauge cell.now b left.now) is called.met.1.1,
    )) _ _ _ _ refl c.retain_gauges.ensures.retained.1) in
    let past = c.if-gauge_count-count.false in
    let many : length series.gauges ≤ length now.gauges = omega (arith, past, c.gauge_count-count.ensures, c.gauge_count.ensures) in
    kept_same _ _ series now _ _ _ c.self.invariant
    (ap (λ (cells : Cells). keys_of cells.counters) c.retain_gauges.ensures.others) (noted_keys c.self.inside.settings.idle c.args.moment Gauge series.gauges now.gauges noted many)
    (ap (λ (cells : Cells). keys_of cells.histograms) c.retain_gauges.ensures.others) (subst (HaveKinds (with_globals c.self.inside.settings (labels_of c.self.inside.globals.entries))) (sym (ap (λ (cells : Cells). cells.histograms) c.retain_gauges.ensures.others)) c.self.invariant.sampled)
