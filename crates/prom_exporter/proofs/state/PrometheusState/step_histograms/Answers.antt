use Rattle.std.proofs.Common.{◌≡◌, ℕ, ◌≤◌, length, Option, None, refl, subst, ◌∙◌, arith}
use Rattle.std.specs.Prelude.{unwrap_or}
use Rattle.metrics_registry.specs.Recency.{Idle}
use Rattle.prom_exporter.specs.Stepped.{IsCounted, AreCounted}
use Rattle.prom_exporter.proofs.Upkeep.{kept-counted, kept-emptied}
use Rattle.prom_exporter.proofs.Counted.{counted_under, retains_counted}
use Rattle.prom_exporter.proofs.state.PrometheusState.step_histograms.Goals as goal

pub returns-then-histogram_count-count-clause-counted : goal.returns-then-histogram_count-count-clause-counted
returns-then-histogram_count-count-clause-counted c = rw (← c.self.view_is) (counted_under (unwrap_or c.recency_of-recency.result None) c.self.inside.settings.idle c.args.moment c.recency_of-recency.ensures c.self.inside.series.histograms c.retain_histograms.new.self.histograms
    (retains_counted (unwrap_or c.recency_of-recency.result None) c.args.moment _ (λ f. f ≡ (c.recency_of-recency.result, c.args.moment))
    (λ f id cell b left f' is called. (
      (λ j. (called.met.1.0.0 j, called.met.1.0.1 j)) ∙ is,
      subst (λ (h : Option (Option Idle) × ℕ). IsCounted (unwrap_or h.0 None) h.1 cell.now b left.now) is called.met.1.1,
    )) _ _ _ _ refl c.retain_histograms.ensures.retained.1))

pub returns-else-histogram_count-count-clause-counted : goal.returns-else-histogram_count-count-clause-counted
returns-else-histogram_count-count-clause-counted c = rw (← c.self.view_is) (counted_under (unwrap_or c.recency_of-recency.result None) c.self.inside.settings.idle c.args.moment c.recency_of-recency.ensures c.self.inside.series.histograms c.retain_histograms.new.self.histograms
    (retains_counted (unwrap_or c.recency_of-recency.result None) c.args.moment _ (λ f. f ≡ (c.recency_of-recency.result, c.args.moment))
    (λ f id cell b left f' is called. (
      (λ j. (called.met.1.0.0 j, called.met.1.0.1 j)) ∙ is,
      subst (λ (h : Option (Option Idle) × ℕ). IsCounted (unwrap_or h.0 None) h.1 cell.now b left.now) is called.met.1.1,
    )) _ _ _ _ refl c.retain_histograms.ensures.retained.1))

pub invariant_of-self-else-histogram_count-count : goal.invariant_of-self-else-histogram_count-count
invariant_of-self-else-histogram_count-count c =
    let series = c.self.inside.series in
    let now = c.retain_histograms.new.self in
    let counted : AreCounted c.self.inside.settings.idle c.args.moment series.histograms now.histograms = (counted_under (unwrap_or c.recency_of-recency.result None) c.self.inside.settings.idle c.args.moment c.recency_of-recency.ensures c.self.inside.series.histograms c.retain_histograms.new.self.histograms
    (retains_counted (unwrap_or c.recency_of-recency.result None) c.args.moment _ (λ f. f ≡ (c.recency_of-recency.result, c.args.moment))
    (λ f id cell b left f' is called. (
      (λ j. (called.met.1.0.0 j, called.met.1.0.1 j)) ∙ is,
      subst (λ (h : Option (Option Idle) × ℕ). IsCounted (unwrap_or h.0 None) h.1 cell.now b left.now) is called.met.1.1,
    )) _ _ _ _ refl c.retain_histograms.ensures.retained.1)) in
    let past = c.if-histogram_count-count.false in
    let many : length series.histograms ≤ length now.histograms = omega (arith, past, c.histogram_count-count.ensures, c.histogram_count.ensures) in
    kept-counted _ _ series _ _ _ c.self.invariant now c.self.inside.settings.idle c.args.moment counted many c.retain_histograms.ensures.others

pub invariant_of-self : goal.invariant_of-self
invariant_of-self c =
    kept-emptied _ _ c.self.inside.series _ _ _ c.self.invariant c.retain_histograms.new.self c.self.inside.settings.idle c.args.moment c.clear.new.self c.clear.ensures
    (counted_under (unwrap_or c.recency_of-recency.result None) c.self.inside.settings.idle c.args.moment c.recency_of-recency.ensures c.self.inside.series.histograms c.retain_histograms.new.self.histograms
    (retains_counted (unwrap_or c.recency_of-recency.result None) c.args.moment _ (λ f. f ≡ (c.recency_of-recency.result, c.args.moment))
    (λ f id cell b left f' is called. (
      (λ j. (called.met.1.0.0 j, called.met.1.0.1 j)) ∙ is,
      subst (λ (h : Option (Option Idle) × ℕ). IsCounted (unwrap_or h.0 None) h.1 cell.now b left.now) is called.met.1.1,
    )) _ _ _ _ refl c.retain_histograms.ensures.retained.1)) c.retain_histograms.ensures.others
