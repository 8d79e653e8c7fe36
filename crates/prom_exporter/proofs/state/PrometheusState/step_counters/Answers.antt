use Rattle.std.proofs.Common.{◌≡◌, ℕ, ◌≤◌, length, Option, None, refl, sym, ap, subst, ◌∙◌, arith}
use Rattle.std.specs.Prelude.{unwrap_or}
use Rattle.metrics_core.specs.declared.kinds.MetricKind.TheVariants.{Counter}
use Rattle.metrics_registry.specs.Recency.{Idle}
use Rattle.prom_format.specs.LabelSets.{labels_of}
use Rattle.prom_exporter.specs.Builder.{with_globals}
use Rattle.prom_exporter.specs.Exporter.{Cells}
use Rattle.prom_exporter.specs.Kept.{HaveKinds}
use Rattle.prom_exporter.specs.Rows.{keys_of}
use Rattle.prom_exporter.specs.Stepped.{IsNoted, AreNoted}
use Rattle.prom_exporter.proofs.KeptRows.{kept_same}
use Rattle.prom_exporter.proofs.Stepping.{noted_keys, noted_under, retains_noted}
use Rattle.prom_exporter.proofs.state.PrometheusState.step_counters.Goals as goal

pub returns-then-counter_count-count-clause-noted : goal.returns-then-counter_count-count-clause-noted
returns-then-counter_count-count-clause-noted c = rw (← c.self.view_is) (noted_under (unwrap_or c.recency_of-recency.result None) c.self.inside.settings.idle c.args.moment Counter c.recency_of-recency.ensures c.self.inside.series.counters c.retain_counters.new.self.counters
    (retains_noted (unwrap_or c.recency_of-recency.result None) c.args.moment Counter _ (λ f. f ≡ (c.recency_of-recency.result, c.args.moment))
    (λ f id cell b left f' is called. (
      (λ j. (called.met.1.0.0 j, called.met.1.0.1 j)) ∙ is,
      subst (λ (h : Option (Option Idle) × ℕ). IsNoted (unwrap_or h.0 None) h.1 Counter cell.now b left.now) is called.met.1.1,
    )) _ _ _ _ refl c.retain_counters.ensures.retained.1))

pub returns-else-counter_count-count-clause-noted : goal.returns-else-counter_count-count-clause-noted
returns-else-counter_count-count-clause-noted c = rw (← c.self.view_is) (noted_under (unwrap_or c.recency_of-recency.result None) c.self.inside.settings.idle c.args.moment Counter c.recency_of-recency.ensures c.self.inside.series.counters c.retain_counters.new.self.counters
    (retains_noted (unwrap_or c.recency_of-recency.result None) c.args.moment Counter _ (λ f. f ≡ (c.recency_of-recency.result, c.args.moment))
    (λ f id cell b left f' is called. (
      (λ j. (called.met.1.0.0 j, called.met.1.0.1 j)) ∙ is,
      subst (λ (h : Option (Option Idle) × ℕ). IsNoted (unwrap_or h.0 None) h.1 Counter cell.now b left.now) is called.met.1.1,
    )) _ _ _ _ refl c.retain_counters.ensures.retained.1))

pub invariant_of-self-else-counter_count-count : goal.invariant_of-self-else-counter_count-count
invariant_of-self-else-counter_count-count c =
    let series = c.self.inside.series in
    let now = c.retain_counters.new.self in
    let noted : AreNoted c.self.inside.settings.idle c.args.moment Counter series.counters now.counters = noted_under (unwrap_or c.recency_of-recency.result None) c.self.inside.settings.idle c.args.moment Counter c.recency_of-recency.ensures c.self.inside.series.counters c.retain_counters.new.self.counters
    (retains_noted (unwrap_or c.recency_of-recency.result None) c.args.moment Counter _ (λ f. f ≡ (c.recency_of-recency.result, c.args.moment))
    (λ f id cell b left f' is called. (
      (λ j. (called.met.1.0.0 j, called.met.1.0.1 j)) ∙ is,
      subst (λ (h : Option (Option Idle) × ℕ). IsNoted (unwrap_or h.0 None) h.1 Counter cell.now b left.now) is called.met.1.1,
    )) _ _ _ _ refl c.retain_counters.ensures.retained.1) in
    let past = c.if-counter_count-count.false in
    let many : length series.counters ≤ length now.counters = omega (arith, past, c.counter_count-count.ensures.count, c.counter_count.ensures.count) in
    kept_same _ _ series now _ _ _ c.self.invariant
    (noted_keys c.self.inside.settings.idle c.args.moment Counter series.counters now.counters noted many) (ap (λ (cells : Cells). keys_of cells.gauges) c.retain_counters.ensures.others)
    (ap (λ (cells : Cells). keys_of cells.histograms) c.retain_counters.ensures.others) (subst (HaveKinds (with_globals c.self.inside.settings (labels_of c.self.inside.globals.entries))) (sym (ap (λ (cells : Cells). cells.histograms) c.retain_counters.ensures.others)) c.self.invariant.sampled)
