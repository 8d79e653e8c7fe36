-- All kinds that are flushed, one after the other.
use Rattle.std.proofs.Common.{◌≡◌, ℕ, Bool, List, [], ◌++◌, Option, sym, ap, subst, ◌∙◌}
use Rattle.std.proofs.lemmas.List.{append-nil}
use Rattle.metrics_core.specs.declared.numbers.Fixed.{Fixed as FixedOf}
use Rattle.metrics_core.specs.Words.{Draws}
use Rattle.flushed_cells.specs.declared.counter_state.CounterState.{CounterState}
use Rattle.flushed_cells.specs.declared.gauge_state.GaugeState.{GaugeState}
use Rattle.dsd_writer.specs.Writers.{WriterText}
use Rattle.dsd_exporter.specs.State.{items_of_counters, items_of_gauges, items_of_histograms}
use Rattle.dsd_exporter.specs.Updates.{UpdateText}
use Rattle.dsd_exporter.specs.Exporter.{Exporter}
use Rattle.dsd_exporter.specs.Flushing.{AreTaken, Unchanged, MaybeDrained, TakesCounter, TakesGauge, Sends, with_found, CountersFlushed, GaugesFlushed, HistogramsFlushed, Found, Flushes, IsInOrder}
use Rattle.dsd_exporter.proofs.Sent.{sends_then}

abbrev pub found_so : List CounterState → List GaugeState → List (List FixedOf) → List ℕ → List ℕ → Found
found_so counters gauges histograms words others = record { counters = counters; gauges = gauges; histograms = histograms; words = words; others = others }

module _ (moment : ℕ) (old a b c : Exporter) (marks noted : List Bool) (w x y z : WriterText) (u n m r : UpdateText) (to_come left : Option (ℕ → ℕ))
    (counters : List CounterState) (gauges : List GaugeState) (histograms : List (List FixedOf)) (words others : List ℕ) where
  pub flushed_all : CountersFlushed old.settings moment counters old a marks noted w x u n → GaugesFlushed a.settings moment gauges a b x y n m → HistogramsFlushed b.settings MaybeDrained histograms words b c y z m r
      → Draws to_come (words ++ others) left → IsInOrder (found_so counters gauges histograms words others) old
      → Flushes moment (found_so counters gauges histograms words others) old c marks noted w z u r to_come left
  flushed_all counted gauged sampled drawn ordered =
      let behind : Exporter = record old { series = record old.series { counters = a.series.counters } } in
      let second = subst (λ e. GaugesFlushed e.settings moment gauges e b x y n m) counted.others gauged in
      let last : Exporter = record behind { series = record behind.series { gauges = b.series.gauges } } in
      let third = subst (λ e. HistogramsFlushed e.settings MaybeDrained histograms words e c y z m r) second.others sampled in
      let same_counters : c.series.counters ≡ a.series.counters = ap (λ (e : Exporter). e.series.counters) third.others in
      let same_gauges : c.series.gauges ≡ b.series.gauges = ap (λ (e : Exporter). e.series.gauges) third.others in
      let one = items_of_counters old.settings w.global_tags moment marks (with_found old.series.counters counters) in
      let two = items_of_gauges old.settings w.global_tags moment (with_found old.series.gauges gauges) in
      let three = items_of_histograms old.settings w.global_tags moment words (with_found old.series.histograms histograms) in
      let tags : x.global_tags ≡ w.global_tags = counted.sends.settings.same_tags in
      let sends_two : Sends two x y n m = subst (λ t. Sends (items_of_gauges old.settings t moment (with_found old.series.gauges gauges)) x y n m) tags second.sends in
      let sends_three : Sends three y z m r =
      subst (λ t. Sends (items_of_histograms old.settings t moment words (with_found old.series.histograms histograms)) y z m r) (second.sends.settings.same_tags ∙ tags)
      (subst (λ l. Sends (items_of_histograms old.settings y.global_tags moment l (with_found old.series.histograms histograms)) y z m r) (append-nil words) (third.sends moment [])) in
      record {
        counters = subst (AreTaken Unchanged TakesCounter old.series.counters counters) (sym same_counters) counted.taken;
        gauges = subst (AreTaken Unchanged TakesGauge old.series.gauges gauges) (sym same_gauges) second.taken;
        histograms = third.taken;
        rest = third.others ∙ (λ j. record old { series = record old.series { counters = sym same_counters j; gauges = sym same_gauges j; histograms = c.series.histograms } });
        in_order = ordered;
        marked = counted.marked;
        sends = sends_then (one ++ two) three w y z u m r (sends_then one two w x y u n m counted.sends sends_two) sends_three;
        drawn = drawn;
        many = third.many;
      }
