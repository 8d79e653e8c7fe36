-- What the exporter keeps for its rows stays where a series gets another cell.
use Rattle.std.proofs.Common.{◌≡◌, ℕ, zero, suc, List, [], ◌∷◌, length, take, refl, sym, ap, ◌∙◌, Some}
use Rattle.std.specs.Prelude.{option_map, slice_get}
use Rattle.std.proofs.lemmas.List.Elements.{All-cons, All-head, All-tail}
use Rattle.std.proofs.lemmas.Option.{same_Some}
use Rattle.metrics_core.specs.Keys.{LabelText}
use Rattle.metrics_registry.specs.Live.{LiveSeries}
use Rattle.metrics_registry.specs.Places.{with_cell_at}
use Rattle.distributions.specs.Kinds.{DistributionRules}
use Rattle.prom_format.specs.Names.{sanitized_metric_name}
use Rattle.prom_exporter.specs.Families.{ExporterSettings, distribution_of}
use Rattle.prom_exporter.specs.Rows.{RowsText, rows_of, keys_of}
use Rattle.prom_exporter.specs.Sampled.{Sampled}
use Rattle.prom_exporter.specs.Kept.{KeepsFirst, HaveKinds, IsKept}
use Rattle.prom_exporter.specs.Exporter.{Cells, SharedCounter, SharedGauge}

module _ {X : Type 0} where
  keys_stay : (live : List (LiveSeries X)) (place : ℕ) (cell : X) → keys_of (with_cell_at live place cell) ≡ keys_of live
  keys_stay [] place cell = refl
  keys_stay (s ∷ live) zero cell = refl
  keys_stay (s ∷ live) (suc place) cell = ap (λ l. s.key ∷ l) (keys_stay live place cell)

  first_stays : (globals : List LabelText) (live : List (LiveSeries X)) (place : ℕ) (cell : X) (rows : RowsText) → KeepsFirst globals live rows → KeepsFirst globals (with_cell_at live place cell) rows
  first_stays globals live place cell rows keeps = keeps ∙ ap (λ keys. rows_of globals (take (length rows.label_sets) keys)) (sym (keys_stay live place cell))

module _ (settings : ExporterSettings) where
  abbrev HasKind : LiveSeries Sampled → Type 0
  HasKind series = series.cell.series.kind ≡ distribution_of settings (sanitized_metric_name series.key.name)

  kinds_stay : (live : List (LiveSeries Sampled)) (place : ℕ) (cell new : Sampled) → option_map (λ (s : LiveSeries Sampled). s.cell) (slice_get live place) ≡ Some cell → new.series.kind ≡ cell.series.kind
      → HaveKinds settings live → HaveKinds settings (with_cell_at live place new)
  kinds_stay [] place cell new got same have = have
  kinds_stay (s ∷ live) zero cell new got same have = All-cons HasKind (record s { cell = new }) live
      (same ∙ ap (λ (c : Sampled). c.series.kind) (sym (same_Some s.cell cell got)) ∙ All-head HasKind s live have)
      (All-tail HasKind s live have)
  kinds_stay (s ∷ live) (suc place) cell new got same have = All-cons HasKind s (with_cell_at live place new) (All-head HasKind s live have) (kinds_stay live place cell new got same (All-tail HasKind s live have))

module _ (settings : ExporterSettings) (distributions : DistributionRules) (series : Cells) (counters gauges histograms : RowsText) (kept : IsKept settings distributions series counters gauges histograms) (place : ℕ) where
  pub counter_cell_kept : (cell : SharedCounter) → IsKept settings distributions (record series { counters = with_cell_at series.counters place cell }) counters gauges histograms
  counter_cell_kept cell = record {
    counters = first_stays settings.globals series.counters place cell counters kept.counters;
    gauges = kept.gauges;
    histograms = kept.histograms;
    kinds = kept.kinds;
    sampled = kept.sampled;
  }

  pub gauge_cell_kept : (cell : SharedGauge) → IsKept settings distributions (record series { gauges = with_cell_at series.gauges place cell }) counters gauges histograms
  gauge_cell_kept cell = record {
    counters = kept.counters;
    gauges = first_stays settings.globals series.gauges place cell gauges kept.gauges;
    histograms = kept.histograms;
    kinds = kept.kinds;
    sampled = kept.sampled;
  }

  -- of a histogram, where its kind stays
  pub histogram_cell_kept : (cell new : Sampled) → option_map (λ (s : LiveSeries Sampled). s.cell) (slice_get series.histograms place) ≡ Some cell → new.series.kind ≡ cell.series.kind
      → IsKept settings distributions (record series { histograms = with_cell_at series.histograms place new }) counters gauges histograms
  histogram_cell_kept cell new got same = record {
    counters = kept.counters;
    gauges = kept.gauges;
    histograms = first_stays settings.globals series.histograms place new histograms kept.histograms;
    kinds = kept.kinds;
    sampled = kinds_stay settings series.histograms place cell new got same kept.sampled;
  }
