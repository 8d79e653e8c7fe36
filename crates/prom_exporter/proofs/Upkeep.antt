-- An exporter whose histograms change: what it keeps stays right.
use Rattle.std.proofs.Common.{◌≡◌, ℕ, ◌+◌, ◌≤◌, List, [], ◌∷◌, ◌++◌, length, Option, Some, refl, sym, ap, subst, ◌∙◌}
use Rattle.std.proofs.lemmas.List.Elements.{All-nil, All-cons, All-append}
use Rattle.metrics_core.specs.Keys.{KeyText}
use Rattle.metrics_core.specs.declared.kinds.SeriesId.{SeriesId}
use Rattle.metrics_registry.specs.Live.{LiveSeries, cell_of, with_cell, IsNumbered}
use Rattle.metrics_registry.specs.Recency.{Idle}
use Rattle.distributions.specs.Kinds.{DistributionRules}
use Rattle.prom_format.specs.LabelSets.{labels_of}
use Rattle.prom_format.specs.Names.{sanitized_metric_name}
use Rattle.prom_exporter.specs.declared.state.PrometheusState.TheInside.{Inside}
use Rattle.prom_exporter.specs.contracts.state.PrometheusState.{the_view}
use Rattle.prom_exporter.specs.Builder.{with_globals}
use Rattle.prom_exporter.specs.Exporter.{Exporter, Cells}
use Rattle.prom_exporter.specs.Families.{ExporterSettings, distribution_of}
use Rattle.prom_exporter.specs.Kept.{IsKept}
use Rattle.prom_exporter.specs.Rows.{RowsText, keys_of}
use Rattle.prom_exporter.specs.Sampled.{Sampled, unsampled}
use Rattle.prom_exporter.specs.Stepped.{DrainsInPart, AreDrained, DrainsEach, AreCounted}
use Rattle.prom_exporter.proofs.KeptRows.{first_longer, first_same, keys-with_cell, kept_same}
use Rattle.prom_exporter.proofs.States.{all-with_cell}
use Rattle.prom_exporter.proofs.Seen.{of_histograms}
use Rattle.prom_exporter.proofs.Drained.{drained-keys, drained-kinds}
use Rattle.prom_exporter.proofs.Counted.{counted_keys, counted-kinds}

-- an exporter, as it is stored, keeps what it is to keep
abbrev pub KeepsAll : Inside → Type 0
KeepsAll inside =
    IsKept (with_globals inside.settings (labels_of inside.globals.entries)) inside.distributions inside.series inside.counter_rows inside.gauge_rows inside.histogram_rows

-- the exporter with other histograms
abbrev pub with_histograms : Inside → List (LiveSeries Sampled) → Inside
with_histograms inside histograms = record inside { series = record inside.series { histograms = histograms } }

pub upkeep_kept : (old now : Inside) (es : List (LiveSeries Sampled)) → now ≡ with_histograms old es → AreDrained DrainsInPart old.series.histograms es → KeepsAll old → KeepsAll now
upkeep_kept old now es is drained kept =
    subst KeepsAll (sym is) (kept_same _ _ old.series (record old.series { histograms = es }) _ _ _ kept refl refl
    (drained-keys DrainsInPart old.series.histograms es drained) (drained-kinds (with_globals old.settings (labels_of old.globals.entries)) old.series.histograms es drained kept.sampled))

pub upkeep_each : (changes : Sampled → Sampled → Type 0) (exporter : Exporter) (old now : Inside) (es : List (LiveSeries Sampled)) → the_view old ≡ exporter → now ≡ with_histograms old es
    → AreDrained changes old.series.histograms es → DrainsEach changes exporter (the_view now)
upkeep_each changes exporter old now es view is drained = rw (← view, is) (drained, refl)

-- ---- one histogram

module _ (settings : ExporterSettings) (distributions : DistributionRules) (old : Cells) (counters gauges histograms : RowsText) (kept : IsKept settings distributions old counters gauges histograms) where
  -- one was put back that is of the kind that it was of
  pub kept-with_cell : (id : SeriesId) (cell left : Sampled) → IsNumbered old → cell_of id old.histograms ≡ Some cell → left.series.kind ≡ cell.series.kind
      → IsKept settings distributions (record old { histograms = with_cell id old.histograms left }) counters gauges histograms
  kept-with_cell id cell left numbered found kind =
      kept_same settings distributions old (record old { histograms = with_cell id old.histograms left }) counters gauges histograms kept refl refl (keys-with_cell id old.histograms left)
      (all-with_cell (λ s. s.cell.series.kind ≡ distribution_of settings (sanitized_metric_name s.key.name)) id old.histograms old.made cell left numbered.histograms.0
      (of_histograms id cell old.histograms old.made numbered.histograms.1 found) found
      (λ s here own. kind ∙ ap (λ (c : Sampled). c.series.kind) (sym here) ∙ own) kept.sampled)

  -- one was made, of the kind that follows from its name
  pub kept-added : (now : Cells) (id : SeriesId) (key : KeyText) (cell : Sampled) → now ≡ record old { histograms = old.histograms ++ record { id = id; key = key; cell = cell } ∷ []; made = old.made + 1 }
      → cell.series.kind ≡ distribution_of settings (sanitized_metric_name key.name) → IsKept settings distributions now counters gauges histograms
  kept-added now id key cell added kind =
      let new : LiveSeries Sampled = record { id = id; key = key; cell = cell } in
      subst (λ (cells : Cells). IsKept settings distributions cells counters gauges histograms) (sym added) (record {
        counters = kept.counters;
        gauges = kept.gauges;
        histograms = first_longer settings.globals old.histograms new histograms kept.histograms;
        kinds = kept.kinds;
        sampled = All-append (λ (s : LiveSeries Sampled). s.cell.series.kind ≡ distribution_of settings (sanitized_metric_name s.key.name)) old.histograms (new ∷ []) kept.sampled
            (All-cons (λ (s : LiveSeries Sampled). s.cell.series.kind ≡ distribution_of settings (sanitized_metric_name s.key.name)) new [] kind (All-nil _));
      })

  -- their updates were counted, and all stayed
  pub kept-counted : (now : Cells) (idle : Option Idle) (moment : ℕ) → AreCounted idle moment old.histograms now.histograms → length old.histograms ≤ length now.histograms
      → now ≡ record old { histograms = now.histograms } → IsKept settings distributions now counters gauges histograms
  kept-counted now idle moment counted many others =
      kept_same settings distributions old now counters gauges histograms kept
      (ap (λ (cells : Cells). keys_of cells.counters) others) (ap (λ (cells : Cells). keys_of cells.gauges) others)
      (counted_keys idle moment old.histograms now.histograms counted many)
      (counted-kinds idle moment settings old.histograms now.histograms counted kept.sampled)

  -- their updates were counted, and what is kept of their rows was let go
  pub kept-emptied : (now : Cells) (idle : Option Idle) (moment : ℕ) (rows : RowsText) → rows ≡ record { label_sets = []; families = [] } → AreCounted idle moment old.histograms now.histograms
      → now ≡ record old { histograms = now.histograms } → IsKept settings distributions now counters gauges rows
  kept-emptied now idle moment rows empty counted others = record {
    counters = first_same settings.globals old.counters now.counters counters kept.counters (ap (λ (cells : Cells). keys_of cells.counters) others);
    gauges = first_same settings.globals old.gauges now.gauges gauges kept.gauges (ap (λ (cells : Cells). keys_of cells.gauges) others);
    histograms = rw empty refl;
    kinds = kept.kinds;
    sampled = counted-kinds idle moment settings old.histograms now.histograms counted kept.sampled;
  }

-- a new histogram is of the kind that follows from its name, by the settings that an exporter has
pub made_by : (exporter old : Exporter) (cell : Sampled) (name : List ℕ) → old ≡ exporter
    → cell ≡ unsampled (distribution_of exporter.settings name) cell.series.cell → cell ≡ unsampled (distribution_of old.settings name) cell.series.cell
made_by exporter old cell name is made = made ∙ ap (λ (e : Exporter). unsampled (distribution_of e.settings name) cell.series.cell) (sym is)
