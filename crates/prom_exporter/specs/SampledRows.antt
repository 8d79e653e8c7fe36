-- The lines that are written of histograms: the rows of each, and the block of each family.
use Rattle.std.specs.Prelude.{◌≡◌, ℕ, List, [], ◌++◌, flat_map, slice_get, Option, Some, None, codes}
use Rattle.metrics_core.specs.Characters.{line}
use Rattle.metrics_core.specs.Keys.{LabelText}
use Rattle.metrics_registry.specs.Live.{LiveSeries}
use Rattle.prom_format.specs.Lines.{shown_label_set}
use Rattle.prom_format.specs.Pages.{Row, row_text}
use Rattle.distributions.specs.Kinds.{DistributionKind, NativeHistogram, Histogram, Summary, DistributionRules, kind_for}
use Rattle.histogram_series.specs.Series.{recorded}
use Rattle.histogram_series.specs.Rows.{recorded_rows}
use Rattle.distribution_rows.specs.Series.{series_row}
use Rattle.prom_exporter.specs.Naming.{NamingText, shown_name, title_text}
use Rattle.prom_exporter.specs.Rows.{RowsText, rows_of, keys_of}
use Rattle.prom_exporter.specs.Sampled.{Sampled}

-- the rows that a histogram shows at a moment, in a family of this name, with these labels: those of what is recorded
abbrev pub sampled_rows : ℕ → List ℕ → List LabelText → Sampled → List Row
sampled_rows t name labels s = recorded_rows (series_row name labels) t s.series.kind (recorded s.series)

-- the word for the type of a family; native histograms have none
abbrev pub shown_word : DistributionKind → Option (List ℕ)
shown_word (NativeHistogram config) = None
shown_word (Histogram bounds) = Some (codes "histogram")
shown_word (Summary summary) = Some (codes "summary")

module _ (globals : List LabelText) (t : ℕ) (live : List (LiveSeries Sampled)) where
  -- the lines, in a family of this name, of the histogram at a place, if there is one
  abbrev pub lines_if : List ℕ → Option (LiveSeries Sampled) → List ℕ
  lines_if name None = []
  lines_if name (Some series) = flat_map row_text (sampled_rows t name (shown_label_set globals series.key.labels) series.cell)

  abbrev pub lines_at : List ℕ → ℕ → List ℕ
  lines_at name place = lines_if name (slice_get live place)

module _ (naming : NamingText) (globals : List LabelText) (t : ℕ) (live : List (LiveSeries Sampled)) where
  -- the block of a family, a metric name with the places of its series, under a word; none without a word
  abbrev pub block_under : Option (List ℕ) → List ℕ × List ℕ → List ℕ
  block_under None family = []
  block_under (Some word) family =
      title_text naming None word family.0 ++ flat_map (lines_at globals t live (shown_name naming None family.0)) family.1 ++ line []

  abbrev pub sampled_block : DistributionRules → List ℕ × List ℕ → List ℕ
  sampled_block distributions family = block_under (shown_word (kind_for distributions family.0)) family

-- what is kept for the rows of histograms is what they want
abbrev pub HasRowsOf : List LabelText → List (LiveSeries Sampled) → RowsText → Type 0
HasRowsOf globals live rows = rows ≡ rows_of globals (keys_of live)
