-- What a page at a moment makes of the series that the exporter keeps: it drains the histograms, looks on of each other series, notes how many updates each
-- has, and removes those that are idle.
use Rattle.std.specs.Prelude.{◌≡◌, ℕ, Bool, List, [], ◌∷◌, cond, Option, None, is_some, unwrap_or}
use Rattle.std.specs.List.{AllZip}
use Rattle.legal_history.specs.History.{calls}
use Rattle.metrics_core.specs.declared.kinds.MetricKind.{MetricKind}
use Rattle.metrics_core.specs.declared.kinds.MetricKind.TheVariants as kinds
use Rattle.metrics_registry.specs.Live.{LiveSeries}
use Rattle.metrics_registry.specs.Recency.{Idle, note_left}
use Rattle.sample_queue.specs.Queues.{FoundEmpty, pushed}
use Rattle.histogram_series.specs.Entries.{queued}
use Rattle.histogram_series.specs.Series.{entries, recorded}
use Rattle.histogram_series.specs.Drains.{Drains, Grows}
use Rattle.prom_exporter.specs.Shared.{Shared, Counts}
use Rattle.prom_exporter.specs.Sampled.{Sampled, IsAtRest, updates_of}
use Rattle.metric_descriptions.specs.Descriptions.{publish}
use Rattle.prom_exporter.specs.Exporter.{Exporter}

module _ (idle : Option Idle) (moment : ℕ) (kind : MetricKind) {F : Type 0} where
  -- The exporter has counted the updates of a cell and then looked on: whether the cell stays, and with which note. All calls that it saw when it counted are in the count
  -- but one at most of each pass that is out, so a cell of which it has seen so many more than it had noted stays.
  pub record IsNoted (s : Shared F) (stays : Bool) (t : Shared F) : Type 0 where
    pub seen : Shared F
    pub count : ℕ
    pub counts : Counts s count seen
    pub stays_is : stays ≡ is_some (note_left idle kind seen.note count moment)
    pub left : t ≡ record seen { note = unwrap_or (note_left idle kind seen.note count moment) seen.note }

  -- so with each series: one that stays keeps its number, its key and its place, and one that goes is gone whole
  abbrev pub AreNoted : List (LiveSeries (Shared F)) → List (LiveSeries (Shared F)) → Type 0
  AreNoted [] new = new ≡ []
  AreNoted (s ∷ old) new =
      (stays : Bool) × (cell : Shared F) × (rest : List (LiveSeries (Shared F)))
      × IsNoted s.cell stays cell × AreNoted old rest × (new ≡ cond stays (record s { cell = cell } ∷ rest) rest)

-- ---- histograms

-- A histogram was drained, maybe in part: each sample stands where it stood or further on, once and in the same order, and where no pass is out
-- there are no others.
pub record DrainsInPart (s t : Sampled) : Type 0 where
  pub drains : Drains s.series t.series
  pub grows : Grows s.series.root t.series.root
  pub same_entries : IsAtRest s → entries t.series ≡ entries s.series
  pub note : t.note ≡ s.note

-- It was drained until its queue was empty at a moment: all that the exporter has seen pushed is recorded then. Where no pass is out that is all there is.
pub record DrainsWhole (s t : Sampled) : Type 0 where
  pub in_part : DrainsInPart s t
  pub none_waits : t.series.stray ≡ None
  pub found_empty : FoundEmpty t.series.root
  pub all_seen : recorded t.series ≡ pushed (calls t.series.root.seen)
  pub emptied : queued t.series.root ≡ []
  pub all_recorded : IsAtRest s → recorded t.series ≡ entries s.series

-- each histogram keeps its number, its key and its place, and its cell changes so
abbrev pub AreDrained : (Sampled → Sampled → Type 0) → List (LiveSeries Sampled) → List (LiveSeries Sampled) → Type 0
AreDrained changes old new = AllZip (λ s t. (t.id ≡ s.id) × (t.key ≡ s.key) × changes s.cell t.cell) old new

module _ (idle : Option Idle) (moment : ℕ) where
  -- the updates of a histogram were counted: whether it stays, and with which note
  pub record IsCounted (s : Sampled) (stays : Bool) (t : Sampled) : Type 0 where
    pub stays_is : stays ≡ is_some (note_left idle kinds.Histogram s.note (updates_of s) moment)
    pub left : t ≡ record s { note = unwrap_or (note_left idle kinds.Histogram s.note (updates_of s) moment) s.note }

  -- so with each histogram
  abbrev pub AreCounted : List (LiveSeries Sampled) → List (LiveSeries Sampled) → Type 0
  AreCounted [] new = new ≡ []
  AreCounted (s ∷ old) new =
      (stays : Bool) × (cell : Sampled) × (rest : List (LiveSeries Sampled))
      × IsCounted s.cell stays cell × AreCounted old rest × (new ≡ cond stays (record s { cell = cell } ∷ rest) rest)

-- ---- the exporter

-- the histograms were drained, each so, and nothing else changed
abbrev pub DrainsEach : (Sampled → Sampled → Type 0) → Exporter → Exporter → Type 0
DrainsEach changes old new =
    AreDrained changes old.series.histograms new.series.histograms
    × (new ≡ record old { series = record old.series { histograms = new.series.histograms } })

-- the histograms were drained whole, and what waited was published
abbrev pub KeepsUp : Exporter → Exporter → Type 0
KeepsUp old new =
    AreDrained DrainsWhole old.series.histograms new.series.histograms
    × (new ≡ record old { series = record old.series { histograms = new.series.histograms }; said = publish old.said })

-- the page step at a moment was made of an exporter: all histograms were drained first, and what waited was published
pub record Steps (moment : ℕ) (old new : Exporter) : Type 0 where
  pub settings : new.settings ≡ old.settings
  pub counters : AreNoted old.settings.idle moment kinds.Counter old.series.counters new.series.counters
  pub gauges : AreNoted old.settings.idle moment kinds.Gauge old.series.gauges new.series.gauges
  pub drained : List (LiveSeries Sampled)
  pub drains : AreDrained DrainsWhole old.series.histograms drained
  pub histograms : AreCounted old.settings.idle moment drained new.series.histograms
  pub made : new.series.made ≡ old.series.made
  pub said : new.said ≡ publish old.said
  pub redirected : new.redirected ≡ old.redirected
