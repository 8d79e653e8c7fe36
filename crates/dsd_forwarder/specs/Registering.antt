-- What registering and lending a series does, and what is handed out.
use Rattle.std.specs.Prelude.{◌≡◌, ◌⊎◌, ℕ, [], Option, Some, None}
use Rattle.std.specs.Arc.{arc_value}
use Rattle.metrics_core.specs.declared.kinds.MetricKind.{MetricKind}
use Rattle.metrics_core.specs.declared.kinds.MetricKind.TheVariants as kinds
use Rattle.metrics_core.specs.declared.kinds.SeriesId.{SeriesId}
use Rattle.metrics_core.specs.Keys.{KeyText}
use Rattle.legal_history.specs.declared.history.View.{View}
use Rattle.legal_history.specs.History.{first}
use Rattle.flushed_cells.specs.Cells.{IsCounterPass, IsGaugePass}
use Rattle.flushed_cells.specs.Passes as flushed
use Rattle.sample_queue.specs.Passes.{IsSamplePass}
use Rattle.sample_queue.specs.Passes as queued
use Rattle.dsd_exporter.specs.declared.lent.Lent.{Lent}
use Rattle.dsd_exporter.specs.State.{no_series, register, number_given}
use Rattle.dsd_exporter.specs.Exporter.{Exporter, AllHome, AddsCounter, series_seen}
use Rattle.dsd_exporter.specs.Lending.{LentCounterOf, LentGaugeOf, LentHistogramOf}
use Rattle.shared_turns.specs.Passes.{Waits}
use Rattle.shared_flushes.specs.declared.entries.StateEntry.{StateEntry}
use Rattle.shared_flushes.specs.declared.entries.StateEntry.TheVariants.{Register}
use Rattle.shared_flushes.specs.Stands.{During, Makes}

-- ---- a counter, in a state

-- the id that a registration gives
abbrev pub counter_id : KeyText → Exporter → SeriesId
counter_id key exporter = record { kind = kinds.Counter; number = number_given kinds.Counter key exporter.series }

-- A counter was registered: where there was one with an equal key, or no number was left, nothing changed; otherwise a new one, with a cell that nobody has called, went last.
pub record RegistersCounter (key : KeyText) (old new : Exporter) : Type 0 where
  pub registered : series_seen new.series ≡ register kinds.Counter key (series_seen old.series)
  pub cells : (new ≡ old) ⊎ AddsCounter key old new
  pub home : AllHome old → AllHome new

-- ---- what is handed out

-- a series with a pass of its cell, which has made no call
abbrev pub IsHandedCounter : LentCounterOf → Type 0
IsHandedCounter lent = IsCounterPass (arc_value lent.handle) lent.pass × (lent.id.kind ≡ kinds.Counter) × ((flushed.view_of lent.pass).mine ≡ [])

abbrev pub IsHandedGauge : LentGaugeOf → Type 0
IsHandedGauge lent = IsGaugePass (arc_value lent.handle) lent.pass × (lent.id.kind ≡ kinds.Gauge) × ((flushed.view_of lent.pass).mine ≡ [])

abbrev pub IsHandedHistogram : LentHistogramOf → Type 0
IsHandedHistogram lent = IsSamplePass (arc_value lent.handle) lent.pass × (lent.id.kind ≡ kinds.Histogram) × ((queued.view_of lent.pass).mine ≡ [])

-- a series that stands in no state: nobody has called it, and its pass is one of its cell
pub record IsLoneCounter (id : SeriesId) (lent : LentCounterOf) : Type 0 where
  pub id_is : lent.id ≡ id
  pub pass : IsCounterPass (arc_value lent.handle) lent.pass
  pub uncalled : flushed.view_of lent.pass ≡ first

pub record IsLoneGauge (id : SeriesId) (lent : LentGaugeOf) : Type 0 where
  pub id_is : lent.id ≡ id
  pub pass : IsGaugePass (arc_value lent.handle) lent.pass
  pub uncalled : flushed.view_of lent.pass ≡ first

pub record IsLoneHistogram (id : SeriesId) (lent : LentHistogramOf) : Type 0 where
  pub id_is : lent.id ≡ id
  pub pass : IsSamplePass (arc_value lent.handle) lent.pass
  pub uncalled : queued.view_of lent.pass ≡ first

-- ---- with a pass of the state

-- A series of the kind was registered, which is an entry of the pass, and then handed out: what is lent of it, or past 2 ^ 64 - 1 series, where none was made, one that stands in no state.
pub record HandsOut {H P : Type 0} (kind : MetricKind) (Lends : SeriesId → Option (Lent H P) → Exporter → Exporter → Type 0) (IsLone : SeriesId → Lent H P → Type 0) (key : KeyText) (lent : Lent H P) (v w : View StateEntry) : Type 0 where
  pub between : View StateEntry
  pub makes : Makes (Register kind key lent.id.number) v between
  pub hands : During (Lends lent.id (Some lent)) between w ⊎ ((lent.id.number ≡ no_series) × During (Lends lent.id None) between w × IsLone lent.id lent)

-- A refusal: nothing was registered, or the series was and wasn't handed out.
abbrev pub MayRegister : MetricKind → KeyText → View StateEntry → View StateEntry → Type 0
MayRegister kind key v w = Waits v w ⊎ ((number : ℕ) × (between : View StateEntry) × Makes (Register kind key number) v between × Waits between w)
