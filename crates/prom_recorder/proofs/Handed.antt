-- What is lent is the handle of a cell, with a pass of this cell that has made no call; and registering a series with a pass and then lending it hands it out.
use Rattle.std.proofs.Common.{◌≡◌, ◌⊎◌, ◌∙◌, ℕ, List, [], ◌∷◌, ◌++◌, Option, Some, None, refl, sym, ap, subst, inl, inr}
use Rattle.std.specs.Prelude.{Result, Ok, Err, OnErr}
use Rattle.legal_history.specs.declared.history.Entry.{Entry}
use Rattle.legal_history.specs.declared.history.View.{View}
use Rattle.legal_history.specs.History.{entry, first, said}
use Rattle.metrics_core.specs.declared.kinds.SeriesId.{SeriesId}
use Rattle.metrics_core.specs.declared.kinds.MetricKind.{MetricKind}
use Rattle.metrics_core.specs.declared.kinds.MetricKind.TheVariants as kinds
use Rattle.metrics_facade.specs.Handles.{Fits}
use Rattle.series_cells.specs.declared.counter.PromCounter.{PromCounter}
use Rattle.series_cells.specs.declared.gauge.PromGauge.{PromGauge}
use Rattle.series_cells.specs.declared.pass.CellPass.{CellPass}
use Rattle.series_cells.specs.Pass.{IsCounterPass, IsGaugePass}
use Rattle.sample_queue.specs.Passes.{IsSamplePass}
use Rattle.histogram_series.specs.Entries.{TimedQueue}
use Rattle.metrics_core.specs.Keys.{KeyText}
use Rattle.prom_exporter.specs.declared.lent.Lent.{Lent}
use Rattle.prom_exporter.specs.State.{no_series}
use Rattle.prom_exporter.specs.Exporter.{Exporter}
use Rattle.prom_exporter.specs.Lending.{TimedPass, LendsCounter, LendsGauge, LendsHistogram}
use Rattle.shared_turns.specs.Passes.{Waits}
use Rattle.shared_recorder.specs.declared.entries.RecorderEntry.{RecorderEntry}
use Rattle.shared_recorder.specs.declared.entries.RecorderEntry.TheVariants.{Built, Register}
use Rattle.shared_recorder.specs.Setup.{Called}
use Rattle.shared_recorder.specs.Stands.{Makes, KnowsBuilt}
use Rattle.shared_recorder.specs.Lending.{Lends, IsOwn}
use Rattle.prom_recorder.specs.Handing.{CounterLent, GaugeLent, HistogramLent, IsHandedCounter, IsHandedGauge, IsHandedHistogram, IsNewCounter, IsNewGauge, IsNewHistogram, HandsSeries, HandsSpare}

counter_fits : (handle : Option PromCounter) (cell : PromCounter) (pass : CellPass) → handle ≡ Some cell → IsCounterPass cell pass → Fits IsCounterPass handle pass
counter_fits handle cell pass is fits = subst (λ h. Fits IsCounterPass h pass) (sym is) fits

pub lent_counter : (id : SeriesId) (lent : CounterLent) (old new : Exporter) → id.kind ≡ kinds.Counter → LendsCounter id (Some lent) old new → IsHandedCounter lent
lent_counter id lent old new kind lends =
    let it = lends.3.0 in
    record {
      cell = it.made;
      root = lends.0.root;
      kind = ap (λ (i : SeriesId). i.kind) it.id_is ∙ kind;
      handle = it.handle;
      fits = counter_fits lent.handle it.made lent.pass it.handle it.pass;
      knows = it.knows;
    }

pub new_counter : (id : SeriesId) (lent : CounterLent) → id.kind ≡ kinds.Counter → IsNewCounter id lent → IsHandedCounter lent
new_counter id lent kind it = record {
  cell = it.cell;
  root = first;
  kind = ap (λ (i : SeriesId). i.kind) it.id_is ∙ kind;
  handle = it.handle;
  fits = counter_fits lent.handle it.cell lent.pass it.handle it.pass;
  knows = it.knows;
}

gauge_fits : (handle : Option PromGauge) (cell : PromGauge) (pass : CellPass) → handle ≡ Some cell → IsGaugePass cell pass → Fits IsGaugePass handle pass
gauge_fits handle cell pass is fits = subst (λ h. Fits IsGaugePass h pass) (sym is) fits

pub lent_gauge : (id : SeriesId) (lent : GaugeLent) (old new : Exporter) → id.kind ≡ kinds.Gauge → LendsGauge id (Some lent) old new → IsHandedGauge lent
lent_gauge id lent old new kind lends =
    let it = lends.3.0 in
    record {
      cell = it.made;
      root = lends.0.root;
      kind = ap (λ (i : SeriesId). i.kind) it.id_is ∙ kind;
      handle = it.handle;
      fits = gauge_fits lent.handle it.made lent.pass it.handle it.pass;
      knows = it.knows;
    }

pub new_gauge : (id : SeriesId) (lent : GaugeLent) → id.kind ≡ kinds.Gauge → IsNewGauge id lent → IsHandedGauge lent
new_gauge id lent kind it = record {
  cell = it.cell;
  root = first;
  kind = ap (λ (i : SeriesId). i.kind) it.id_is ∙ kind;
  handle = it.handle;
  fits = gauge_fits lent.handle it.cell lent.pass it.handle it.pass;
  knows = it.knows;
}

histogram_fits : (handle : Option TimedQueue) (cell : TimedQueue) (pass : TimedPass) → handle ≡ Some cell → IsSamplePass cell pass → Fits IsSamplePass handle pass
histogram_fits handle cell pass is fits = subst (λ h. Fits IsSamplePass h pass) (sym is) fits

pub lent_histogram : (id : SeriesId) (lent : HistogramLent) (old new : Exporter) → id.kind ≡ kinds.Histogram → LendsHistogram id (Some lent) old new → IsHandedHistogram lent
lent_histogram id lent old new kind lends =
    let it = lends.3.0 in
    record {
      queue = lends.0.series.cell;
      root = lends.0.series.root;
      kind = ap (λ (i : SeriesId). i.kind) it.id_is ∙ kind;
      handle = it.handle;
      fits = histogram_fits lent.handle lends.0.series.cell lent.pass it.handle it.pass;
      knows = it.knows;
    }

pub new_histogram : (id : SeriesId) (lent : HistogramLent) → id.kind ≡ kinds.Histogram → IsNewHistogram id lent → IsHandedHistogram lent
new_histogram id lent kind it = record {
  queue = it.queue;
  root = first;
  kind = ap (λ (i : SeriesId). i.kind) it.id_is ∙ kind;
  handle = it.handle;
  fits = histogram_fits lent.handle it.queue lent.pass it.handle it.pass;
  knows = it.knows;
}

-- what holds in any case holds after a refusal
pub on_any_err : {T E P : Type 0} (r : Result T E) → P → OnErr r P
on_any_err (Ok _) p = tt
on_any_err (Err _) p = p

-- ---- the history

module _ {H P : Type 0} (kind : MetricKind) (lends : SeriesId → Option (Lent H P) → Exporter → Exporter → Type 0) (key : KeyText) (v between w : View RecorderEntry) (id : SeriesId) where
  pub hands_series : (found : Option (Lent H P)) (lent : Lent H P) → lent.id ≡ id → Makes (Register kind key id.number) v between → Lends (lends id found) between w → found ≡ Some lent → HandsSeries kind lends key lent v w
  hands_series found lent is makes lent_to some = (
    between,
    subst (λ (i : SeriesId). Makes (Register kind key i.number) v between) (sym is) makes,
    subst (λ (i : SeriesId). Lends (lends i (Some lent)) between w) (sym is) (subst (λ o. Lends (lends id o) between w) some lent_to),
  )

  pub hands_spare : (is_new : SeriesId → Lent H P → Type 0) (found : Option (Lent H P)) (lent : Lent H P) → lent.id ≡ id → Makes (Register kind key id.number) v between → Lends (lends id found) between w → found ≡ None → is_new id lent
      → HandsSpare kind lends is_new key lent v w
  hands_spare is_new found lent is makes none_lent none new = (
    between,
    subst (λ (i : SeriesId). Makes (Register kind key i.number) v between) (sym is) makes,
    subst (λ (i : SeriesId). Lends (lends i None) between w) (sym is) (subst (λ o. Lends (lends id o) between w) none none_lent),
    subst (λ (i : SeriesId). is_new i lent) (sym is) new,
  )

-- a lending tells what the pass has then seen, whatever was lent
pub lends_waits : (lends : Exporter → Exporter → Type 0) (v w : View RecorderEntry) → Lends lends v w → Waits v w
lends_waits lends v w l = (l.0, l.3, l.7)

pub called_last : (c : RecorderEntry) (cs : List RecorderEntry) → Called c (cs ++ c ∷ [])
called_last c [] = inl refl
called_last c (d ∷ ds) = inr (called_last c ds)

-- a registration that was just made is the pass's own
pub is_own : (kind : MetricKind) (key : KeyText) (id : SeriesId) (v between : View RecorderEntry) (built : Exporter) → id.kind ≡ kind → Makes (Register kind key id.number) v between → KnowsBuilt built v
    → built.settings.idle ≡ None → ¬ (id.number ≡ no_series) → IsOwn kind id between
is_own kind key id v between built kind_is m knows never few =
    let entry_is = Register kind key id.number in
    let begins = m.4.begins in
    let behind = said v.number (entry_is ∷ []) in
    let whole : m.0 ≡ entry 0 (Built built) ∷ (knows.0 ++ begins.0) = sym begins.1 ∙ ap (λ (l : List (Entry RecorderEntry)). l ++ begins.0) knows.1 in (
      built,
      ((knows.0 ++ begins.0) ++ behind, ap (λ (u : View RecorderEntry). u.seen) m.7 ∙ ap (λ (l : List (Entry RecorderEntry)). l ++ behind) whole),
      never,
      kind_is,
      key,
      subst (λ (u : View RecorderEntry). Called entry_is u.mine) (sym m.7) (called_last entry_is v.mine),
      few,
    )
