-- What is handed out of a series that was registered, and what is held of it.
use Rattle.std.proofs.Common.{◌≡◌, ◌⊎◌, ap, sym, subst, inl, inr, ◌∙◌}
use Rattle.std.specs.Prelude.{Option, Some, None, Result, Ok, Err, OnErr}
use Rattle.std.specs.Arc.{arc_value}
use mathlib.Core.Logic.{dite}
use native.Mathlib.Decide.{ℕ_discrete}
use Rattle.metrics_core.specs.declared.kinds.MetricKind.{MetricKind}
use Rattle.metrics_core.specs.declared.kinds.MetricKind.TheVariants as kinds
use Rattle.metrics_core.specs.declared.kinds.SeriesId.{SeriesId}
use Rattle.metrics_core.specs.Keys.{KeyText}
use Rattle.legal_history.specs.declared.history.View.{View}
use Rattle.flushed_cells.specs.Passes as flushed
use Rattle.sample_queue.specs.Passes.{IsSamplePass}
use Rattle.dsd_exporter.specs.declared.lent.Lent.{Lent}
use Rattle.dsd_exporter.specs.State.{no_series}
use Rattle.dsd_exporter.specs.Exporter.{Exporter}
use Rattle.dsd_exporter.specs.Lending.{LentCounterOf, LentGaugeOf, LentHistogramOf, LendsCounter, LendsGauge, LendsHistogram}
use Rattle.shared_turns.specs.Passes.{Waits}
use Rattle.shared_flushes.specs.declared.entries.StateEntry.{StateEntry}
use Rattle.shared_flushes.specs.declared.entries.StateEntry.TheVariants.{Register}
use Rattle.shared_flushes.specs.Registrations.{Called}
use Rattle.shared_flushes.specs.Stands.{During, IsOwn, Makes}
use Rattle.shared_flushes.proofs.Named.{called_last}
use Rattle.dsd_forwarder.specs.Held.{CounterLease}
use Rattle.dsd_forwarder.specs.Registering.{HandsOut, IsHandedCounter, IsHandedGauge, IsHandedHistogram, IsLoneCounter, IsLoneGauge, IsLoneHistogram, RegistersCounter}
use Rattle.dsd_forwarder.specs.Telemetry.{Holds}

pub on_err : {A E : Type 0} (r : Result A E) (X : Type 0) → X → OnErr r X
on_err (Ok a) X x = tt
on_err (Err e) X x = x

-- ---- in a turn

pub during_map : (Does Did : Exporter → Exporter → Type 0) (v w : View StateEntry) → ((x y : Exporter) → Does x y → Did x y) → During Does v w → During Did v w
during_map Does Did v w f d = (d.0, d.1, d.2, d.3, d.4, f d.1 d.2 d.5, d.6, d.7)

-- what was done may be forgotten
pub during_waits : (Does : Exporter → Exporter → Type 0) (v w : View StateEntry) → During Does v w → Waits v w
during_waits Does v w d = (d.0, d.3, d.7)

pub during_same : (Does : Exporter → Exporter → Type 0) (v w : View StateEntry) → During Does v w → w.number ≡ v.number
during_same Does v w d = ap (λ (u : View StateEntry). u.number) d.7

pub waits_same : (v w : View StateEntry) → Waits v w → w.number ≡ v.number
waits_same v w d = ap (λ (u : View StateEntry). u.number) d.2

pub makes_same : (c : StateEntry) (v w : View StateEntry) → Makes c v w → w.number ≡ v.number
makes_same c v w m = ap (λ (u : View StateEntry). u.number) m.7

-- a series that the pass registered itself isn't lent only where no number was left
pub full : (kind : MetricKind) (key : KeyText) (id : SeriesId) (v w : View StateEntry) → id.kind ≡ kind → Makes (Register kind key id.number) v w → (IsOwn kind id w → ⊥) → id.number ≡ no_series
full kind key id v w is makes none = dite (ℕ_discrete id.number no_series)
    (λ (e : id.number ≡ no_series). e)
    (λ (far : ¬ (id.number ≡ no_series)). absurd (none (is, far, (key, subst (Called (Register kind key id.number)) (sym (ap (λ (u : View StateEntry). u.mine) makes.7)) (called_last (Register kind key id.number) v.mine)))))

module _ {H P : Type 0} (kind : MetricKind) (Lends : SeriesId → Option (Lent H P) → Exporter → Exporter → Type 0) (IsLone : SeriesId → Lent H P → Type 0) (key : KeyText) (lent : Lent H P) (id : SeriesId) (v u w : View StateEntry) where
  pub given : lent.id ≡ id → Makes (Register kind key id.number) v u → During (Lends id (Some lent)) u w → HandsOut kind Lends IsLone key lent v w
  given same makes hands = record {
    between = u;
    makes = subst (λ (i : SeriesId). Makes (Register kind key i.number) v u) (sym same) makes;
    hands = inl (subst (λ (i : SeriesId). During (Lends i (Some lent)) u w) (sym same) hands);
  }

  pub lone : lent.id ≡ id → Makes (Register kind key id.number) v u → id.number ≡ no_series → During (Lends id None) u w → IsLone id lent → HandsOut kind Lends IsLone key lent v w
  lone same makes none hands is = record {
    between = u;
    makes = subst (λ (i : SeriesId). Makes (Register kind key i.number) v u) (sym same) makes;
    hands = inr (subst (λ (i : SeriesId). (i.number ≡ no_series) × During (Lends i None) u w × IsLone i lent) (sym same) (none, hands, is));
  }

-- an id of a kind
pub id_is : (kind : MetricKind) (id : SeriesId) → id.kind ≡ kind → id ≡ record { kind = kind; number = id.number }
id_is kind id is = λ j. record { kind = is j; number = id.number }

-- ---- what is handed out

abbrev kind_is : (kind : MetricKind) (a id : SeriesId) → a ≡ id → id.kind ≡ kind → a.kind ≡ kind
kind_is kind a id same is = ap (λ (i : SeriesId). i.kind) same ∙ is

pub counter_id_is : (id : SeriesId) (lent : LentCounterOf) (x y : Exporter) → LendsCounter id (Some lent) x y → lent.id ≡ id
counter_id_is id lent x y lends = lends.3.0.id_is

pub counter_handed : (id : SeriesId) (lent : LentCounterOf) (x y : Exporter) → id.kind ≡ kinds.Counter → LendsCounter id (Some lent) x y → IsHandedCounter lent
counter_handed id lent x y is lends =
    let l = lends.3.0 in
    (l.pass, kind_is kinds.Counter lent.id id l.id_is is, ap (λ v. v.mine) l.knows)

pub counter_lone : (id : SeriesId) (lent : LentCounterOf) → id.kind ≡ kinds.Counter → IsLoneCounter id lent → IsHandedCounter lent
counter_lone id lent is l = (l.pass, kind_is kinds.Counter lent.id id l.id_is is, ap (λ v. v.mine) l.uncalled)

pub gauge_id_is : (id : SeriesId) (lent : LentGaugeOf) (x y : Exporter) → LendsGauge id (Some lent) x y → lent.id ≡ id
gauge_id_is id lent x y lends = lends.3.0.id_is

pub gauge_handed : (id : SeriesId) (lent : LentGaugeOf) (x y : Exporter) → id.kind ≡ kinds.Gauge → LendsGauge id (Some lent) x y → IsHandedGauge lent
gauge_handed id lent x y is lends =
    let l = lends.3.0 in
    (l.pass, kind_is kinds.Gauge lent.id id l.id_is is, ap (λ v. v.mine) l.knows)

pub gauge_lone : (id : SeriesId) (lent : LentGaugeOf) → id.kind ≡ kinds.Gauge → IsLoneGauge id lent → IsHandedGauge lent
gauge_lone id lent is l = (l.pass, kind_is kinds.Gauge lent.id id l.id_is is, ap (λ v. v.mine) l.uncalled)

pub histogram_id_is : (id : SeriesId) (lent : LentHistogramOf) (x y : Exporter) → LendsHistogram id (Some lent) x y → lent.id ≡ id
histogram_id_is id lent x y lends = lends.3.0.id_is

pub histogram_handed : (id : SeriesId) (lent : LentHistogramOf) (x y : Exporter) → id.kind ≡ kinds.Histogram → LendsHistogram id (Some lent) x y → IsHandedHistogram lent
histogram_handed id lent x y is lends =
    let l = lends.3.0 in
    (subst (λ c. IsSamplePass c lent.pass) (sym l.handle) l.pass, kind_is kinds.Histogram lent.id id l.id_is is, ap (λ v. v.mine) l.knows)

pub histogram_lone : (id : SeriesId) (lent : LentHistogramOf) → id.kind ≡ kinds.Histogram → IsLoneHistogram id lent → IsHandedHistogram lent
histogram_lone id lent is l = (l.pass, kind_is kinds.Histogram lent.id id l.id_is is, ap (λ v. v.mine) l.uncalled)

-- ---- what is held of a counter

pub counter_unlent : (key : KeyText) (old between new : Exporter) → RegistersCounter key old between → new ≡ between → (new ≡ old) ⊎ RegistersCounter key old new
counter_unlent key old between new registers same = inr (subst (λ e. RegistersCounter key old e) (sym same) registers)

pub held_given : (id : SeriesId) (lent : LentCounterOf) (held : CounterLease) (old new : Exporter)
    → LendsCounter id (Some lent) old new → held ≡ record { cell = arc_value lent.handle; knows = flushed.view_of lent.pass } → Holds id (Some held) old new
held_given id lent held old new lends is =
    let lent_is = lends.3.0 in
    subst (λ (h : CounterLease). Holds id (Some h) old new) (sym is) (lends.0, lends.1, lends.2, (lent_is.cell, lent_is.knows, lends.3.1), lends.4)
