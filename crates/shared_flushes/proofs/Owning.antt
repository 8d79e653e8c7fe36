-- What a pass registered itself is there when it is lent.
use Rattle.std.proofs.Common.{◌≡◌, ◌==◌, Bool, true, false, List, [], ◌∷◌, Option, None, Some, sym, ap, ◌∙◌, subst, inl, inr, ⊎_elim}
use Rattle.metrics_core.specs.Keys.{KeyText}
use Rattle.metrics_core.specs.declared.kinds.MetricKind.{MetricKind}
use Rattle.metrics_core.specs.declared.kinds.MetricKind.TheVariants as kinds
use Rattle.metrics_core.specs.declared.kinds.SeriesId.{SeriesId}
use Rattle.metrics_registry.specs.Live.{id_of_key}
use Rattle.legal_history.specs.declared.history.Entry.{Entry}
use Rattle.legal_history.specs.declared.history.View.{View}
use Rattle.legal_history.specs.History.{calls, calls_by, keep, Sees}
use Rattle.dsd_exporter.specs.State.{no_series}
use Rattle.dsd_exporter.specs.Exporter.{Exporter}
use Rattle.dsd_exporter.specs.Lending.{LendsCounter, LendsGauge, LendsHistogram, LentCounterOf, LentGaugeOf, LentHistogramOf}
use Rattle.shared_flushes.specs.declared.entries.StateEntry.{StateEntry}
use Rattle.shared_flushes.specs.declared.entries.StateEntry.TheVariants.{Register}
use Rattle.shared_flushes.specs.Registrations.{Called, bare, of_kind}
use Rattle.shared_flushes.specs.Stands.{IsOwn, StandsFor}
use Rattle.shared_flushes.proofs.Bare.{id_as, of_bare}
use Rattle.shared_flushes.proofs.Named.{id_for, found_cell}
use Rattle.shared_flushes.proofs.Reaching.{reached_made}

called_if : (b : Bool) (c d : StateEntry) (ds es : List StateEntry) → (Called c ds → Called c es) → Called c (keep b d ds) → Called c (d ∷ es)
called_if true c d ds es f q = ⊎_elim (λ (e : c ≡ d). inl e) (λ (r : Called c ds). inr (f r)) q
called_if false c d ds es f q = inr (f q)

called_in : (c : StateEntry) (t : _) (log : List (Entry StateEntry)) → Called c (calls_by t log) → Called c (calls log)
called_in c t [] q = q
called_in c t (e ∷ es) q = called_if (e.by == t) c e.call (calls_by t es) (calls es) (called_in c t es) q

own_there : (kind : MetricKind) (id : SeriesId) (v : View StateEntry) (log : List (Entry StateEntry)) (x : Exporter) → Sees v log → StandsFor (calls log) x → IsOwn kind id v
    → (key : KeyText) × (id_of_key key (of_kind kind x.series) ≡ Some id)
own_there kind id v log x s st o =
    let key = o.2.0 in
    let called = called_in (Register kind key id.number) v.number log (subst (Called (Register kind key id.number)) (sym s.own) o.2.1) in (
      key,
      ⊎_elim
          (λ (found : id_of_key key (of_kind kind (bare x.series)) ≡ Some (id_for kind id.number)).
          ap (id_of_key key) (sym (of_bare kind x.series)) ∙ (found ∙ (λ j. Some (record { kind = sym o.0 j; number = id.number }))))
          (λ (full : (id_of_key key (of_kind kind (bare x.series)) ≡ None) × (x.series.made ≡ no_series) × (id.number ≡ no_series)). absurd (o.1 full.2))
          ((reached_made (calls log) x.settings (bare x.series) st).numbers kind key id.number called),
    )

module _ (v : View StateEntry) (log : List (Entry StateEntry)) (x y : Exporter) (id : SeriesId) (s : Sees v log) (st : StandsFor (calls log) x) where
  pub own_counter : (lent : Option LentCounterOf) → LendsCounter id lent x y → IsOwn kinds.Counter id v → ¬ (lent ≡ None)
  own_counter lent l o none =
      let nothing : LendsCounter id None x y = subst (λ a. LendsCounter id a x y) none l in
      let there = own_there kinds.Counter id v log x s st o in
      found_cell there.0 id x.series.counters (sym (id_as (λ _. tt) there.0 x.series.counters) ∙ there.1) nothing.0

  pub own_gauge : (lent : Option LentGaugeOf) → LendsGauge id lent x y → IsOwn kinds.Gauge id v → ¬ (lent ≡ None)
  own_gauge lent l o none =
      let nothing : LendsGauge id None x y = subst (λ a. LendsGauge id a x y) none l in
      let there = own_there kinds.Gauge id v log x s st o in
      found_cell there.0 id x.series.gauges (sym (id_as (λ _. tt) there.0 x.series.gauges) ∙ there.1) nothing.0

  pub own_histogram : (lent : Option LentHistogramOf) → LendsHistogram id lent x y → IsOwn kinds.Histogram id v → ¬ (lent ≡ None)
  own_histogram lent l o none =
      let nothing : LendsHistogram id None x y = subst (λ a. LendsHistogram id a x y) none l in
      let there = own_there kinds.Histogram id v log x s st o in
      found_cell there.0 id x.series.histograms (sym (id_as (λ _. tt) there.0 x.series.histograms) ∙ there.1) nothing.0
