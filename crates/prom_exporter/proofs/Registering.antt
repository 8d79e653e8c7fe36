-- What a registration gives and leaves, by where it goes: to the series of its own key, or to the overflow series.
use Rattle.std.proofs.Common.{◌≡◌, List, ℕ, None, Some, sym, ap, subst, ◌∙◌}
use Rattle.std.specs.Prelude.{◌⊎◌, Result, Ok, Err, OnOk, OnErr, IfOk}
use Rattle.metrics_core.specs.declared.kinds.MetricKind.{MetricKind}
use Rattle.metrics_core.specs.declared.kinds.SeriesId.{SeriesId}
use Rattle.metrics_core.specs.Keys.{KeyText}
use Rattle.prom_exporter.specs.State.{PrometheusState, live_series, number_of, with_series, overflow_key, redirected_to, key_given, with_raised, number_given, register}
use Rattle.prom_exporter.specs.Exporter.{Exporter, AddsSeries, AllHome, state_of}
use Rattle.prom_exporter.proofs.Redirected.{own-given, overflow-given, redirected-absent}

pub err_any : {T E X : Type 0} (r : Result T E) → X → OnErr r X
err_any (Ok v) x = tt
err_any (Err e) x = x

-- an exporter that was asked where a key goes is the same
module _ (kind : MetricKind) (key : KeyText) (old asked new : Exporter) (same : asked ≡ old) {E : Type 0} (r : Result SeriesId E) where
  home_on : (AllHome asked → AllHome new) → AllHome old → AllHome new
  home_on left home = left (subst AllHome (sym same) home)

  pub asked-home : (AllHome asked → AllHome new) → AllHome old → AllHome new
  asked-home = home_on

  number_on : (k : KeyText) → k ≡ key_given kind key (state_of old) → IfOk r (λ id. id ≡ record { kind = kind; number = number_of kind k (state_of asked) }) → IfOk r (λ id. id ≡ record { kind = kind; number = number_given kind key (state_of old) })
  number_on k given h =
      subst (λ (n : ℕ). IfOk r (λ id. id ≡ record { kind = kind; number = n })) (ap (λ (e : Exporter). number_of kind k (state_of e)) same ∙ ap (λ (l : KeyText). number_of kind l (state_of old)) given) h

  cells_on : (k : KeyText) → k ≡ key_given kind key (state_of old) → OnOk r ((new.series ≡ asked.series) ⊎ AddsSeries kind k asked new) → OnOk r ((new.series ≡ old.series) ⊎ AddsSeries kind (key_given kind key (state_of old)) old new)
  cells_on k given h =
      subst (λ (l : KeyText). OnOk r ((new.series ≡ old.series) ⊎ AddsSeries kind l old new)) given
      (subst (λ (e : Exporter). OnOk r ((new.series ≡ e.series) ⊎ AddsSeries kind k e new)) same h)

  -- to its own series
  module _ (own : None ≡ redirected_to kind key (state_of old)) where
    pub own-registered : OnOk r (state_of new ≡ with_series kind key (state_of asked)) → OnOk r (state_of new ≡ register kind key (state_of old))
    own-registered h =
        subst (λ (s : PrometheusState). OnOk r (state_of new ≡ s)) (ap (λ (e : Exporter). with_series kind key (state_of e)) same ∙ sym (own-given kind key (state_of old) (sym own)).1) h

    pub own-cells : OnOk r ((new.series ≡ asked.series) ⊎ AddsSeries kind key asked new) → OnOk r ((new.series ≡ old.series) ⊎ AddsSeries kind (key_given kind key (state_of old)) old new)
    own-cells = cells_on key (sym (own-given kind key (state_of old) (sym own)).0)

    pub own-id : IfOk r (λ id. id ≡ record { kind = kind; number = number_of kind key (state_of asked) }) → IfOk r (λ id. id ≡ record { kind = kind; number = number_given kind key (state_of old) })
    own-id = number_on key (sym (own-given kind key (state_of old) (sym own)).0)

    pub own-absent : OnErr r (live_series kind key (state_of asked) ≡ None) → OnErr r (live_series kind key (state_of old) ≡ None)
    own-absent = subst (λ (e : Exporter). OnErr r (live_series kind key (state_of e) ≡ None)) same

  -- to the overflow series
  module _ (name : List ℕ) (redirected : Some name ≡ redirected_to kind key (state_of old)) where
    pub overflow-registered : OnOk r (state_of new ≡ with_series kind (overflow_key name) (with_raised kind name (state_of asked))) → OnOk r (state_of new ≡ register kind key (state_of old))
    overflow-registered h =
        subst (λ (s : PrometheusState). OnOk r (state_of new ≡ s))
        (ap (λ (e : Exporter). with_series kind (overflow_key name) (with_raised kind name (state_of e))) same ∙ sym (overflow-given kind key (state_of old) name (sym redirected)).1) h

    pub overflow-cells : OnOk r ((new.series ≡ asked.series) ⊎ AddsSeries kind (overflow_key name) asked new) → OnOk r ((new.series ≡ old.series) ⊎ AddsSeries kind (key_given kind key (state_of old)) old new)
    overflow-cells = cells_on (overflow_key name) (sym (overflow-given kind key (state_of old) name (sym redirected)).0)

    pub overflow-id : IfOk r (λ id. id ≡ record { kind = kind; number = number_of kind (overflow_key name) (state_of asked) }) → IfOk r (λ id. id ≡ record { kind = kind; number = number_given kind key (state_of old) })
    overflow-id = number_on (overflow_key name) (sym (overflow-given kind key (state_of old) name (sym redirected)).0)

    pub overflow-absent : OnErr r (live_series kind key (state_of old) ≡ None)
    overflow-absent = err_any r (redirected-absent kind key (state_of old) name (sym redirected))
