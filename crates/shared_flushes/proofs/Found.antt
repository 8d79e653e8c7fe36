-- Where the series of a registration is found later.
use Rattle.std.proofs.Common.{◌≡◌, ℕ, List, [], ◌∷◌, None, Some, true, sym, ap, ◌∙◌, subst, ⊎_elim}
use Rattle.std.specs.Prelude.{unwrap_or}
use Rattle.metrics_core.specs.Keys.{KeyText, key_eq}
use Rattle.metrics_core.specs.declared.kinds.MetricKind.{MetricKind}
use Rattle.metrics_registry.specs.Live.{id_of_key}
use Rattle.legal_history.specs.declared.history.Entry.{Entry}
use Rattle.legal_history.specs.declared.history.View.{View}
use Rattle.legal_history.specs.History.{calls, said, Sees}
use Rattle.legal_history.proofs.Lists.{calls-append}
use Rattle.dsd_exporter.specs.State.{no_series, number_found, number_given}
use Rattle.dsd_exporter.specs.Exporter.{Exporter}
use Rattle.shared_flushes.specs.declared.entries.StateEntry.{StateEntry}
use Rattle.shared_flushes.specs.declared.entries.StateEntry.TheVariants.{Register}
use Rattle.shared_flushes.specs.Registrations.{AreApart, AreRegistered, Called, bare, of_kind}
use Rattle.shared_flushes.specs.Stands.{Makes, StandsFor}
use Rattle.shared_flushes.proofs.Bare.{number, number_named, of_bare}
use Rattle.shared_flushes.proofs.Named.{id_for, called_front, called_last, found_same}
use Rattle.shared_flushes.proofs.Reaching.{AreMade, reached_made}

module _ (entries : List StateEntry) (x : Exporter) (st : StandsFor entries x) where
  are_made : AreMade entries (bare x.series)
  are_made = reached_made entries x.settings (bare x.series) st

  pub registered_each : (kind : MetricKind) → AreRegistered kind entries (of_kind kind x.series)
  registered_each kind = subst (AreRegistered kind entries) (of_bare kind x.series) (are_made.registered kind)

  pub apart_each : (kind : MetricKind) → AreApart (of_kind kind x.series)
  apart_each kind = subst AreApart (of_bare kind x.series) (are_made.apart kind)

  found_as : (kind : MetricKind) (key : KeyText) → number_found kind key x.series ≡ number (id_of_key key (of_kind kind (bare x.series)))
  found_as kind key = number_named kind key x.series ∙ ap (λ l. number (id_of_key key l)) (sym (of_bare kind x.series))

  pub found_there : (kind : MetricKind) (key : KeyText) (n : ℕ) → Called (Register kind key n) entries → ¬ (n ≡ no_series) → number_found kind key x.series ≡ Some n
  found_there kind key n called far = ⊎_elim
      (λ (found : id_of_key key (of_kind kind (bare x.series)) ≡ Some (id_for kind n)). found_as kind key ∙ ap number found)
      (λ (full : (id_of_key key (of_kind kind (bare x.series)) ≡ None) × (x.series.made ≡ no_series) × (n ≡ no_series)). absurd (far full.2))
      (are_made.numbers kind key n called)

  pub number_there : (kind : MetricKind) (key : KeyText) (n : ℕ) → Called (Register kind key n) entries → n ≡ number_given kind key x.series
  number_there kind key n called = ⊎_elim
      (λ (found : id_of_key key (of_kind kind (bare x.series)) ≡ Some (id_for kind n)). sym (ap (λ o. unwrap_or o x.series.made) (found_as kind key ∙ ap number found)))
      (λ (full : (id_of_key key (of_kind kind (bare x.series)) ≡ None) × (x.series.made ≡ no_series) × (n ≡ no_series)).
      full.2 ∙ (sym full.1 ∙ sym (ap (λ o. unwrap_or o x.series.made) (found_as kind key ∙ ap number full.0))))
      (are_made.numbers kind key n called)

  pub same_number : (kind : MetricKind) (a b : KeyText) (n m : ℕ) → Called (Register kind a n) entries → Called (Register kind b m) entries → key_eq a b ≡ true → n ≡ m
  same_number kind a b n m first second same =
      number_there kind a n first
      ∙ (ap (λ o. unwrap_or o x.series.made) (number_named kind a x.series ∙ (ap number (found_same a b (of_kind kind x.series) same) ∙ sym (number_named kind b x.series))) ∙ sym (number_there kind b m second))

-- what a pass has seen is in every history that it finds
pub called_later : (c : StateEntry) (v : View StateEntry) (log : List (Entry StateEntry)) → Called c (calls v.seen) → Sees v log → Called c (calls log)
called_later c v log called sees =
    subst (λ (l : List (Entry StateEntry)). Called c (calls l)) sees.begins.1 (subst (Called c) (sym (calls-append v.seen sees.begins.0)) (called_front c (calls v.seen) (calls sees.begins.0) called))

-- and it has seen what it called
pub called_own : (v w : View StateEntry) (c : StateEntry) → Makes c v w → Called c (calls w.seen)
called_own v w c makes =
    subst (Called c) (sym (ap (λ (u : View StateEntry). calls u.seen) makes.7 ∙ calls-append makes.0 (said v.number (c ∷ [])))) (called_last c (calls makes.0))
