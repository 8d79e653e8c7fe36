-- What the entries of a history make: their series, each once, under the numbers that were given.
use Rattle.std.proofs.Common.{◌≡◌, ℕ, ◌+◌, ◌==◌, ◌⊎◌, Bool, true, false, List, [], ◌∷◌, ◌++◌, Option, None, Some, refl, sym, ap, ◌∙◌, subst, inl, inr, ⊎_elim, append_assoc, eq-eqb, true≢false}
use Rattle.std.proofs.lemmas.List.{append-nil}
use Rattle.std.proofs.lemmas.Bool.{eqb-true}
use Rattle.std.specs.Prelude.{is_some, unwrap_or}
use Rattle.metrics_core.specs.Keys.{KeyText}
use Rattle.metrics_core.specs.KeyLaws.{key_eq_laws}
use Rattle.metrics_core.specs.declared.kinds.MetricKind.{MetricKind}
use Rattle.metrics_core.specs.declared.kinds.MetricKind.TheVariants as kinds
use Rattle.metrics_core.specs.declared.kinds.SeriesId.{SeriesId}
use Rattle.metrics_registry.specs.Live.{id_of_key, AreOf}
use Rattle.metrics_registry.proofs.Found.{are_of-made, are_of-more}
use Rattle.legal_history.specs.Object.{Runs}
use Rattle.dsd_exporter.specs.State.{DogStatsDSettings, SeriesStates, no_series, no_series_states, number_found, with_new}
use Rattle.shared_flushes.specs.declared.entries.StateEntry.{StateEntry}
use Rattle.shared_flushes.specs.declared.entries.StateEntry.TheVariants.{Built, Register}
use Rattle.shared_flushes.specs.Registrations.{AreApart, AreRegistered, Called, Named, Step, of_kind}
use Rattle.shared_flushes.specs.Stands.{Reached}
use Rattle.shared_flushes.proofs.Bare.{chosen, number, number_named}
use Rattle.shared_flushes.proofs.Named.{id_for, new_named, kind_found, found_more, found_last, new_last, new_or_not, made_more, called_last, called_either, registered_front, registered_behind, registered_last, apart_last}

-- the number was given to the key: there is a series under it, or no number is left
abbrev pub Numbered : MetricKind → KeyText → ℕ → SeriesStates → Type 0
Numbered kind key n x = (id_of_key key (of_kind kind x) ≡ Some (id_for kind n)) ⊎ ((id_of_key key (of_kind kind x) ≡ None) × (x.made ≡ no_series) × (n ≡ no_series))

pub record AreMade (entries : List StateEntry) (x : SeriesStates) : Type 0 where
  pub ids : (kind : MetricKind) → AreOf kind x.made (of_kind kind x)
  pub registered : (kind : MetricKind) → AreRegistered kind entries (of_kind kind x)
  pub apart : (kind : MetricKind) → AreApart (of_kind kind x)
  pub numbers : (kind : MetricKind) (key : KeyText) (n : ℕ) → Called (Register kind key n) entries → Numbered kind key n x

-- an entry that changes nothing
same_made : (entries : List StateEntry) (c : StateEntry) (x : SeriesStates) → AreMade entries x → ((kind : MetricKind) (key : KeyText) (n : ℕ) → Register kind key n ≡ c → Numbered kind key n x) → AreMade (entries ++ c ∷ []) x
same_made entries c x made own = record {
  ids = made.ids;
  registered = λ kind. registered_front kind entries (c ∷ []) (of_kind kind x) (made.registered kind);
  apart = made.apart;
  numbers = λ kind key n called. ⊎_elim (λ (before : Called (Register kind key n) entries). made.numbers kind key n before) (λ (is : Register kind key n ≡ c). own kind key n is) (called_either (Register kind key n) c entries called);
}

module _ (entries : List StateEntry) (other : MetricKind) (new : KeyText) (x : SeriesStates) (made : AreMade entries x) (none : id_of_key new (of_kind other x) ≡ None) (room : (x.made == no_series) ≡ false) where
  after : SeriesStates
  after = with_new other new x

  more : List StateEntry
  more = entries ++ Register other new x.made ∷ []

  -- of the kinds
  of_each : (P : MetricKind → List Named → Type 0) → ((kind : MetricKind) → P kind (of_kind kind x)) → P other (of_kind other x ++ new_named other x.made new ∷ []) → (kind : MetricKind) → P kind (of_kind kind (with_new other new x))
  of_each P each last kind = ⊎_elim
      (λ (same : of_kind kind (with_new other new x) ≡ of_kind kind x). subst (P kind) (sym same) (each kind))
      (λ (is : kind ≡ other). subst (λ k. P k (of_kind k (with_new other new x))) (sym is) (subst (P other) (sym (new_last other new x)) last))
      (new_or_not kind other new x)

  stays : (kind : MetricKind) (key : KeyText) (n : ℕ) → Numbered kind key n x → Numbered kind key n (with_new other new x)
  stays kind key n numbered = ⊎_elim
      (λ (found : id_of_key key (of_kind kind x) ≡ Some (id_for kind n)). inl (⊎_elim
      (λ (same : of_kind kind (with_new other new x) ≡ of_kind kind x). ap (id_of_key key) same ∙ found)
      (λ (is : kind ≡ other). subst (λ k. id_of_key key (of_kind k (with_new other new x)) ≡ Some (id_for kind n)) (sym is)
      (ap (id_of_key key) (new_last other new x) ∙ found_more key (of_kind other x) (new_named other x.made new) (id_for kind n) (subst (λ k. id_of_key key (of_kind k x) ≡ Some (id_for kind n)) is found)))
      (new_or_not kind other new x)))
      (λ (full : (id_of_key key (of_kind kind x) ≡ None) × (x.made ≡ no_series) × (n ≡ no_series)). absurd (true≢false (sym (eq-eqb x.made no_series full.1) ∙ room)))
      numbered

  its_own : id_of_key new (of_kind other (with_new other new x)) ≡ Some (id_for other x.made)
  its_own = ap (id_of_key new) (new_last other new x) ∙ found_last new (of_kind other x) (new_named other x.made new) (key_eq_laws.refl new) none

  own_number : (kind : MetricKind) (key : KeyText) (n : ℕ) → Register kind key n ≡ Register other new x.made → Numbered kind key n (with_new other new x)
  own_number kind key n is =
      let same_kind : kind ≡ other = cc is in
      let same_key : key ≡ new = cc is in
      let same_number : n ≡ x.made = cc is in
      inl (subst (λ k. id_of_key key (of_kind k (with_new other new x)) ≡ Some (id_for k n)) (sym same_kind)
      (subst (λ k. id_of_key k (of_kind other (with_new other new x)) ≡ Some (id_for other n)) (sym same_key)
      (subst (λ m. id_of_key new (of_kind other (with_new other new x)) ≡ Some (id_for other m)) (sym same_number) its_own)))

  new_made : AreMade (entries ++ Register other new x.made ∷ []) (with_new other new x)
  new_made = record {
    ids = λ kind. subst (λ m. AreOf kind m (of_kind kind (with_new other new x))) (sym (made_more other new x))
        (of_each (λ k es. AreOf k (x.made + 1) es) (λ k. are_of-more k x.made (of_kind k x) (made.ids k)) (are_of-made other x.made (of_kind other x) (new_named other x.made new) (made.ids other) refl refl) kind);
    registered = of_each (λ k es. AreRegistered k (entries ++ Register other new x.made ∷ []) es)
        (λ k. registered_front k entries (Register other new x.made ∷ []) (of_kind k x) (made.registered k))
        (registered_last other (entries ++ Register other new x.made ∷ []) (of_kind other x) (new_named other x.made new)
        (registered_front other entries (Register other new x.made ∷ []) (of_kind other x) (made.registered other)) (called_last (Register other new x.made) entries));
    apart = of_each (λ k es. AreApart es) made.apart (apart_last (of_kind other x) (new_named other x.made new) (made.apart other) none);
    numbers = λ kind key n called. ⊎_elim
        (λ (before : Called (Register kind key n) entries). stays kind key n (made.numbers kind key n before))
        (λ (is : Register kind key n ≡ Register other new x.made). own_number kind key n is)
        (called_either (Register kind key n) (Register other new x.made) entries called);
  }

-- the number and the series of one entry
module _ (entries : List StateEntry) (other : MetricKind) (new : KeyText) (number_is : ℕ) (x : SeriesStates) (made : AreMade entries x) where
  abbrev found_in : Option SeriesId
  found_in = id_of_key new (of_kind other x)

  number_is_found : number_found other new x ≡ number found_in
  number_is_found = number_named other new x

  -- nothing is made where there is one, or no number is left
  as_it_was : Numbered other new number_is x → AreMade (entries ++ Register other new number_is ∷ []) x
  as_it_was numbered = same_made entries (Register other new number_is) x made (λ kind key n is.
      let same_kind : kind ≡ other = cc is in
      let same_key : key ≡ new = cc is in
      let same_number : n ≡ number_is = cc is in
      subst (λ k. Numbered k key n x) (sym same_kind) (subst (λ k. Numbered other k n x) (sym same_key) (subst (λ m. Numbered other new m x) (sym same_number) numbered)))

  by_place : (o : Option SeriesId) (full : Bool) → found_in ≡ o → (x.made == no_series) ≡ full → number_is ≡ unwrap_or (number o) x.made
      → AreMade (entries ++ Register other new number_is ∷ []) (chosen (is_some (number o)) full other new x)
  by_place (Some id) full found is given =
      as_it_was (inl (found ∙ (λ j. Some (record { kind = kind_found other x.made new (of_kind other x) id (made.ids other) found j; number = sym given j }))))
  by_place None true found is given = as_it_was (inr (found, eqb-true x.made no_series is, given ∙ eqb-true x.made no_series is))
  by_place None false found is given = subst (λ n. AreMade (entries ++ Register other new n ∷ []) (with_new other new x)) (sym given) (new_made entries other new x made found is)

  pub one_made : (y : SeriesStates) → Step (Register other new number_is) x y → AreMade (entries ++ Register other new number_is ∷ []) y
  one_made y step =
      let given : number_is ≡ unwrap_or (number found_in) x.made = step.0 ∙ ap (λ o. unwrap_or o x.made) number_is_found in
      let is : y ≡ chosen (is_some (number found_in)) (x.made == no_series) other new x = step.1 ∙ ap (λ o. chosen (is_some o) (x.made == no_series) other new x) number_is_found in
      subst (AreMade (entries ++ Register other new number_is ∷ [])) (sym is) (by_place found_in (x.made == no_series) refl refl given)

runs_made : (done : List StateEntry) (x : SeriesStates) (cs : List StateEntry) (y : SeriesStates) → AreMade done x → Runs Step x cs y → AreMade (done ++ cs) y
runs_made done x [] y made runs = subst (AreMade (done ++ [])) runs (grown done x made)
  where
    grown : (done : List StateEntry) (x : SeriesStates) → AreMade done x → AreMade (done ++ []) x
    grown done x made = subst (λ cs. AreMade cs x) (sym (append-nil done)) made
runs_made done x (Built built ∷ cs) y made runs = absurd runs.1
runs_made done x (Register kind key n ∷ cs) y made runs =
    subst (λ l. AreMade l y) (append_assoc done (Register kind key n ∷ []) cs)
    (runs_made (done ++ Register kind key n ∷ []) runs.0 cs y (one_made done kind key n x made runs.0 runs.1) runs.2)

nothing_made : AreMade [] no_series_states
nothing_made = record {
  ids = λ kind. none kind;
  registered = λ kind. none_registered kind;
  apart = λ kind. none_apart kind;
  numbers = λ kind key n called. absurd called;
}
  where
    none : (kind : MetricKind) → AreOf kind 0 (of_kind kind no_series_states)
    none kinds.Counter = tt
    none kinds.Gauge = tt
    none kinds.Histogram = tt

    none_registered : (kind : MetricKind) → AreRegistered kind [] (of_kind kind no_series_states)
    none_registered kinds.Counter = tt
    none_registered kinds.Gauge = tt
    none_registered kinds.Histogram = tt

    none_apart : (kind : MetricKind) → AreApart (of_kind kind no_series_states)
    none_apart kinds.Counter = tt
    none_apart kinds.Gauge = tt
    none_apart kinds.Histogram = tt

-- the entries of a history made these series
pub reached_made : (cs : List StateEntry) (t : DogStatsDSettings) (x : SeriesStates) → Reached cs t x → AreMade cs x
reached_made [] t x r = absurd r
reached_made (Built built ∷ cs) t x r =
    let made = runs_made [] no_series_states cs x nothing_made r.1 in record {
      ids = made.ids;
      registered = λ kind. registered_behind kind (Built built) cs (of_kind kind x) (made.registered kind);
      apart = made.apart;
      numbers = λ kind key n called. ⊎_elim (λ (is : Register kind key n ≡ Built built). absurd (cc is)) (λ (later : Called (Register kind key n) cs). made.numbers kind key n later) called;
    }
reached_made (Register kind key n ∷ cs) t x r = absurd r
