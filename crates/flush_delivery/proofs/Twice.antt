-- A key that is registered twice is registered once: calls that follow one another on its series are calls behind one registration.
use Rattle.std.proofs.Common.{◌≡◌, ℕ, ◌+◌, Bool, true, false, cond, List, [], ◌∷◌, ◌++◌, map, Option, Some, None, refl, sym, ap, subst, ◌∙◌}
use Rattle.std.specs.Prelude.{◌==◌, find, is_some, option_map, unwrap_or}
use Rattle.metrics_core.specs.declared.kinds.MetricKind.{MetricKind}
use Rattle.metrics_core.specs.declared.kinds.MetricKind.TheVariants as kinds
use Rattle.metrics_core.specs.Calls.{Call}
use Rattle.metrics_core.specs.Keys.{KeyText, key_eq}
use Rattle.metrics_core.specs.KeyLaws.{key_eq_laws}
use Rattle.prom_exporter.specs.State.{PrometheusState, Series, live, live_series, no_series, number_of, with_live, with_series}
use Rattle.prom_exporter.proofs.Redirected.{unlimited-numbers, unlimited-registers}
use Rattle.dsd_receiver.specs.Received.{after_calls, with_calls}
use Rattle.dsd_receiver.proofs.Calling.{after_more, with_more}

after_both : (kind : MetricKind) (number : ℕ) (cs ds : List Call) (s : PrometheusState) → after_calls kind number (cs ++ ds) s ≡ after_calls kind number ds (after_calls kind number cs s)
after_both kind number [] ds s = refl
after_both kind number (c ∷ cs) ds s = after_both kind number cs ds (after_calls kind number (c ∷ []) s)

abbrev equal_key : KeyText → Series → Bool
equal_key key series = key_eq series.key key

-- calls leave keys and numbers
same_key : (key : KeyText) (number : ℕ) (calls : List Call) (e : Series) → equal_key key (with_more number calls e) ≡ equal_key key e
same_key key number calls e = elim (e.number == number) as (λ b. equal_key key (cond b (record e { calls = e.calls ++ calls }) e) ≡ equal_key key e) [ true ↦ refl | false ↦ refl ]

same_number : (number : ℕ) (calls : List Call) (e : Series) → (with_more number calls e).number ≡ e.number
same_number number calls e = elim (e.number == number) as (λ b. (cond b (record e { calls = e.calls ++ calls }) e).number ≡ e.number) [ true ↦ refl | false ↦ refl ]

abbrev number_found : KeyText → List Series → Option ℕ
number_found key es = option_map (λ (series : Series). series.number) (find (equal_key key) es)

found_more : (key : KeyText) (number : ℕ) (calls : List Call) (es : List Series) → number_found key (map (with_more number calls) es) ≡ number_found key es
found_more key number calls [] = refl
found_more key number calls (e ∷ es) =
    ap (λ b. option_map (λ (series : Series). series.number) (cond b (Some (with_more number calls e)) (find (equal_key key) (map (with_more number calls) es)))) (same_key key number calls e)
    ∙ (elim (equal_key key e) as (λ b. option_map (λ (series : Series). series.number) (cond b (Some (with_more number calls e)) (find (equal_key key) (map (with_more number calls) es)))
    ≡ option_map (λ (series : Series). series.number) (cond b (Some e) (find (equal_key key) es))) [
      | true ↦ ap Some (same_number number calls e)
      | false ↦ found_more key number calls es
    ])

found_new : (key : KeyText) (n : ℕ) (es : List Series) → number_found key es ≡ None → number_found key (es ++ record { number = n; key = key; calls = []; note = None } ∷ []) ≡ Some n
found_new key n [] none = ap (λ b. option_map (λ (series : Series). series.number) (cond b (Some (record { number = n; key = key; calls = []; note = None })) None)) (key_eq_laws.refl key)
found_new key n (e ∷ es) none = by (equal_key key e) refl (λ later. found_new key n es later)
  where
    by : (b : Bool) → equal_key key e ≡ b → (number_found key es ≡ None → number_found key (es ++ record { number = n; key = key; calls = []; note = None } ∷ []) ≡ Some n)
        → number_found key (e ∷ (es ++ record { number = n; key = key; calls = []; note = None } ∷ [])) ≡ Some n
    by true is rest =
        let some : Some e.number ≡ None = sym (ap (λ b. option_map (λ (series : Series). series.number) (cond b (Some e) (find (equal_key key) es))) is) ∙ none in
        absurd cc
    by false is rest =
        ap (λ b. option_map (λ (series : Series). series.number) (cond b (Some e) (find (equal_key key) (es ++ record { number = n; key = key; calls = []; note = None } ∷ [])))) is
        ∙ rest (sym (ap (λ b. option_map (λ (series : Series). series.number) (cond b (Some e) (find (equal_key key) es))) is) ∙ none)

is_some_mapped : {A B : Type 0} (f : A → B) (o : Option A) → is_some (option_map f o) ≡ is_some o
is_some_mapped f None = refl
is_some_mapped f (Some a) = refl

-- what is said of a state by whether a series of the kind with the key is live, with which number, and how many were made
abbrev given_in : MetricKind → KeyText → PrometheusState → Option ℕ
given_in kind key s = number_found key (live kind s)

-- a key whose series is live, or for which none is made any more
abbrev IsKnown : Option ℕ → ℕ → ℕ → Type 0
IsKnown found made n = (o : Option ℕ) × (found ≡ o) × (unwrap_or o made ≡ n) × (cond (is_some o) true (made == no_series) ≡ true)

module _ (kind : MetricKind) (key : KeyText) (s : PrometheusState) where
  known_number : (n : ℕ) → IsKnown (given_in kind key s) s.made n → number_of kind key s ≡ n
  known_number n known = ap (λ o. unwrap_or o s.made) known.1 ∙ known.2

  abbrev one_more : PrometheusState
  one_more = record (with_live kind (live kind s ++ record { number = s.made; key = key; calls = []; note = None } ∷ []) s) { made = s.made + 1 }

  -- what a registration leaves, by whether a series is found
  registered : (o : Option ℕ) → given_in kind key s ≡ o → with_series kind key s ≡ cond (is_some o) s (cond (s.made == no_series) s one_more)
  registered o found =
      ap (λ b. cond b s (cond (s.made == no_series) s one_more))
      (sym (is_some_mapped (λ (series : Series). series.number) (live_series kind key s)) ∙ ap is_some found)

  known_stays : (n : ℕ) → IsKnown (given_in kind key s) s.made n → with_series kind key s ≡ s
  known_stays n (None, found, number, full) = registered None found ∙ ap (λ b. cond b s one_more) full
  known_stays n (Some m, found, number, full) = registered (Some m) found

live_new : (kind : MetricKind) (key : KeyText) (s : PrometheusState) → given_in kind key s ≡ None → given_in kind key (one_more kind key s) ≡ Some s.made
live_new kinds.Counter key s none = found_new key s.made s.counters none
live_new kinds.Gauge key s none = found_new key s.made s.gauges none
live_new kinds.Histogram key s none = found_new key s.made s.histograms none

-- a key that was registered is known under the number that was given
now_known : (kind : MetricKind) (key : KeyText) (s : PrometheusState) → IsKnown (given_in kind key (with_series kind key s)) (with_series kind key s).made (number_of kind key s)
now_known kind key s = by (given_in kind key s) refl
  where
    full : (b : Bool) → (s.made == no_series) ≡ b → given_in kind key s ≡ None → IsKnown (given_in kind key (cond b s (one_more kind key s))) (cond b s (one_more kind key s)).made s.made
    full true is none = (None, none, refl, is)
    full false is none = (Some s.made, live_new kind key s none, refl, refl)

    by : (o : Option ℕ) → given_in kind key s ≡ o → IsKnown (given_in kind key (with_series kind key s)) (with_series kind key s).made (number_of kind key s)
    by (Some m) found =
        let stays = registered kind key s (Some m) found in
        let number : number_of kind key s ≡ m = ap (λ o. unwrap_or o s.made) found in
        subst (λ (t : PrometheusState). IsKnown (given_in kind key t) t.made (number_of kind key s)) (sym stays) (Some m, found, sym number, refl)
    by None none =
        let left = registered kind key s None none in
        let number : number_of kind key s ≡ s.made = ap (λ o. unwrap_or o s.made) none in
        subst (λ (t : PrometheusState). IsKnown (given_in kind key t) t.made (number_of kind key s)) (sym left)
        (subst (λ n. IsKnown (given_in kind key (cond (s.made == no_series) s (one_more kind key s))) (cond (s.made == no_series) s (one_more kind key s)).made n) (sym number)
        (full (s.made == no_series) refl none))

-- after a registration and calls the key is known under its number
live_called : (kind : MetricKind) (key : KeyText) (number : ℕ) (calls : List Call) (r : PrometheusState) → given_in kind key (after_calls kind number calls r) ≡ given_in kind key r
live_called kinds.Counter key number calls r = ap (given_in kinds.Counter key) (after_more kinds.Counter number calls r) ∙ found_more key number calls r.counters
live_called kinds.Gauge key number calls r = ap (given_in kinds.Gauge key) (after_more kinds.Gauge number calls r) ∙ found_more key number calls r.gauges
live_called kinds.Histogram key number calls r = ap (given_in kinds.Histogram key) (after_more kinds.Histogram number calls r) ∙ found_more key number calls r.histograms

made_called : (kind : MetricKind) (number : ℕ) (calls : List Call) (r : PrometheusState) → (after_calls kind number calls r).made ≡ r.made
made_called kinds.Counter number calls r = ap (λ (s : PrometheusState). s.made) (after_more kinds.Counter number calls r)
made_called kinds.Gauge number calls r = ap (λ (s : PrometheusState). s.made) (after_more kinds.Gauge number calls r)
made_called kinds.Histogram number calls r = ap (λ (s : PrometheusState). s.made) (after_more kinds.Histogram number calls r)

-- ---- where there is no limit

limit_called : (kind : MetricKind) (number : ℕ) (calls : List Call) (r : PrometheusState) → (after_calls kind number calls r).limit ≡ r.limit
limit_called kinds.Counter number calls r = ap (λ (s : PrometheusState). s.limit) (after_more kinds.Counter number calls r)
limit_called kinds.Gauge number calls r = ap (λ (s : PrometheusState). s.limit) (after_more kinds.Gauge number calls r)
limit_called kinds.Histogram number calls r = ap (λ (s : PrometheusState). s.limit) (after_more kinds.Histogram number calls r)

limit_series : (kind : MetricKind) (key : KeyText) (s : PrometheusState) → (with_series kind key s).limit ≡ s.limit
limit_series kind key s = by (is_some (live_series kind key s)) (s.made == no_series)
  where
    added : (kind : MetricKind) → (one_more kind key s).limit ≡ s.limit
    added kinds.Counter = refl
    added kinds.Gauge = refl
    added kinds.Histogram = refl

    by : (a b : Bool) → (cond a s (cond b s (one_more kind key s))).limit ≡ s.limit
    by true b = refl
    by false true = refl
    by false false = added kind

module _ (kind : MetricKind) (key : KeyText) (cs : List Call) (s : PrometheusState) (never : s.limit ≡ None) where
  calls_are : with_calls kind key cs s ≡ after_calls kind (number_of kind key s) cs (with_series kind key s)
  calls_are = λ i. after_calls kind (unlimited-numbers kind key s never i) cs (unlimited-registers kind key s never i)

  pub still_none : (with_calls kind key cs s).limit ≡ None
  still_none = ap (λ (t : PrometheusState). t.limit) calls_are ∙ limit_called kind (number_of kind key s) cs (with_series kind key s) ∙ limit_series kind key s ∙ never

-- calls behind others on the series of a key
pub with_both : (kind : MetricKind) (key : KeyText) (cs ds : List Call) (s : PrometheusState) → s.limit ≡ None → with_calls kind key ds (with_calls kind key cs s) ≡ with_calls kind key (cs ++ ds) s
with_both kind key cs ds s never =
    let n = number_of kind key s in
    let r = with_series kind key s in
    let t = after_calls kind n cs r in
    let none : t.limit ≡ None = limit_called kind n cs r ∙ limit_series kind key s ∙ never in
    let known : IsKnown (given_in kind key t) t.made n =
    subst (λ o. IsKnown o t.made n) (sym (live_called kind key n cs r)) (subst (λ m. IsKnown (given_in kind key r) m n) (sym (made_called kind n cs r)) (now_known kind key s)) in
    ap (with_calls kind key ds) (calls_are kind key cs s never) ∙ calls_are kind key ds t none
    ∙ (λ i. after_calls kind (known_number kind key t n known i) ds (known_stays kind key t n known i)) ∙ sym (after_both kind n cs ds r)
    ∙ sym (calls_are kind key (cs ++ ds) s never)
