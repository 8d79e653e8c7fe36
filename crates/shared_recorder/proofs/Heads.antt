-- What a page has of a state whatever calls are known.
use Rattle.std.proofs.Common.{◌≡◌, ℕ, Bool, true, false, List, [], ◌∷◌, ◌++◌, map, cond, refl, sym, ap, ◌∙◌, Option, Some, None, ℤ}
use Rattle.std.specs.Prelude.{filter, filter_map, flat_map, option_map, bytes_eq}
use Rattle.std.specs.List.{cons_option}
use Rattle.std.proofs.lemmas.List.{map-append}
use Rattle.metrics_core.specs.declared.kinds.MetricKind.{MetricKind}
use Rattle.metrics_core.specs.declared.kinds.MetricKind.TheVariants as kinds
use Rattle.metrics_registry.specs.Live.{LiveSeries}
use Rattle.prom_format.specs.Names.{sanitized_metric_name, full_name}
use Rattle.prom_format.specs.Pages.{Row, Family}
use Rattle.prom_format.specs.declared.families.FamilyType.{FamilyType}
use Rattle.prom_format.specs.declared.families.FamilyType.TheVariants as types
use Rattle.distributions.specs.Kinds.{DistributionKind, NativeHistogram, Histogram, Summary}
use Rattle.prom_exporter.specs.State.{Series, PrometheusState, live}
use Rattle.prom_exporter.specs.Families.{ExporterSettings, shown_unit, shown_help, counter_suffix, counter_rows, gauge_rows, histogram_rows, summary_rows, row_of, sum_and_count_rows, distinct, names_of_kind, overflow_families, series_named, family_of, distribution_of, distribution_family, Windows, families_by}
use Rattle.prom_exporter.specs.Sampled.{Sampled, calls_known, calls_recorded}
use Rattle.prom_exporter.specs.Values.{series_of, sampled_series}
use Rattle.prom_exporter.specs.Exporter.{Exporter, state_of, state_shown}
use Rattle.shared_recorder.specs.declared.entries.RecorderEntry.{RecorderEntry}
use Rattle.shared_recorder.specs.Setup.{bare, setup}
use Rattle.shared_recorder.specs.Stands.{Reached, StandsFor}
use Rattle.shared_recorder.specs.Pages.{row_head, family_head, heads}
use Rattle.shared_recorder.proofs.Setups.{live_setup}
use Rattle.shared_recorder.proofs.Reaching.{reached_once}

-- ---- the series under a name

names_bare : (xs : List Series) → map (λ (s : Series). sanitized_metric_name s.key.name) (map bare xs) ≡ map (λ (s : Series). sanitized_metric_name s.key.name) xs
names_bare [] = refl
names_bare (x ∷ xs) = ap (λ l. sanitized_metric_name x.key.name ∷ l) (names_bare xs)

names_setup : (kind : MetricKind) (s : PrometheusState) → names_of_kind kind (setup s) ≡ names_of_kind kind s
names_setup kind s =
    ap (λ l. distinct (map (λ (x : Series). sanitized_metric_name x.key.name) l)) (live_setup kind s) ∙ ap distinct (names_bare (live kind s))

cond_bares : (b : Bool) (x : Series) (xs : List Series) → cond b (bare x ∷ map bare xs) (map bare xs) ≡ map bare (cond b (x ∷ xs) xs)
cond_bares true x xs = refl
cond_bares false x xs = refl

filter_bare : (name : List ℕ) (xs : List Series)
    → filter (λ (s : Series). bytes_eq (sanitized_metric_name s.key.name) name) (map bare xs) ≡ map bare (filter (λ (s : Series). bytes_eq (sanitized_metric_name s.key.name) name) xs)
filter_bare name [] = refl
filter_bare name (x ∷ xs) =
    ap (λ l. cond (bytes_eq (sanitized_metric_name x.key.name) name) (bare x ∷ l) l) (filter_bare name xs)
    ∙ cond_bares (bytes_eq (sanitized_metric_name x.key.name) name) x (filter (λ (s : Series). bytes_eq (sanitized_metric_name s.key.name) name) xs)

named_setup : (kind : MetricKind) (s : PrometheusState) (name : List ℕ) → series_named kind (setup s) name ≡ map bare (series_named kind s name)
named_setup kind s name =
    ap (filter (λ (x : Series). bytes_eq (sanitized_metric_name x.key.name) name)) (live_setup kind s) ∙ filter_bare name (live kind s)

-- ---- rows

map_heads : {A : Type 0} (f g : A → Row) → ((a : A) → row_head (f a) ≡ row_head (g a)) → (xs : List A) → map row_head (map f xs) ≡ map row_head (map g xs)
map_heads f g same [] = refl
map_heads f g same (x ∷ xs) = λ i. same x i ∷ map_heads f g same xs i

both_heads : (ps bs cs ds : List Row) → map row_head ps ≡ map row_head cs → map row_head bs ≡ map row_head ds → map row_head (ps ++ bs) ≡ map row_head (cs ++ ds)
both_heads ps bs cs ds p q = map-append row_head ps bs ∙ ((λ i. p i ++ q i) ∙ sym (map-append row_head cs ds))

flat_heads : (f g : Series → List Row) → ((s : Series) → map row_head (f (bare s)) ≡ map row_head (g s)) → (xs : List Series) → map row_head (flat_map f (map bare xs)) ≡ map row_head (flat_map g xs)
flat_heads f g same [] = refl
flat_heads f g same (x ∷ xs) = both_heads (f (bare x)) (flat_map f (map bare xs)) (g x) (flat_map g xs) (same x) (flat_heads f g same xs)

module _ (t : ExporterSettings) (one other : Windows) (s : PrometheusState) where
  counter_heads : (x : Series) → map row_head (counter_rows t (setup s) (bare x)) ≡ map row_head (counter_rows t s x)
  counter_heads x = refl

  gauge_heads : (x : Series) → map row_head (gauge_rows t (setup s) (bare x)) ≡ map row_head (gauge_rows t s x)
  gauge_heads x = refl

  histogram_heads : (bounds : List ℤ) (x : Series) → map row_head (histogram_rows t (setup s) bounds (bare x)) ≡ map row_head (histogram_rows t s bounds x)
  histogram_heads bounds x = both_heads _ _ _ _ (map_heads _ _ (λ b. refl) bounds) refl

  summary_heads : (x : Series) → map row_head (summary_rows t (setup s) one (bare x)) ≡ map row_head (summary_rows t s other x)
  summary_heads x = both_heads _ _ _ _ (map_heads _ _ (λ q. refl) t.quantiles) refl

  -- ---- families

  family_heads : (kind : MetricKind) (name : List ℕ) (suffix : Option (List ℕ)) (type : FamilyType) (f g : Series → List Row) → ((x : Series) → map row_head (f (bare x)) ≡ map row_head (g x))
      → family_head (family_of t (setup s) kind name suffix type f) ≡ family_head (family_of t s kind name suffix type g)
  family_heads kind name suffix type f g same =
      let rows : map row_head (flat_map f (series_named kind (setup s) name)) ≡ map row_head (flat_map g (series_named kind s name)) =
      ap (λ l. map row_head (flat_map f l)) (named_setup kind s name) ∙ flat_heads f g same (series_named kind s name) in
      λ i. record { help = shown_help s name; name = full_name name (shown_unit t s name) suffix; type = type; rows = rows i }

  distribution_heads : (name : List ℕ) (kind : DistributionKind) → option_map family_head (distribution_family t (setup s) one name kind) ≡ option_map family_head (distribution_family t s other name kind)
  distribution_heads name (NativeHistogram config) = refl
  distribution_heads name (Histogram bounds) = ap Some (family_heads kinds.Histogram name None types.Histogram (histogram_rows t (setup s) bounds) (histogram_rows t s bounds) (histogram_heads bounds))
  distribution_heads name (Summary summary) = ap Some (family_heads kinds.Histogram name None types.Summary (summary_rows t (setup s) one) (summary_rows t s other) summary_heads)

each_head : (f g : List ℕ → Family) → ((name : List ℕ) → family_head (f name) ≡ family_head (g name)) → (names : List (List ℕ)) → heads (map f names) ≡ heads (map g names)
each_head f g same [] = refl
each_head f g same (n ∷ ns) = λ i. same n i ∷ each_head f g same ns i

head_first : (o : Option Family) (families : List Family) → heads (cons_option o families) ≡ cons_option (option_map family_head o) (heads families)
head_first None families = refl
head_first (Some f) families = refl

some_heads : (f g : List ℕ → Option Family) → ((name : List ℕ) → option_map family_head (f name) ≡ option_map family_head (g name)) → (names : List (List ℕ)) → heads (filter_map f names) ≡ heads (filter_map g names)
some_heads f g same [] = refl
some_heads f g same (n ∷ ns) =
    head_first (f n) (filter_map f ns) ∙ ((λ i. cons_option (same n i) (some_heads f g same ns i)) ∙ sym (head_first (g n) (filter_map g ns)))

three_heads : (ps bs cs xs ys zs : List Family) → heads ps ≡ heads xs → heads bs ≡ heads ys → heads cs ≡ heads zs → heads ((ps ++ bs) ++ cs) ≡ heads ((xs ++ ys) ++ zs)
three_heads ps bs cs xs ys zs p q r =
    map-append family_head (ps ++ bs) cs
    ∙ (ap (λ l. l ++ heads cs) (map-append family_head ps bs)
    ∙ ((λ i. (p i ++ q i) ++ r i)
    ∙ sym (map-append family_head (xs ++ ys) zs ∙ ap (λ l. l ++ heads zs) (map-append family_head xs ys))))

last_heads : (xs ys last : List Family) → heads xs ≡ heads ys → heads (xs ++ last) ≡ heads (ys ++ last)
last_heads xs ys last same = map-append family_head xs last ∙ ap (λ l. l ++ heads last) same ∙ sym (map-append family_head ys last)

-- the families of a state, but for values, are those of its registrations and descriptions, whatever is answered of windows
pub heads_setup : (t : ExporterSettings) (one other : Windows) (s : PrometheusState) → heads (families_by t one (setup s)) ≡ heads (families_by t other s)
heads_setup t one other s = last_heads _ _ (overflow_families s.redirected) (three_heads _ _ _ _ _ _ counters gauges distributions)
  where
    counter : PrometheusState → List ℕ → Family
    counter x name = family_of t x kinds.Counter name (counter_suffix t) types.Counter (counter_rows t x)

    gauge : PrometheusState → List ℕ → Family
    gauge x name = family_of t x kinds.Gauge name None types.Gauge (gauge_rows t x)

    distribution : Windows → PrometheusState → List ℕ → Option Family
    distribution windows x name = distribution_family t x windows name (distribution_of t name)

    counters : heads (map (counter (setup s)) (names_of_kind kinds.Counter (setup s))) ≡ heads (map (counter s) (names_of_kind kinds.Counter s))
    counters =
        ap (λ ns. heads (map (counter (setup s)) ns)) (names_setup kinds.Counter s)
        ∙ each_head (counter (setup s)) (counter s) (λ name. family_heads t one other s kinds.Counter name (counter_suffix t) types.Counter (counter_rows t (setup s)) (counter_rows t s) (counter_heads t one other s)) (names_of_kind kinds.Counter s)

    gauges : heads (map (gauge (setup s)) (names_of_kind kinds.Gauge (setup s))) ≡ heads (map (gauge s) (names_of_kind kinds.Gauge s))
    gauges =
        ap (λ ns. heads (map (gauge (setup s)) ns)) (names_setup kinds.Gauge s)
        ∙ each_head (gauge (setup s)) (gauge s) (λ name. family_heads t one other s kinds.Gauge name None types.Gauge (gauge_rows t (setup s)) (gauge_rows t s) (gauge_heads t one other s)) (names_of_kind kinds.Gauge s)

    distributions : heads (filter_map (distribution one (setup s)) (names_of_kind kinds.Histogram (setup s))) ≡ heads (filter_map (distribution other s) (names_of_kind kinds.Histogram s))
    distributions =
        ap (λ ns. heads (filter_map (distribution one (setup s)) ns)) (names_setup kinds.Histogram s)
        ∙ some_heads (distribution one (setup s)) (distribution other s) (λ name. distribution_heads t one other s name (distribution_of t name)) (names_of_kind kinds.Histogram s)

-- ---- what an exporter shows

recorded_bares : (xs : List (LiveSeries Sampled)) → map bare (map series_of (map (sampled_series calls_recorded) xs)) ≡ map bare (map series_of (map (sampled_series calls_known) xs))
recorded_bares [] = refl
recorded_bares (x ∷ xs) = ap (λ l. bare (series_of (sampled_series calls_known x)) ∷ l) (recorded_bares xs)

setup_shown : (e : Exporter) → setup (state_shown e) ≡ setup (state_of e)
setup_shown e = ap (λ hs. record (setup (state_of e)) { histograms = hs }) (recorded_bares e.series.histograms)

-- what is shown of an exporter that stands for a history
pub history_heads : (cs : List RecorderEntry) (t : ExporterSettings) (x : PrometheusState) (shown : Exporter) (one other : Windows) → Reached cs t x → StandsFor cs shown
    → heads (families_by shown.settings one (state_shown shown)) ≡ heads (families_by t other x)
history_heads cs t x shown one other r st =
    let once = reached_once cs shown.settings t (setup (state_of shown)) x st r in
    sym (heads_setup shown.settings other one (state_shown shown))
    ∙ (ap (λ s. heads (families_by shown.settings other s)) (setup_shown shown) ∙ (λ i. heads (families_by (once.0 i) other (once.1 i))))
