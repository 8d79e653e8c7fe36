-- Registering, describing and lending are the same whatever calls are known.
use Rattle.std.proofs.Common.{◌≡◌, ℕ, ◌+◌, ◌==◌, Bool, true, false, List, [], ◌∷◌, ◌++◌, map, cond, refl, sym, ap, ◌∙◌, Option, Some, None}
use Rattle.std.specs.Prelude.{suc, ◌-◌, length, filter, bytes_eq, not, ◌&&◌, find, is_some, option_map, unwrap_or, if◌then◌else◌}
use Rattle.metrics_core.specs.Keys.{KeyText, key_eq}
use Rattle.metrics_core.specs.declared.units.Unit.{Unit as UnitOf}
use Rattle.metrics_core.specs.declared.kinds.MetricKind.{MetricKind}
use Rattle.metrics_core.specs.declared.kinds.MetricKind.TheVariants as kinds
use Rattle.metrics_core.specs.declared.kinds.SeriesId.{SeriesId}
use Rattle.metric_descriptions.specs.Descriptions.{description_of, put_description}
use Rattle.metrics_registry.specs.Live.{LiveSeries, has_id, with_cell}
use Rattle.prom_format.specs.Names.{sanitized_metric_name}
use Rattle.series_cells.specs.declared.counter.PromCounter.{PromCounter}
use Rattle.series_cells.specs.declared.gauge.PromGauge.{PromGauge}
use Rattle.series_cells.specs.declared.pass.CellPass.{CellPass}
use Rattle.prom_exporter.specs.declared.lent.Lent.{Lent}
use Rattle.prom_exporter.specs.Shared.{Shared}
use Rattle.prom_exporter.specs.Sampled.{Sampled, calls_known}
use Rattle.prom_exporter.specs.Values.{series_of, seen_series, sampled_series}
use Rattle.name_counts.specs.Counts.{raised}
use Rattle.prom_exporter.specs.State.{Series, PrometheusState, count_named, counted, describe, is_below, is_redirected, key_given, live, live_series, metric_name_of, no_series, number_given, number_of, overflow_key, register, with_live, with_redirection, with_series}
use Rattle.prom_exporter.specs.Exporter.{Exporter, state_of}
use Rattle.histogram_series.specs.Entries.{TimedQueue}
use Rattle.prom_exporter.specs.Lending.{LendsCounter, LendsGauge, LendsHistogram, TimedPass}
use Rattle.shared_recorder.specs.Setup.{bare, setup}

-- ---- registering

cond_bare : (b : Bool) (x : Series) (o : Option Series) → cond b (Some (bare x)) (option_map bare o) ≡ option_map bare (cond b (Some x) o)
cond_bare true x o = refl
cond_bare false x o = refl

find_bare : (key : KeyText) (xs : List Series) → find (λ (s : Series). key_eq s.key key) (map bare xs) ≡ option_map bare (find (λ (s : Series). key_eq s.key key) xs)
find_bare key [] = refl
find_bare key (x ∷ xs) = ap (λ o. cond (key_eq x.key key) (Some (bare x)) o) (find_bare key xs) ∙ cond_bare (key_eq x.key key) x (find (λ (s : Series). key_eq s.key key) xs)

number_bare : (o : Option Series) (n : ℕ) → unwrap_or (option_map (λ (s : Series). s.number) (option_map bare o)) n ≡ unwrap_or (option_map (λ (s : Series). s.number) o) n
number_bare None n = refl
number_bare (Some x) n = refl

some_bare : (o : Option Series) → is_some (option_map bare o) ≡ is_some o
some_bare None = refl
some_bare (Some x) = refl

map_snoc : (xs : List Series) (x : Series) → map bare (xs ++ x ∷ []) ≡ map bare xs ++ bare x ∷ []
map_snoc [] x = refl
map_snoc (y ∷ ys) x = ap (λ l. bare y ∷ l) (map_snoc ys x)

pub live_setup : (kind : MetricKind) (s : PrometheusState) → live kind (setup s) ≡ map bare (live kind s)
live_setup kinds.Counter s = refl
live_setup kinds.Gauge s = refl
live_setup kinds.Histogram s = refl

-- the number of the series of a key
number_of_setup : (kind : MetricKind) (key : KeyText) (s : PrometheusState) → number_of kind key (setup s) ≡ number_of kind key s
number_of_setup kind key s =
    ap (λ l. unwrap_or (option_map (λ (x : Series). x.number) (find (λ (x : Series). key_eq x.key key) l)) s.made) (live_setup kind s)
    ∙ (ap (λ o. unwrap_or (option_map (λ (x : Series). x.number) o) s.made) (find_bare key (live kind s)) ∙ number_bare (find (λ (x : Series). key_eq x.key key) (live kind s)) s.made)

abbrev pub new_series : ℕ → KeyText → Series
new_series n key = record { number = n; key = key; calls = []; note = None }

abbrev pub added : MetricKind → KeyText → PrometheusState → PrometheusState
added kind key x = record (with_live kind (live kind x ++ new_series x.made key ∷ []) x) { made = x.made + 1 }

abbrev pub choose : Bool → Bool → MetricKind → KeyText → PrometheusState → PrometheusState
choose a b kind key x = if a then x else if b then x else added kind key x

added_setup : (kind : MetricKind) (key : KeyText) (s : PrometheusState) → setup (added kind key s) ≡ added kind key (setup s)
added_setup kinds.Counter key s = ap (λ l. record (setup s) { counters = l; made = s.made + 1 }) (map_snoc s.counters (new_series s.made key))
added_setup kinds.Gauge key s = ap (λ l. record (setup s) { gauges = l; made = s.made + 1 }) (map_snoc s.gauges (new_series s.made key))
added_setup kinds.Histogram key s = ap (λ l. record (setup s) { histograms = l; made = s.made + 1 }) (map_snoc s.histograms (new_series s.made key))

choose_setup : (a b : Bool) (kind : MetricKind) (key : KeyText) (s : PrometheusState) → setup (choose a b kind key s) ≡ choose a b kind key (setup s)
choose_setup true b kind key s = refl
choose_setup false true kind key s = refl
choose_setup false false kind key s = added_setup kind key s

found_setup : (kind : MetricKind) (key : KeyText) (s : PrometheusState) → is_some (live_series kind key (setup s)) ≡ is_some (live_series kind key s)
found_setup kind key s =
    ap (λ l. is_some (find (λ (x : Series). key_eq x.key key) l)) (live_setup kind s)
    ∙ (ap is_some (find_bare key (live kind s)) ∙ some_bare (find (λ (x : Series). key_eq x.key key) (live kind s)))

-- the series of a key
series_setup : (kind : MetricKind) (key : KeyText) (s : PrometheusState) → setup (with_series kind key s) ≡ with_series kind key (setup s)
series_setup kind key s =
    choose_setup (is_some (live_series kind key s)) (s.made == no_series) kind key s
    ∙ ap (λ b. choose b (s.made == no_series) kind key (setup s)) (sym (found_setup kind key s))

-- which registrations are redirected
abbrev pub is_named : List ℕ → Series → Bool
is_named name x = bytes_eq (metric_name_of x.key) name

named_bare : (name : List ℕ) (xs : List Series) → length (filter (is_named name) (map bare xs)) ≡ length (filter (is_named name) xs)
named_bare name [] = refl
named_bare name (x ∷ xs) = by (is_named name x) (named_bare name xs)
  where
    by : (b : Bool) → length (filter (is_named name) (map bare xs)) ≡ length (filter (is_named name) xs)
        → length (cond b (bare x ∷ filter (is_named name) (map bare xs)) (filter (is_named name) (map bare xs))) ≡ length (cond b (x ∷ filter (is_named name) xs) (filter (is_named name) xs))
    by true same = ap suc same
    by false same = same

counted_setup : (kind : MetricKind) (name : List ℕ) (s : PrometheusState) → counted kind name (setup s) ≡ counted kind name s
counted_setup kind name s =
    let many : count_named kind name (setup s) ≡ count_named kind name s
    = ap (λ l. length (filter (is_named name) l)) (live_setup kind s) ∙ named_bare name (live kind s) in
    λ i. if found_setup kind (overflow_key name) s i then many i - 1 else many i

redirected_setup : (kind : MetricKind) (key : KeyText) (s : PrometheusState) → is_redirected kind key (setup s) ≡ is_redirected kind key s
redirected_setup kind key s = λ i. not (found_setup kind key s i) && not (is_below (counted_setup kind (metric_name_of key) s i) s.limit)

key_setup : (kind : MetricKind) (key : KeyText) (s : PrometheusState) → key_given kind key (setup s) ≡ key_given kind key s
key_setup kind key s = ap (λ b. if b then overflow_key (metric_name_of key) else key) (redirected_setup kind key s)

redirection_setup : (kind : MetricKind) (key : KeyText) (s : PrometheusState) → setup (with_redirection kind key s) ≡ with_redirection kind key (setup s)
redirection_setup kind key s =
    by (is_redirected kind key s)
    ∙ ap (λ b. if b then record (setup s) { redirected = raised kind (metric_name_of key) s.redirected } else setup s) (sym (redirected_setup kind key s))
  where
    by : (b : Bool) → setup (if b then record s { redirected = raised kind (metric_name_of key) s.redirected } else s) ≡ if b then record (setup s) { redirected = raised kind (metric_name_of key) s.redirected } else setup s
    by true = refl
    by false = refl

-- the number that a registration gives
pub number_setup : (kind : MetricKind) (key : KeyText) (s : PrometheusState) → number_given kind key (setup s) ≡ number_given kind key s
number_setup kind key s = ap (λ k. number_of kind k (setup s)) (key_setup kind key s) ∙ number_of_setup kind (key_given kind key s) s

-- what a registration makes
pub register_setup : (kind : MetricKind) (key : KeyText) (s : PrometheusState) → setup (register kind key s) ≡ register kind key (setup s)
register_setup kind key s =
    series_setup kind (key_given kind key s) (with_redirection kind key s)
    ∙ (λ i. with_series kind (sym (key_setup kind key s) i) (redirection_setup kind key s i))

-- ---- describing

described : (b : Bool) (name : List ℕ) (unit : Option UnitOf) (text : List ℕ) (s : PrometheusState)
    → setup (if b then s else record s { pending = put_description s.pending (record { name = name; text = text; unit = unit }) })
    ≡ if b then setup s else record (setup s) { pending = put_description s.pending (record { name = name; text = text; unit = unit }) }
described true name unit text s = refl
described false name unit text s = refl

pub describe_setup : (name : List ℕ) (unit : Option UnitOf) (text : List ℕ) (s : PrometheusState) → setup (describe name unit text s) ≡ describe name unit text (setup s)
describe_setup name unit text s = described (is_some (description_of s.published (sanitized_metric_name name))) (sanitized_metric_name name) unit text s

-- ---- lending

-- the series of an exporter as registered
abbrev pub bares : {F : Type 0} → List (LiveSeries (Shared F)) → List Series
bares xs = map bare (map series_of (map seen_series xs))

abbrev pub sampled_bares : List (LiveSeries Sampled) → List Series
sampled_bares xs = map bare (map series_of (map (sampled_series calls_known) xs))

bare_set : {F : Type 0} (id : SeriesId) (cell : Shared F) (es : List (LiveSeries (Shared F))) → bares (with_cell id es cell) ≡ bares es
bare_set id cell [] = refl
bare_set id cell (e ∷ es) =
    (λ j. elim (has_id id e) as (λ b. bare (series_of (seen_series (if b then record e { cell = cell } else e))) ≡ bare (series_of (seen_series e))) [ true ↦ refl | false ↦ refl ] j ∷ bare_set id cell es j)

-- lending changes nothing that entries made
pub counter_setup : (id : SeriesId) (lent : Option (Lent (Option PromCounter) CellPass)) (x y : Exporter) → LendsCounter id lent x y → (y.settings ≡ x.settings) × (setup (state_of y) ≡ setup (state_of x))
counter_setup id None x y l = (ap (λ (e : Exporter). e.settings) l.1, ap (λ (e : Exporter). setup (state_of e)) l.1)
counter_setup id (Some lent) x y l = (
  ap (λ (e : Exporter). e.settings) l.4,
  ap (λ (e : Exporter). setup (state_of e)) l.4
      ∙ ap (λ cs. record (setup (state_of x)) { counters = cs })
      (bare_set id l.1 x.series.counters),
)

pub gauge_setup : (id : SeriesId) (lent : Option (Lent (Option PromGauge) CellPass)) (x y : Exporter) → LendsGauge id lent x y → (y.settings ≡ x.settings) × (setup (state_of y) ≡ setup (state_of x))
gauge_setup id None x y l = (ap (λ (e : Exporter). e.settings) l.1, ap (λ (e : Exporter). setup (state_of e)) l.1)
gauge_setup id (Some lent) x y l = (
  ap (λ (e : Exporter). e.settings) l.4,
  ap (λ (e : Exporter). setup (state_of e)) l.4
      ∙ ap (λ gs. record (setup (state_of x)) { gauges = gs })
      (bare_set id l.1 x.series.gauges),
)

sampled_set : (id : SeriesId) (cell : Sampled) (es : List (LiveSeries Sampled)) → sampled_bares (with_cell id es cell) ≡ sampled_bares es
sampled_set id cell [] = refl
sampled_set id cell (e ∷ es) =
    (λ j. elim (has_id id e) as (λ b. bare (series_of (sampled_series calls_known (if b then record e { cell = cell } else e))) ≡ bare (series_of (sampled_series calls_known e))) [ true ↦ refl | false ↦ refl ] j ∷ sampled_set id cell es j)

pub histogram_setup : (id : SeriesId) (lent : Option (Lent (Option TimedQueue) TimedPass)) (x y : Exporter) → LendsHistogram id lent x y → (y.settings ≡ x.settings) × (setup (state_of y) ≡ setup (state_of x))
histogram_setup id None x y l = (ap (λ (e : Exporter). e.settings) l.1, ap (λ (e : Exporter). setup (state_of e)) l.1)
histogram_setup id (Some lent) x y l = (
  ap (λ (e : Exporter). e.settings) l.4,
  ap (λ (e : Exporter). setup (state_of e)) l.4
      ∙ ap (λ hs. record (setup (state_of x)) { histograms = hs })
      (sampled_set id l.1 x.series.histograms),
)
