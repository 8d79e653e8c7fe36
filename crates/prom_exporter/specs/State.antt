-- The state of the Prometheus exporter, and the steps of registering, describing, calling and rendering.
use Rattle.std.specs.Prelude.{ℕ, ◌+◌, ◌-◌, ◌^◌, Bool, true, not, ◌==◌, ◌&&◌, nat_lt, List, [], ◌∷◌, ◌++◌, map, length, filter, bytes_eq, codes, Option, Some, None, find, filter_map, is_some, option_map, unwrap_or, if◌then◌else◌}
use Rattle.std.specs.List.{list_any}
use Rattle.metrics_core.specs.declared.kinds.MetricKind.{MetricKind}
use Rattle.metrics_core.specs.declared.kinds.MetricKind.TheVariants as kinds
use Rattle.metrics_core.specs.declared.units.Unit.{Unit as UnitOf}
use Rattle.metrics_core.specs.Numbers.{in_64_bits}
use Rattle.metrics_core.specs.Keys.{KeyText, key_eq}
use Rattle.metrics_core.specs.Calls.{Call, update_count}
use Rattle.metrics_registry.specs.Recency.{Idle, note_left}
use Rattle.metric_descriptions.specs.Descriptions.{Description, description_of, put_description}
use Rattle.name_counts.specs.Counts.{NameCount, raised}
use Rattle.prom_format.specs.Names.{sanitized_metric_name}

-- one live series: its number and key, all calls on it, and what the last page noted of it
pub record Series : Type 0 where
  pub number : ℕ
  pub key : KeyText
  pub calls : List Call
  pub note : Option (ℕ × ℕ)  -- count of updates, moment

-- the live series of each kind in order of registration, how many series were ever made, the descriptions by metric name, at most how many series of one
-- kind and metric name are made, if there is a limit, and how often registrations past it were redirected
pub record PrometheusState : Type 0 where
  pub counters : List Series
  pub gauges : List Series
  pub histograms : List Series
  pub made : ℕ
  pub published : List Description
  pub pending : List Description
  pub limit : Option ℕ
  pub redirected : List NameCount

-- no series yet, with this limit or none
abbrev pub state_with : Option ℕ → PrometheusState
state_with limit = record { counters = []; gauges = []; histograms = []; made = 0; published = []; pending = []; limit = limit; redirected = [] }

abbrev pub empty_state : PrometheusState
empty_state = state_with None

-- the live series of a kind
abbrev pub live : MetricKind → PrometheusState → List Series
live kinds.Counter s = s.counters
live kinds.Gauge s = s.gauges
live kinds.Histogram s = s.histograms

-- the state with other series of a kind
abbrev pub with_live : MetricKind → List Series → PrometheusState → PrometheusState
with_live kinds.Counter series s = record s { counters = series }
with_live kinds.Gauge series s = record s { gauges = series }
with_live kinds.Histogram series s = record s { histograms = series }

-- ---- registering

-- the number that no series ever has
abbrev pub no_series : ℕ
no_series = 2 ^ 64 - 1

-- the live series of the kind with an equal key
abbrev pub live_series : MetricKind → KeyText → PrometheusState → Option Series
live_series kind key s = find (λ series. key_eq series.key key) (live kind s)

-- the number of the series with a key: that of the live one, or else of the next one to be made
abbrev pub number_of : MetricKind → KeyText → PrometheusState → ℕ
number_of kind key s = unwrap_or (option_map (λ series. series.number) (live_series kind key s)) s.made

-- the series of a key is there: nothing changes where it is live, or no number is left; otherwise a new one goes last
abbrev pub with_series : MetricKind → KeyText → PrometheusState → PrometheusState
with_series kind key s =
    if is_some (live_series kind key s) then s
    else if s.made == no_series then s
    else record (with_live kind (live kind s ++ record { number = s.made; key = key; calls = []; note = None } ∷ []) s) { made = s.made + 1 }

abbrev pub metric_name_of : KeyText → List ℕ
metric_name_of key = sanitized_metric_name key.name

-- the key of the overflow series of a metric name, which has the one label `overflow`
abbrev pub overflow_key : List ℕ → KeyText
overflow_key name = record { name = name; labels = record { key = codes "overflow"; value = codes "true" } ∷ [] }

-- how many live series of a kind have a metric name
abbrev pub count_named : MetricKind → List ℕ → PrometheusState → ℕ
count_named kind name s = length (filter (λ series. bytes_eq (metric_name_of series.key) name) (live kind s))

-- how many of them count against the limit: the overflow series doesn't, where it is live
abbrev pub counted : MetricKind → List ℕ → PrometheusState → ℕ
counted kind name s =
    if is_some (live_series kind (overflow_key name) s) then count_named kind name s - 1 else count_named kind name s

abbrev pub is_below : ℕ → Option ℕ → Bool
is_below n None = true
is_below n (Some limit) = nat_lt n limit

-- whether a registration is redirected: no series with its key is live, and as many of its kind and metric name as may be are
abbrev pub is_redirected : MetricKind → KeyText → PrometheusState → Bool
is_redirected kind key s = not (is_some (live_series kind key s)) && not (is_below (counted kind (metric_name_of key) s) s.limit)

-- the key whose series a registration gets: its own, or that of the overflow series
abbrev pub key_given : MetricKind → KeyText → PrometheusState → KeyText
key_given kind key s = if is_redirected kind key s then overflow_key (metric_name_of key) else key

-- the metric name whose overflow series a registration gets, where it is redirected
abbrev pub redirected_to : MetricKind → KeyText → PrometheusState → Option (List ℕ)
redirected_to kind key s = if is_redirected kind key s then Some (metric_name_of key) else None

-- what is redirected is counted
abbrev pub with_raised : MetricKind → List ℕ → PrometheusState → PrometheusState
with_raised kind name s = record s { redirected = raised kind name s.redirected }

abbrev pub with_redirection : MetricKind → KeyText → PrometheusState → PrometheusState
with_redirection kind key s = if is_redirected kind key s then with_raised kind (metric_name_of key) s else s

-- the number that a registration gives, and the state that it leaves
abbrev pub number_given : MetricKind → KeyText → PrometheusState → ℕ
number_given kind key s = number_of kind (key_given kind key s) s

abbrev pub register : MetricKind → KeyText → PrometheusState → PrometheusState
register kind key s = with_series kind (key_given kind key s) (with_redirection kind key s)

-- ---- describing

-- describing changes nothing where the metric name is published; otherwise the text waits for the next page
abbrev pub describe : List ℕ → Option UnitOf → List ℕ → PrometheusState → PrometheusState
describe name unit text s =
    if is_some (description_of s.published (sanitized_metric_name name)) then s
    else record s { pending = put_description s.pending (record { name = sanitized_metric_name name; text = text; unit = unit }) }

-- ---- calling

abbrev pub with_call : ℕ → Call → Series → Series
with_call number call series = if series.number == number then record series { calls = series.calls ++ call ∷ [] } else series

-- a call goes to the live series of the kind with the number; where none is live nothing changes
abbrev pub call_on : MetricKind → ℕ → Call → PrometheusState → PrometheusState
call_on kind number call s = with_live kind (map (with_call number call) (live kind s)) s

-- whether a series of the kind with the number is live
abbrev pub is_live : MetricKind → ℕ → PrometheusState → Bool
is_live kind number s = list_any (λ series. series.number == number) (live kind s)

-- what waits is published, behind what was published before
abbrev pub publish : PrometheusState → PrometheusState
publish s = record s { published = s.published ++ s.pending; pending = [] }

-- ---- rendering

abbrev pub count_of_updates : MetricKind → Series → ℕ
count_of_updates kind series = in_64_bits (update_count kind series.calls)

-- a series of a kind with the note that a page at a moment leaves of it; an idle one is no longer live
abbrev pub kept_at : Option Idle → ℕ → MetricKind → Series → Option Series
kept_at idle t kind series =
    option_map (λ note. record series { note = note }) (note_left idle kind series.note (count_of_updates kind series) t)

abbrev pub all_kept : Option Idle → ℕ → MetricKind → PrometheusState → List Series
all_kept idle t kind s = filter_map (kept_at idle t kind) (live kind s)

-- a page at moment t publishes what waits, and removes the series that are idle
abbrev pub page_step : Option Idle → ℕ → PrometheusState → PrometheusState
page_step idle t s = record s {
  counters = all_kept idle t kinds.Counter s;
  gauges = all_kept idle t kinds.Gauge s;
  histograms = all_kept idle t kinds.Histogram s;
  published = s.published ++ s.pending;
  pending = [];
}
