-- The calls of a lane, each made on both exporters.
use Rattle.std.specs.Prelude.{◌≡◌, ℕ, zero, suc, ◌+◌, ◌<◌, ◌⊎◌, ◌==◌, ◌&&◌, Bool, false, if◌then◌else◌, not, List, [], ◌∷◌, ◌++◌, Option, Some, None, IfSome, map, filter, length, option_map, unwrap_or, slice_get}
use mathlib.Core.Option.{some}
use lib.ListN.{get_elem?}
use Rattle.cell_lanes.specs.Lines.{LaneText}
use Rattle.cell_lanes.specs.declared.lane.Line.{Line}
use Rattle.legal_history.specs.History.{keep}
use Rattle.cell_lanes.specs.Lanes.{LineFit, cell_calls}
use Rattle.metrics_core.specs.declared.calls.SeriesCall.{SeriesCall}
use Rattle.metrics_core.specs.declared.calls.SeriesCall.TheVariants as calls
use Rattle.metrics_core.specs.declared.kinds.MetricKind.{MetricKind}
use Rattle.metrics_core.specs.declared.kinds.MetricKind.TheVariants as kinds
use Rattle.metrics_core.specs.declared.kinds.SeriesId.{SeriesId}
use Rattle.metrics_registry.specs.Live.{id_eq}
use Rattle.prom_exporter.specs.LanePasses as P
use Rattle.dsd_exporter.specs.LanePasses as D
use Rattle.exporter_lanes.specs.declared.exporters.Exporters.{Exporters}
use Rattle.exporter_lanes.specs.declared.exporters.ExporterCall.{ExporterCall}
use Rattle.exporter_lanes.specs.declared.exporters.ExporterCall.TheVariants as exporter
use Rattle.drive_script.specs.declared.script.Act.{Act}
use Rattle.drive_script.specs.declared.script.Act.TheVariants as acts
use Rattle.drive_script.specs.declared.script.CallLine.{CallLine}
use Rattle.script_player.specs.declared.lanes.LaneSeries.{LaneSeries}
use Rattle.script_player.specs.declared.lane_lines.LaneCall.{LaneCall}
use Rattle.script_player.specs.declared.lanes.Places.{Places}

-- the call on a series that an act makes in a round at a moment, and the kind of series that it is on
abbrev pub asked : ℕ → Act → SeriesCall
asked moment (acts.Inc count) = calls.Increment count
asked moment (acts.Abs total) = calls.Absolute total
asked moment (acts.Add value) = calls.Add value
asked moment (acts.Sub value) = calls.Subtract value
asked moment (acts.Set value) = calls.Set value
asked moment (acts.Rec value) = calls.Record value moment 1
asked moment (acts.RecN value count) = calls.Record value moment count

abbrev pub kind_asked : SeriesCall → MetricKind
kind_asked (calls.Increment _) = kinds.Counter
kind_asked (calls.Absolute _) = kinds.Counter
kind_asked (calls.Add _) = kinds.Gauge
kind_asked (calls.Subtract _) = kinds.Gauge
kind_asked (calls.Set _) = kinds.Gauge
kind_asked (calls.Record _ _ _) = kinds.Histogram

-- the id at an index is this one
abbrev pub id_at : List SeriesId → ℕ → SeriesId → Bool
id_at ids j id = unwrap_or (option_map (λ own. id_eq own id) (slice_get ids j)) false

-- the handle of a call line names the series at an index
abbrev pub is_at : List SeriesId → List SeriesId → ℕ → CallLine → Bool
is_at ids handles j line = unwrap_or (option_map (id_at ids j) (slice_get handles line.handle)) false

-- the series at index j has this index, if any
abbrev pub is_place : ℕ → Option ℕ → Bool
is_place j None = false
is_place j (Some index) = index == j

abbrev pub HasLane : ℕ → CallLine → Bool
HasLane l line = line.lane == l

-- the cells of a lane with this one: as they were, or with it behind them
abbrev pub AreWith : ℕ → List ℕ → List ℕ → Type 0
AreWith index old new = (more : List ℕ) × (new ≡ old ++ more) × ((more ≡ []) ⊎ (more ≡ index ∷ []))

-- the calls of lane l on the series at an index, in the script's order
abbrev pub lines_at : List SeriesId → List SeriesId → ℕ → ℕ → List CallLine → List CallLine
lines_at ids handles l j lines = filter (λ line. HasLane l line && is_at ids handles j line) lines

abbrev pub calls_at : ℕ → List SeriesId → List SeriesId → ℕ → ℕ → List CallLine → List SeriesCall
calls_at moment ids handles l j lines = map (λ line. asked moment line.act) (lines_at ids handles l j lines)

-- the series at an index is of this kind
abbrev pub IsOfKind : List SeriesId → ℕ → MetricKind → Type 0
IsOfKind ids j kind = (id : SeriesId) × (get_elem? ids j ≡ some id) × (id.kind ≡ kind)

-- the ids of the series of both exporters, each list in the order of its exporter's indices
pub record SeriesIds : Type 0 where
  pub prometheus : List SeriesId
  pub dogstatsd : List SeriesId

abbrev pub ids_of : Exporters → SeriesIds
ids_of exporters = record { prometheus = P.ids_of exporters.prometheus; dogstatsd = D.ids_of exporters.dogstatsd }

-- how many series there are, those of the DogStatsD exporter before those of the Prometheus exporter
abbrev pub count_of : SeriesIds → ℕ
count_of ids = length ids.dogstatsd + length ids.prometheus

-- a call is for the exporter of the series at an index, and on the series' kind
abbrev pub AsksKind : SeriesIds → ℕ → ExporterCall → Type 0
AsksKind ids j (exporter.DogStatsD call) = IsOfKind ids.dogstatsd j (kind_asked call)
AsksKind ids j (exporter.Prometheus call) = (k : ℕ) × (j ≡ length ids.dogstatsd + k) × IsOfKind ids.prometheus k (kind_asked call)

-- the cells of a lane are indices of series, and the call of each line that is on a series is one for it
abbrev pub AllAsked : SeriesIds → List ℕ → List (Line ExporterCall) → Type 0
AllAsked ids cells lines =
    ((s j : ℕ) → get_elem? cells s ≡ some j → j < count_of ids)
    × ((k : ℕ) (x : Line ExporterCall) → get_elem? lines k ≡ some x → IfSome x.slot (λ slot. (j : ℕ) → get_elem? cells slot ≡ some j → AsksKind ids j x.call))

-- a call on both exporters, first on the Prometheus exporter
abbrev pub on_both : SeriesCall → List ExporterCall
on_both call = exporter.Prometheus call ∷ exporter.DogStatsD call ∷ []

-- what it asks for on the series at an index
abbrev pub both_at : ℕ → Places → SeriesCall → List ExporterCall
both_at j places call = keep (is_place j places.prometheus) (exporter.Prometheus call) [] ++ keep (is_place j places.dogstatsd) (exporter.DogStatsD call) []

-- it is on the kind of the series at both places
abbrev pub PlacesAsk : SeriesIds → Places → SeriesCall → Type 0
PlacesAsk ids places call =
    IfSome places.prometheus (λ index. AsksKind ids index (exporter.Prometheus call)) × IfSome places.dogstatsd (λ index. AsksKind ids index (exporter.DogStatsD call))

-- what lane l asks for in the script's order, on whatever series or on none
abbrev pub lane_asks : ℕ → ℕ → List CallLine → List SeriesCall
lane_asks moment l lines = map (λ line. asked moment line.act) (filter (HasLane l) lines)

abbrev pub call_asked : Line ExporterCall → ExporterCall
call_asked line = line.call

-- what is told of the one with number l, the first of them; nothing where there is none
abbrev pub numbered : {X A : Type 0} → (X → ℕ) → (X → List A) → List X → ℕ → List A
numbered number tells [] l = []
numbered number tells (x ∷ xs) l = if number x == l then tells x else numbered number tells xs l

abbrev pub lane_number : {K : Type 0} → LaneText K → ℕ
lane_number lane = lane.number

-- what the lane with number l asks for on the series at an index, and all that it asks for
abbrev pub numbered_at : {K : Type 0} → ℕ → List (LaneText K) → ℕ → List K
numbered_at j = numbered lane_number (λ lane. cell_calls j lane.cells lane.lines)

abbrev pub numbered_asked : List (LaneText ExporterCall) → ℕ → List ExporterCall
numbered_asked = numbered lane_number (λ lane. map call_asked lane.lines)

-- what is told of a lane while the calls of a round are looked through: the cells that it names, and its calls
abbrev pub lane_cells : LaneSeries → List ℕ
lane_cells series = series.cells.keys

abbrev pub lane_its : LaneSeries → List LaneCall
lane_its series = series.calls.items
