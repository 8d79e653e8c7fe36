-- Lanes whose calls stand among those of a round, and the series that they name.
use Rattle.std.specs.Prelude.{◌≡◌, ℕ, ◌+◌, ◌<◌, Bool, false, List, [], ◌∷◌, ◌++◌, Option, Some, None, IfSome, All, filter, flat_map, length, map, option_map, unwrap_or, slice_get}
use mathlib.Core.Option.{some}
use lib.ListN.{get_elem?}
use Rattle.cell_lanes.specs.declared.lane.Line.{Line}
use Rattle.cell_lanes.specs.Lines.{LaneText}
use Rattle.cell_lanes.specs.Lanes.{AllFit, LineFit, cell_calls}
use Rattle.legal_history.specs.History.{Distinct}
use Rattle.metrics_core.specs.declared.kinds.SeriesId.{SeriesId}
use Rattle.exporter_lanes.specs.declared.exporters.Exporters.{Exporters}
use Rattle.exporter_lanes.specs.declared.exporters.ExporterCall.{ExporterCall}
use Rattle.exporter_lanes.specs.declared.exporters.ExporterCall.TheVariants as exporter
use Rattle.exporter_lanes.specs.ExporterLanes.{first_prometheus, things_of}
use Rattle.prom_exporter.specs.LanePasses as P
use Rattle.dsd_exporter.specs.LanePasses as D
use Rattle.drive_script.specs.Texts.{call_line_of}
use Rattle.drive_script.specs.declared.script.CallLine.{CallLine}
use Rattle.script_player.specs.declared.lanes.Places.{Places}
use Rattle.script_player.specs.declared.lane_lines.LaneCall.{LaneCall}
use Rattle.script_player.specs.declared.lanes.LaneSeries.{LaneSeries}
use Rattle.script_player.specs.Fitting.{FitsHandle}
use Rattle.script_player.specs.LaneCalls.{AllAsked, AreWith, IsOfKind, SeriesIds, asked, call_asked, calls_at, id_at, ids_of, is_place, lane_asks, lane_cells, lane_its, lane_number, numbered_asked, numbered_at, on_both}

-- the id that a handle names, if any, is the one at an index
abbrev pub names_index : List SeriesId → Option SeriesId → ℕ → Bool
names_index ids own j = unwrap_or (option_map (id_at ids j) own) false

-- a place is the index of the series with an id, if there is such an id and such a series
abbrev pub IsPlaceOf : List SeriesId → Option SeriesId → Option ℕ → Type 0
IsPlaceOf ids own place = ((j : ℕ) → names_index ids own j ≡ is_place j place) × IfSome own (λ id. IfSome place (λ index. IsOfKind ids index id.kind))

-- two places are those of the series that a handle names in both exporters, the first behind all of the other exporter
abbrev pub ArePlacesOf : SeriesIds → Option SeriesId → Option SeriesId → Places → Type 0
ArePlacesOf ids own other places =
    (found : Option ℕ) × (places.prometheus ≡ option_map (λ k. length ids.dogstatsd + k) found) × IsPlaceOf ids.prometheus own found × IsPlaceOf ids.dogstatsd other places.dogstatsd

abbrev pub AllFitHandles : List SeriesId → List CallLine → Type 0
AllFitHandles handles calls = All (λ line. FitsHandle handles (call_line_of line)) calls

-- the two lines of a call, each on the series at its slot, or on none
abbrev pub pair_of : ℕ → LaneCall → List (Line ExporterCall)
pair_of moment own =
    record { slot = own.prometheus; call = exporter.Prometheus (asked moment own.line.now.act) } ∷ record { slot = own.dogstatsd; call = exporter.DogStatsD (asked moment own.line.now.act) } ∷ []

-- the lines of a lane's calls
abbrev pub lines_of : ℕ → List LaneCall → List (Line ExporterCall)
lines_of moment calls = flat_map (pair_of moment) calls

-- the series at a place, if there is one, is named: it has this slot among the cells, as they are now
abbrev pub IsNamedAt : Option ℕ → List ℕ → List ℕ → Option ℕ → Type 0
IsNamedAt None old new slot = (slot ≡ None) × (new ≡ old)
IsNamedAt (Some index) old new slot = (s : ℕ) × (slot ≡ Some s) × AreWith index old new × (slice_get new s ≡ Some index)

-- the series at both places are named, for the call of a line
abbrev pub NamesBoth : Places → CallLine → List ℕ → List LaneCall → List ℕ → List LaneCall → Type 0
NamesBoth places line old calls new calls' =
    (between : List ℕ) × (own : LaneCall) × IsNamedAt places.prometheus old between own.prometheus × IsNamedAt places.dogstatsd between new own.dogstatsd × (own.line.now ≡ line) × (calls' ≡ calls ++ own ∷ [])

-- these lines on these cells are what the calls ask of the lane with a number, on the series that the handles name
pub record HasCalls (ids : SeriesIds) (handles line_handles : List SeriesId) (moment number : ℕ) (calls : List CallLine) (cells : List ℕ) (its : List (Line ExporterCall)) : Type 0 where
  pub fit : LineFit (length cells) its
  pub asked : AllAsked ids cells its
  pub prometheus : (j : ℕ) → cell_calls (length ids.dogstatsd + j) cells its ≡ map exporter.Prometheus (calls_at moment ids.prometheus handles number j calls)
  pub dogstatsd : (j : ℕ) → j < length ids.dogstatsd → cell_calls j cells its ≡ map exporter.DogStatsD (calls_at moment ids.dogstatsd line_handles number j calls)
  pub lines : map call_asked its ≡ flat_map on_both (lane_asks moment number calls)

-- these are the calls of the lane with a number: their lines are what the calls of the round ask of it, at whatever moment
abbrev pub NamesCalls : SeriesIds → List SeriesId → List SeriesId → ℕ → List CallLine → List ℕ → List LaneCall → Type 0
NamesCalls ids handles line_handles number calls cells its =
    (moment : ℕ) → HasCalls ids handles line_handles moment number calls cells (lines_of moment its)

-- so of each lane, in the order of their numbers
abbrev pub AllNamed : SeriesIds → List SeriesId → List SeriesId → List CallLine → List LaneSeries → Type 0
AllNamed ids handles line_handles calls all =
    (n : ℕ) (series : LaneSeries) → get_elem? all n ≡ some series → NamesCalls ids handles line_handles n calls (lane_cells series) (lane_its series)

-- the lane with a number, at a moment
abbrev pub lane_of : ℕ → ℕ → List ℕ → List LaneCall → LaneText ExporterCall
lane_of number moment cells its = record { number = number; cells = cells; lines = lines_of moment its }

-- the lanes of a round, as they can be run side by side
pub record AreLanes (exporters : Exporters) (lanes : List (LaneText ExporterCall)) : Type 0 where
  -- each line is on a cell of its lane, or on none, and each cell is that of a series, once
  pub fit : AllFit (length (things_of exporters)) lanes
  -- each call is for the exporter of its series, and on the series' kind
  pub asked : (l : ℕ) (lane : LaneText ExporterCall) → get_elem? lanes l ≡ some lane → AllAsked (ids_of exporters) lane.cells lane.lines
  -- no number is that of two lanes
  pub numbers : Distinct (map lane_number lanes)
  -- and no lane is without calls
  pub busy : (i : ℕ) (lane : LaneText ExporterCall) → get_elem? lanes i ≡ some lane → 0 < length lane.lines

-- the lanes of a round at a moment have these calls, on the series that the handles name
pub record HaveCalls (exporters : Exporters) (handles line_handles : List SeriesId) (moment : ℕ) (calls : List CallLine) (lanes : List (LaneText ExporterCall)) : Type 0 where
  -- those of each lane on each Prometheus series, in the script's order
  pub prometheus : (j l : ℕ) → numbered_at (first_prometheus exporters + j) lanes l ≡ map exporter.Prometheus (calls_at moment (P.ids_of exporters.prometheus) handles l j calls)
  -- those on each DogStatsD series
  pub dogstatsd : (j l : ℕ) → j < first_prometheus exporters → numbered_at j lanes l ≡ map exporter.DogStatsD (calls_at moment (D.ids_of exporters.dogstatsd) line_handles l j calls)
  -- and all calls of each lane, each on both
  pub lines : (l : ℕ) → numbered_asked lanes l ≡ flat_map on_both (lane_asks moment l calls)
