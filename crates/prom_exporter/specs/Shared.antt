-- A counter or a gauge as the exporter keeps it: the cell, once it was lent, what the exporter's own pass of it knows, and what the last page noted of it.
use Rattle.std.specs.Prelude.{◌≡◌, ℕ, List, Option, Some, None}
use Rattle.legal_history.specs.declared.history.Entry.{Entry}
use Rattle.legal_history.specs.declared.history.View.{View}
use Rattle.legal_history.specs.History.{calls, looked, first, lender, taker, Sees}
use Rattle.cell_lanes.specs.Calls.{CountsCalls}
use Rattle.cell_lanes.specs.Things.{Thing}
use Rattle.metrics_core.specs.declared.calls.SeriesCall.{SeriesCall}
use Rattle.series_cells.specs.Values.{calls_of}
use Rattle.metrics_core.specs.Calls.{Call}

pub record Shared (F : Type 0) : Type 0 where
  pub cell : F
  pub root : View SeriesCall
  pub note : Option (ℕ × ℕ)  -- count of updates, moment

-- a cell is made once: then it is the one that is there
abbrev pub Makes : {F : Type 0} → Option F → F → Type 0
Makes None cell = Unit {0}
Makes (Some made) cell = cell ≡ made

-- what is kept of a series: its cell where it is made, and what the exporter's own pass knows; of one that isn't made the pass would be that of a new cell
abbrev pub cell_kept : {F : Type 0} → Option (Thing SeriesCall F) → Option F
cell_kept None = None
cell_kept (Some made) = Some made.fixed

abbrev pub root_kept : {F : Type 0} → Option (Thing SeriesCall F) → View SeriesCall
root_kept None = first
root_kept (Some made) = made.root

-- with no pass out, the exporter's own pass has seen the whole history
abbrev pub KnowsAll : View SeriesCall → Type 0
KnowsAll root = root.out ≡ 0 → Sees root root.seen

module _ {F : Type 0} where
  -- all calls that the exporter has seen, in the order of the cell's history
  abbrev pub calls_seen : Shared F → List Call
  calls_seen s = calls_of (calls s.root.seen)

  -- no pass of the cell is out
  abbrev pub IsHome : Shared F → Type 0
  IsHome s = (s.root.number ≡ 0) × (s.root.out ≡ 0)

  -- a cell that nobody has called, with no pass out and no note
  abbrev pub unused : F → Shared F
  unused cell = record { cell = cell; root = first; note = None }

  -- the exporter has looked on: it has seen a beginning of the history that has all that it had seen
  abbrev pub Looks : Shared F → Shared F → Type 0
  Looks s t = (log : List (Entry SeriesCall)) × Sees s.root log × (t ≡ record s { root = looked s.root log })

  -- the exporter has counted the updates of a cell, modulo 2 ^ 64, and has then looked on
  abbrev pub Counts : Shared F → ℕ → Shared F → Type 0
  Counts s n t = (counted : View SeriesCall) × CountsCalls s.root n counted × Looks (record s { root = counted }) t

  -- one whose cell isn't made yet
  abbrev pub unmade : Shared (Option F)
  unmade = record { cell = None; root = first; note = None }

  -- one more pass of a cell is out
  abbrev pub with_lent : F → Shared (Option F) → Shared (Option F)
  with_lent cell s = record { cell = Some cell; root = lender s.root; note = s.note }

  -- a pass was taken back that knew so much, and the exporter looked
  abbrev pub TakesBack : View SeriesCall → Shared F → Shared F → Type 0
  TakesBack known s t = Looks (record s { root = taker s.root known }) t
