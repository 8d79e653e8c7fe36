-- What contracts read of cells and their passes.
use Rattle.std.specs.Prelude.{◌≡◌, ℕ, ◌+◌, ◌%◌, ◌^◌, ◌<◌, ◌≤◌, List, [], ◌∷◌, ℤ, length}
use Rattle.metrics_core.specs.Calls.{Call, counter_value, gauge_value}
use base.Stored.{Coded-set}
use Rattle.atomic_table.specs.Seated.{table_id_coded}
use Rattle.legal_history.specs.declared.history.Entry.{Entry}
use Rattle.legal_history.specs.declared.history.View.{View}
use Rattle.legal_history.specs.History.{calls, after, looked, Sees}
use Rattle.metrics_core.specs.declared.calls.SeriesCall.{SeriesCall}
use Rattle.series_cells.specs.declared.counter.PromCounter.{PromCounter}
use Rattle.series_cells.specs.declared.gauge.PromGauge.{PromGauge}
use Rattle.series_cells.specs.declared.pass.CellPass.{CellPass}
use Rattle.metrics_core.specs.Series.{call_of}
use Rattle.series_cells.specs.Values.{calls_of}

-- what a pass knows of the history
abbrev pub view_of : CellPass → View SeriesCall
view_of p = p.seat.me.0.history

-- how many calls it knows to be counted
abbrev pub known_of : CellPass → ℕ
known_of p = p.seat.me.0.known

abbrev pub IsCounterPass : PromCounter → CellPass → Type 0
IsCounterPass c p = p.seat.table_id ≡ c.table.shared.table_id

abbrev pub IsGaugePass : PromGauge → CellPass → Type 0
IsGaugePass g p = p.seat.table_id ≡ g.table.shared.table_id

-- there is at most one proof of that
abbrev pub one_counter_pass : (c : PromCounter) (p : CellPass) → IsProp (IsCounterPass c p)
one_counter_pass c p = Coded-set table_id_coded p.seat.table_id c.table.shared.table_id

abbrev pub one_gauge_pass : (g : PromGauge) (p : CellPass) → IsProp (IsGaugePass g p)
one_gauge_pass g p = Coded-set table_id_coded p.seat.table_id g.table.shared.table_id

-- the call goes behind a history that begins with all that the pass had seen, and the pass has then seen that history and the call
abbrev pub Calls : SeriesCall → View SeriesCall → View SeriesCall → Type 0
Calls c v w = (log : List (Entry SeriesCall)) × Sees v log × (w ≡ after v log (c ∷ []))

-- the value of a counter after a history that begins with all that the pass had seen; the pass has then seen it
abbrev pub ReadsCounter : View SeriesCall → ℕ → View SeriesCall → Type 0
ReadsCounter v n w = (log : List (Entry SeriesCall)) × Sees v log × (n ≡ counter_value (calls_of (calls log))) × (w ≡ looked v log)

-- the same of a gauge
abbrev pub ReadsGauge : View SeriesCall → ℤ → View SeriesCall → Type 0
ReadsGauge v z w = (log : List (Entry SeriesCall)) × Sees v log × (z ≡ gauge_value (calls_of (calls log))) × (w ≡ looked v log)

-- n is, modulo 2 ^ 64, how many calls were counted of a history that begins with all that the pass had seen: at least as many as it knew to be. The pass has then seen that history.
-- The root finds all of its calls counted, but for one at most of each pass that is out
abbrev pub ReadsUpdates : View SeriesCall → ℕ → ℕ → View SeriesCall → ℕ → Type 0
ReadsUpdates v known n w now =
    (known ≤ now) × (n ≡ now % 2 ^ 64)
    × ((log : List (Entry SeriesCall)) × Sees v log × (now ≤ length log) × (v.number ≡ 0 → length log ≤ now + v.out) × (w ≡ looked v log))

-- a call of the definitions was made with the pass, and the pass knows one call more to be counted, or more than one
abbrev pub Follows : CellPass → Call → CellPass → Type 0
Follows p call q = (c : SeriesCall) × (call_of c ≡ call) × Calls c (view_of p) (view_of q) × (known_of p < known_of q)
