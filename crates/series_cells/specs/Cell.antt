-- The rule of a cell of two words, whatever its value means, and what its steps tell a pass.
-- The object of one thread is a function: `step x c` is the value after the call c, and the word n stands for the value `value_of n`.
use Rattle.std.specs.Prelude.{◌≡◌, ℕ, ◌+◌, ◌%◌, ◌^◌, ◌≤◌, Bool, true, false, List, [], ◌∷◌, map, fold, max, length, slice_index}
use mathlib.Core.Option.{some}
use lib.ListN.{get_elem?}
use Rattle.atomic_table.specs.Table.{Me}
use Rattle.legal_history.specs.declared.history.Entry.{Entry}
use Rattle.legal_history.specs.declared.history.View.{View}
use Rattle.legal_history.specs.History.{calls, after, looked, lender, child, taker, first, nobody, Sees}
use Rattle.legal_history.specs.Order.{flag}
use Rattle.legal_history.specs.Object.{Keeps}
use Rattle.metrics_core.specs.declared.calls.SeriesCall.{SeriesCall}
use Rattle.series_cells.specs.declared.views.CellView.{CellView}

abbrev pub history_of : CellView → View SeriesCall
history_of v = v.history

-- 1 where the pass's last call is still to be counted
abbrev pub waiting : CellView → ℕ
waiting v = flag v.waits

abbrev pub total : {A : Type 0} → (A → ℕ) → List A → ℕ
total f [] = 0
total f (x ∷ xs) = f x + total f xs

-- a function as an object of one thread, whose calls have no answers
abbrev pub object : {S : Type 0} → (S → SeriesCall → S) → SeriesCall → S → S → Type 0
object step c x y = step x c ≡ y

module _ {S : Type 0} (step : S → SeriesCall → S) (start : S) (value_of : ℕ → S) where
  -- what holds between any two steps: the first word is the object's value after the calls of one legal history, the second is the number of counted calls modulo 2 ^ 64, and a call that is not yet counted is the last of a pass that waits
  pub record Kept (words : List ℕ) (views : List CellView) : Type 0 where
    pub two : length words ≡ 2
    pub keeps : Keeps (object step) start (value_of (slice_index words 0)) (map history_of views)
    pub counted : ℕ
    pub count : slice_index words 1 ≡ counted % 2 ^ 64
    pub waits : counted + total waiting views ≡ length keeps.log
    pub known : (i : ℕ) (v : CellView) → get_elem? views i ≡ some v → v.known ≤ counted
    pub spent : (i : ℕ) (v : CellView) → get_elem? views i ≡ some v → v.history.live ≡ false → v.waits ≡ false

abbrev pub cell_view : View SeriesCall → Bool → ℕ → CellView
cell_view h waits known = record { history = h; waits = waits; known = known }

abbrev pub opening_view : CellView
opening_view = cell_view first false 0

abbrev pub cell_nobody : CellView
cell_nobody = cell_view nobody false 0

abbrev pub cell_lender : CellView → CellView
cell_lender v = cell_view (lender v.history) v.waits v.known

abbrev pub cell_child : CellView → CellView
cell_child v = cell_view (child v.history) false v.known

abbrev pub cell_taker : CellView → CellView → CellView
cell_taker v w = cell_view (taker v.history w.history) v.waits (max v.known w.known)

-- a seat's view, and the slots that it holds, of which this table has none
abbrev pub Seen : Type 0
Seen = Me (Unit {0}) CellView

-- the call was made, behind a history that begins with all that the pass had seen
abbrev pub Made : SeriesCall → Seen → Seen → Type 0
Made c m w = (log : List (Entry SeriesCall)) × Sees m.0.history log × (w.0 ≡ cell_view (after m.0.history log (c ∷ [])) true m.0.known) × (w.1 ≡ m.1)

-- the word stands for the object's value after a history that begins with all that the pass had seen, and the pass has then seen it
abbrev pub Looked : {S : Type 0} → (S → SeriesCall → S) → S → (ℕ → S) → Seen → ℕ → Seen → Type 0
Looked step start value_of m n w = (log : List (Entry SeriesCall)) × Sees m.0.history log × (value_of n ≡ fold step start (calls log)) × (w.0 ≡ cell_view (looked m.0.history log) m.0.waits m.0.known) × (w.1 ≡ m.1)

-- the last call was counted, beside all that the pass knew to be counted
abbrev pub Counted : Seen → Seen → Type 0
Counted m w = (count : ℕ) × (m.0.known ≤ count) × (w.0 ≡ cell_view m.0.history false (count + 1)) × (w.1 ≡ m.1)

-- The number of calls counted, of those of a history that begins with all that the pass had seen; the pass has then seen that history. For a root with none of its own calls to count,
-- all calls of it are counted but one at most of each pass that is out.
abbrev pub CountRead : Seen → ℕ → Seen → Type 0
CountRead m n w = (count : ℕ) × (m.0.known ≤ count) × (n ≡ count % 2 ^ 64)
    × ((log : List (Entry SeriesCall)) × Sees m.0.history log × (count ≤ length log)
    × (m.0.history.number ≡ 0 → m.0.waits ≡ false → length log ≤ count + m.0.history.out)
    × (w.0 ≡ cell_view (looked m.0.history log) m.0.waits count))
    × (w.1 ≡ m.1)

-- the pass was told that a history begins with all that it had seen, and nothing changed
abbrev pub Told : Seen → Seen → Type 0
Told m w = (w ≡ m) × ((log : List (Entry SeriesCall)) × Sees m.0.history log)
