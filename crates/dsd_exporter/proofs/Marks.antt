-- Marks by their places, and set one after the other.
use Rattle.std.proofs.Common.{◌≡◌, ◌≤◌, ◌<◌, ℕ, zero, suc, Bool, true, false, true≢false, sym, List, [], ◌∷◌, ◌++◌, length, refl, ap, arith, slice_index_or, slice_set}
use Rattle.flushed_cells.specs.declared.counter_state.CounterState.{CounterState}
use Rattle.dsd_exporter.specs.State.{is_quiet, idle_at, marks_after}
use Rattle.dsd_exporter.specs.Flushing.{with_mark}

-- the mark at a place
pub mark-read : (marks : List Bool) (n : ℕ) (d : Bool) → n < length marks → slice_index_or marks n d ≡ idle_at marks n
mark-read [] n d here = absurd (omega (arith, here))
mark-read (m ∷ marks) zero d here = refl
mark-read (m ∷ marks) (suc n) d here = mark-read marks n d (omega (arith, here))

pub mark-written : (marks : List Bool) (n : ℕ) (mark : Bool) → n < length marks → slice_set marks n mark ≡ with_mark n mark marks
mark-written [] n mark here = absurd (omega (arith, here))
mark-written (m ∷ marks) zero mark here = refl
mark-written (m ∷ marks) (suc n) mark here = ap (λ l. m ∷ l) (mark-written marks n mark (omega (arith, here)))

-- behind the end there is none
pub none-read : (marks : List Bool) (n : ℕ) → length marks ≤ n → false ≡ idle_at marks n
none-read [] n past = refl
none-read (m ∷ marks) zero past = absurd (omega (arith, past))
none-read (m ∷ marks) (suc n) past = none-read marks n (omega (arith, past))

pub none-written : (marks : List Bool) (n : ℕ) (mark : Bool) → length marks ≤ n → marks ++ mark ∷ [] ≡ with_mark n mark marks
none-written [] n mark past = refl
none-written (m ∷ marks) zero mark past = absurd (omega (arith, past))
none-written (m ∷ marks) (suc n) mark past = ap (λ l. m ∷ l) (none-written marks n mark (omega (arith, past)))

-- the mark behind those that were set is as it was
pub idle-behind : (found : List CounterState) (marks : List Bool) → idle_at (marks_after found marks) (length found) ≡ idle_at marks (length found)
idle-behind [] marks = refl
idle-behind (s ∷ found) [] = idle-behind found []
idle-behind (s ∷ found) (mark ∷ marks) = idle-behind found marks

-- one more is set
pub mark-next : (found : List CounterState) (x : CounterState) (marks : List Bool) → with_mark (length found) (is_quiet x) (marks_after found marks) ≡ marks_after (found ++ x ∷ []) marks
mark-next [] x [] = refl
mark-next [] x (mark ∷ marks) = refl
mark-next (s ∷ found) x [] = ap (λ l. is_quiet s ∷ l) (mark-next found x [])
mark-next (s ∷ found) x (mark ∷ marks) = ap (λ l. is_quiet s ∷ l) (mark-next found x marks)

-- a mark that is there stays
pub mark-stays : (marks : List Bool) (n : ℕ) → idle_at marks n ≡ true → marks ≡ with_mark n true marks
mark-stays [] n e = absurd (true≢false (sym e))
mark-stays (m ∷ marks) zero e = ap (λ b. b ∷ marks) e
mark-stays (m ∷ marks) (suc n) e = ap (λ l. m ∷ l) (mark-stays marks n e)
