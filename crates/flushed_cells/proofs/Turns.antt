-- What is asked of an object is a step of it.
use Rattle.std.proofs.Common.{◌≡◌, ℕ, Bool, true, false, ◌&&◌, nat_eq, refl, sym, ap, ◌∙◌, true≢false}
use Rattle.std.proofs.lemmas.Bool.{eqb-true}
use Rattle.flushed_cells.specs.declared.counter_calls.CounterChange.{CounterChange}
use Rattle.flushed_cells.specs.declared.counter_calls.CounterChange.TheVariants as change
use Rattle.flushed_cells.specs.declared.gauge_calls.GaugeChange.{GaugeChange}
use Rattle.flushed_cells.specs.declared.gauge_calls.GaugeChange.TheVariants as gauge_change
use Rattle.flushed_cells.specs.declared.gauge_state.GaugeState.{GaugeState}
use Rattle.flushed_cells.specs.declared.gauge_calls.GaugeCall.TheVariants.{Flush as GaugeFlush}
use Rattle.flushed_cells.specs.Gauges.{GaugeStep, gauge_of, answered as gauge_answered, changed as gauge_changed, is_still as gauge_is_still}
use Rattle.flushed_cells.specs.declared.counter_state.CounterState.{CounterState}
use Rattle.flushed_cells.specs.declared.counter_calls.CounterCall.TheVariants.{Flush}
use Rattle.flushed_cells.specs.Counters.{CounterStep, counter_of, answered, changed, is_still}

pub counter_turns : (c : CounterChange) (s : CounterState) → CounterStep (answered c s) s (changed c s)
counter_turns (change.Increment n) s = refl
counter_turns (change.Absolute n) s = refl
counter_turns change.Flush s = (refl, refl, refl)

pub gauge_turns : (c : GaugeChange) (s : GaugeState) → GaugeStep (gauge_answered c s) s (gauge_changed c s)
gauge_turns (gauge_change.Update update) s = refl
gauge_turns gauge_change.Flush s = (refl, refl, refl)

both : (a b : Bool) → (a && b) ≡ true → (a ≡ true) × (b ≡ true)
both true b e = (refl, e)
both false b e = absurd (true≢false (sym e))

-- a flush leaves a still counter as it is
pub still_flushes : (s : CounterState) → is_still s ≡ true → CounterStep (Flush 0 0) s s
still_flushes s still =
    let z = both (nat_eq s.delta 0) (nat_eq s.updates 0) still in
    let delta = eqb-true s.delta 0 z.0 in
    let updates = eqb-true s.updates 0 z.1 in
    (sym delta, sym updates, ap (λ (d : ℕ). counter_of s.mode s.total d s.updates) delta ∙ ap (λ (u : ℕ). counter_of s.mode s.total 0 u) updates)

-- a flush leaves a still gauge as it is
pub still_gauge_flushes : (s : GaugeState) → gauge_is_still s ≡ true → GaugeStep (GaugeFlush s.value 0) s s
still_gauge_flushes s still =
    let updates = eqb-true s.updates 0 still in
    (refl, sym updates, ap (λ (u : ℕ). gauge_of s.value u) updates)
