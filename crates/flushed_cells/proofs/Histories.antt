-- What a history of calls leaves.
use Rattle.std.proofs.Common.{◌≡◌, ℕ, ◌+◌, ◌≤◌, ◌^◌, List, [], ◌∷◌, refl, sym, ap, ◌∙◌, subst, arith}
use Rattle.std.proofs.Math.Nat.{mod-add-mod, add-mod-mod}
use Rattle.metrics_core.specs.Numbers.{in_64_bits}
use Rattle.metrics_core.specs.Fixed.{updated}
use Rattle.legal_history.specs.Object.{Runs}
use Rattle.flushed_cells.specs.declared.counter_state.CounterMode.{CounterMode}
use Rattle.flushed_cells.specs.declared.counter_state.CounterMode.TheVariants as mode
use Rattle.flushed_cells.specs.declared.counter_state.CounterState.{CounterState}
use Rattle.flushed_cells.specs.declared.counter_calls.CounterCall.{CounterCall}
use Rattle.flushed_cells.specs.declared.counter_calls.CounterCall.TheVariants.{Increment, Absolute, Flush}
use Rattle.flushed_cells.specs.declared.gauge_state.GaugeState.{GaugeState}
use Rattle.flushed_cells.specs.declared.gauge_calls.GaugeCall.{GaugeCall}
use Rattle.flushed_cells.specs.declared.gauge_calls.GaugeCall.TheVariants as gauge
use Rattle.flushed_cells.specs.Counters.{CounterStep, incremented, absolute, absolute_in, flushed}
use Rattle.flushed_cells.specs.Gauges.{GaugeStep, gauge_of}
use Rattle.flushed_cells.specs.Totals.{counter_updates, counter_answered, increments, deltas, OnlyIncrements, gauge_updates, gauge_answered}

-- the same calls from the same state leave one state
pub one_counter : (cs : List CounterCall) (p q s t : CounterState) → p ≡ q → Runs CounterStep p cs s → Runs CounterStep q cs t → s ≡ t
one_counter [] p q s t e a b = sym a ∙ (e ∙ b)
one_counter (Increment n ∷ cs) p q s t e a b = one_counter cs a.0 b.0 s t (a.1 ∙ (ap (incremented n) e ∙ sym b.1)) a.2 b.2
one_counter (Absolute n ∷ cs) p q s t e a b = one_counter cs a.0 b.0 s t (a.1 ∙ (ap (absolute n) e ∙ sym b.1)) a.2 b.2
one_counter (Flush d u ∷ cs) p q s t e a b = one_counter cs a.0 b.0 s t (a.1.2 ∙ (ap flushed e ∙ sym b.1.2)) a.2 b.2

pub one_gauge : (cs : List GaugeCall) (p q s t : GaugeState) → p ≡ q → Runs GaugeStep p cs s → Runs GaugeStep q cs t → s ≡ t
one_gauge [] p q s t e a b = sym a ∙ (e ∙ b)
one_gauge (gauge.Update c ∷ cs) p q s t e a b = one_gauge cs a.0 b.0 s t (a.1 ∙ (ap (λ (x : GaugeState). gauge_of (updated c x.value) (in_64_bits (x.updates + 1))) e ∙ sym b.1)) a.2 b.2
one_gauge (gauge.Flush v u ∷ cs) p q s t e a b = one_gauge cs a.0 b.0 s t (a.1.2 ∙ (ap (λ (x : GaugeState). gauge_of x.value 0) e ∙ sym b.1.2)) a.2 b.2

-- in the mode of absolute values, what is pending is in the total
abbrev Bounded : CounterState → Type 0
Bounded s = s.mode ≡ mode.Absolute → s.delta ≤ s.total

absolute_bounded : (m : CounterMode) (n : ℕ) (s : CounterState) → (m ≡ mode.Absolute → s.delta ≤ s.total) → (absolute_in m n s).delta ≤ (absolute_in m n s).total
absolute_bounded mode.Incremented n s h = omega arith
absolute_bounded mode.Absolute n s h = let k : s.delta ≤ s.total = h refl in omega arith

pub bounded : (cs : List CounterCall) (s t : CounterState) → Bounded s → Runs CounterStep s cs t → Bounded t
bounded [] s t h e = subst Bounded e h
bounded (Increment n ∷ cs) s t h r = bounded cs r.0 t (subst Bounded (sym r.1) (λ (e : mode.Incremented ≡ mode.Absolute). cc)) r.2
bounded (Absolute n ∷ cs) s t h r = bounded cs r.0 t (subst Bounded (sym r.1) (λ _. absolute_bounded s.mode n s h)) r.2
bounded (Flush d u ∷ cs) s t h r = bounded cs r.0 t (subst Bounded (sym r.1.2) (λ _. omega arith)) r.2

-- what was counted before, and one more, is what is counted then
more : (f y x k n : ℕ) → in_64_bits (f + y) ≡ in_64_bits (in_64_bits (x + k) + n) → in_64_bits (f + y) ≡ in_64_bits (x + (k + n))
more f y x k n e = e ∙ (mod-add-mod (x + k) (2 ^ 64) n ∙ ap in_64_bits (omega arith))

-- what is handed out is counted no more
anew : (f y x n : ℕ) → in_64_bits (f + y) ≡ in_64_bits (0 + n) → in_64_bits ((x + f) + y) ≡ in_64_bits (x + n)
anew f y x n e =
    let a : (x + f) + y ≡ x + (f + y) = omega arith in
    let b : x + (0 + n) ≡ x + n = omega arith in
    ap in_64_bits a ∙ (sym (add-mod-mod x (f + y) (2 ^ 64)) ∙ (ap (λ m. in_64_bits (x + m)) e ∙ (add-mod-mod x (0 + n) (2 ^ 64) ∙ ap in_64_bits b)))

none_left : (s t : ℕ) → s ≡ t → in_64_bits (0 + t) ≡ in_64_bits (s + 0)
none_left s t e = ap in_64_bits (omega arith)

absolute_counts : (m : CounterMode) (n : ℕ) (s : CounterState) → (absolute_in m n s).updates ≡ in_64_bits (s.updates + 1)
absolute_counts mode.Incremented n s = refl
absolute_counts mode.Absolute n s = refl

pub updates_once : (cs : List CounterCall) (s t : CounterState) → Runs CounterStep s cs t → in_64_bits (counter_answered cs + t.updates) ≡ in_64_bits (s.updates + counter_updates cs)
updates_once [] s t e = none_left s.updates t.updates (ap (λ (x : CounterState). x.updates) e)
updates_once (Increment n ∷ cs) s t r =
    more (counter_answered cs) t.updates s.updates 1 (counter_updates cs) (updates_once cs r.0 t r.2 ∙ ap (λ (x : CounterState). in_64_bits (x.updates + counter_updates cs)) r.1)
updates_once (Absolute n ∷ cs) s t r =
    more (counter_answered cs) t.updates s.updates 1 (counter_updates cs)
    (updates_once cs r.0 t r.2 ∙ (ap (λ (x : CounterState). in_64_bits (x.updates + counter_updates cs)) r.1 ∙ ap (λ x. in_64_bits (x + counter_updates cs)) (absolute_counts s.mode n s)))
updates_once (Flush d u ∷ cs) s t r =
    subst (λ x. in_64_bits ((x + counter_answered cs) + t.updates) ≡ in_64_bits (s.updates + counter_updates cs)) (sym r.1.1)
    (anew (counter_answered cs) t.updates s.updates (counter_updates cs) (updates_once cs r.0 t r.2 ∙ ap (λ (x : CounterState). in_64_bits (x.updates + counter_updates cs)) r.1.2))

pub increments_once : (cs : List CounterCall) (s t : CounterState) → OnlyIncrements cs → Runs CounterStep s cs t → in_64_bits (deltas cs + t.delta) ≡ in_64_bits (s.delta + increments cs)
increments_once [] s t o e = none_left s.delta t.delta (ap (λ (x : CounterState). x.delta) e)
increments_once (Increment n ∷ cs) s t o r =
    more (deltas cs) t.delta s.delta n (increments cs) (increments_once cs r.0 t o r.2 ∙ ap (λ (x : CounterState). in_64_bits (x.delta + increments cs)) r.1)
increments_once (Absolute n ∷ cs) s t o r = absurd o
increments_once (Flush d u ∷ cs) s t o r =
    subst (λ x. in_64_bits ((x + deltas cs) + t.delta) ≡ in_64_bits (s.delta + increments cs)) (sym r.1.0)
    (anew (deltas cs) t.delta s.delta (increments cs) (increments_once cs r.0 t o r.2 ∙ ap (λ (x : CounterState). in_64_bits (x.delta + increments cs)) r.1.2))

pub gauge_updates_once : (cs : List GaugeCall) (s t : GaugeState) → Runs GaugeStep s cs t → in_64_bits (gauge_answered cs + t.updates) ≡ in_64_bits (s.updates + gauge_updates cs)
gauge_updates_once [] s t e = none_left s.updates t.updates (ap (λ (x : GaugeState). x.updates) e)
gauge_updates_once (gauge.Update c ∷ cs) s t r =
    more (gauge_answered cs) t.updates s.updates 1 (gauge_updates cs) (gauge_updates_once cs r.0 t r.2 ∙ ap (λ (x : GaugeState). in_64_bits (x.updates + gauge_updates cs)) r.1)
gauge_updates_once (gauge.Flush v u ∷ cs) s t r =
    subst (λ x. in_64_bits ((x + gauge_answered cs) + t.updates) ≡ in_64_bits (s.updates + gauge_updates cs)) (sym r.1.1)
    (anew (gauge_answered cs) t.updates s.updates (gauge_updates cs) (gauge_updates_once cs r.0 t r.2 ∙ ap (λ (x : GaugeState). in_64_bits (x.updates + gauge_updates cs)) r.1.2))
