-- The test of two states tells whether they are one state.
use Rattle.std.proofs.Common.{◌≡◌, Bool, true, false, ◌&&◌, refl, sym, ap, ◌∙◌, subst, eqb, eq-eqb, true≢false, rules}
use Rattle.std.proofs.lemmas.Bool.{eqb-true}
use denote.Enum.Bare.{sameb, same_true, true_same}
use Rattle.flushed_cells.specs.declared.counter_state.CounterState.{CounterState}
use Rattle.flushed_cells.specs.contracts.counter_state.CounterMode.{the_type}
use Rattle.std.specs.Prelude.{ℤ}
use Rattle.std.specs.Ordering.{int_eq}
use Rattle.std.proofs.lemmas.Bool.Decides.{Decides-int_eq}
use Rattle.metrics_core.specs.Fixed.{of_billionths}
use Rattle.flushed_cells.specs.declared.gauge_state.GaugeState.{GaugeState}
use Rattle.flushed_cells.specs.Counters.{counter_of}
use Rattle.flushed_cells.specs.Gauges.{gauge_of}

both : (a b : Bool) → (a && b) ≡ true → (a ≡ true) × (b ≡ true)
both true b e = (refl, e)
both false b e = absurd (true≢false (sym e))

both_true : (a b : Bool) → a ≡ true → b ≡ true → (a && b) ≡ true
both_true a b e f = ap (λ (z : Bool). z && b) e ∙ f

abbrev pub same_counter : CounterState → CounterState → Bool
same_counter x y = sameb the_type x.mode y.mode && (eqb x.total y.total && (eqb x.delta y.delta && eqb x.updates y.updates))

pub counters_alike : (x y : CounterState) → same_counter x y ≡ true → x ≡ y
counters_alike x y e =
    let a = both (sameb the_type x.mode y.mode) (eqb x.total y.total && (eqb x.delta y.delta && eqb x.updates y.updates)) e in
    let b = both (eqb x.total y.total) (eqb x.delta y.delta && eqb x.updates y.updates) a.1 in
    let d = both (eqb x.delta y.delta) (eqb x.updates y.updates) b.1 in
    λ i. counter_of (same_true the_type (search rules) x.mode y.mode a.0 i) (eqb-true x.total y.total b.0 i) (eqb-true x.delta y.delta d.0 i) (eqb-true x.updates y.updates d.1 i)

counter_itself : (x : CounterState) → same_counter x x ≡ true
counter_itself x = both_true (sameb the_type x.mode x.mode) _ (true_same the_type x.mode x.mode refl)
    (both_true (eqb x.total x.total) _ (eq-eqb x.total x.total refl) (both_true (eqb x.delta x.delta) (eqb x.updates x.updates) (eq-eqb x.delta x.delta refl) (eq-eqb x.updates x.updates refl)))

pub counters_unlike : (x y : CounterState) → same_counter x y ≡ false → x ≡ y → ⊥
counters_unlike x y f e = true≢false (sym (subst (λ (z : CounterState). same_counter x z ≡ true) e (counter_itself x)) ∙ f)

abbrev pub same_gauge : GaugeState → GaugeState → Bool
same_gauge x y = int_eq x.value.0 y.value.0 && eqb x.updates y.updates

same_values : (a b : ℤ) → int_eq a b ≡ true → a ≡ b
same_values a b e = (Decides-int_eq a b).0 e

value_itself : (a : ℤ) → int_eq a a ≡ true
value_itself a = (Decides-int_eq a a).1 refl

pub gauges_alike : (x y : GaugeState) → same_gauge x y ≡ true → x ≡ y
gauges_alike x y e =
    let a = both (int_eq x.value.0 y.value.0) (eqb x.updates y.updates) e in
    λ i. gauge_of (of_billionths (same_values x.value.0 y.value.0 a.0 i)) (eqb-true x.updates y.updates a.1 i)

gauge_itself : (x : GaugeState) → same_gauge x x ≡ true
gauge_itself x = both_true (int_eq x.value.0 x.value.0) (eqb x.updates x.updates) (value_itself x.value.0) (eq-eqb x.updates x.updates refl)

pub gauges_unlike : (x y : GaugeState) → same_gauge x y ≡ false → x ≡ y → ⊥
gauges_unlike x y f e = true≢false (sym (subst (λ (z : GaugeState). same_gauge x z ≡ true) e (gauge_itself x)) ∙ f)
