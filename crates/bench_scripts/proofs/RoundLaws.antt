-- What holds of the rounds of the generated script, whatever is drawn.
use Rattle.std.proofs.Common.{◌≡◌, ℕ, zero, suc, ◌+◌, ◌*◌, ◌/◌, ◌%◌, ◌<◌, ◌≤◌, Bool, true, false, [], ◌∷◌, map, refl, sym, subst, arith, Some}
use Rattle.std.specs.Prelude.{All, ℤ, ◌==◌, nat_le, if◌then◌else◌, slice_get}
use Rattle.std.specs.List.{range_with_len}
use Rattle.std.proofs.lemmas.List.Elements.{All-cons, All-map, All-nil}
use Rattle.std.proofs.lemmas.List.FromFn.{get_or-range_with_len, length-range_with_len}
use Rattle.metrics_core.specs.Keys.{KeyText}
use Rattle.metrics_core.specs.declared.kinds.MetricKind.{MetricKind}
use Rattle.metrics_core.specs.declared.kinds.MetricKind.TheVariants.{Counter, Gauge, Histogram}
use Rattle.drive_script.specs.Script.{RoundText, CallLine, Act, Inc, Set, Rec}
use Rattle.drive_script.specs.Valid.{HasHandle, HaveHandles}
use Rattle.bench_scripts.specs.Bench.{bench_call, call_at, calls_of_round, bench_registered, setup_of_round, bench_round, rounds_from}

-- ---- rounds, one after another

pub rounds_split : (k count : ℕ) → rounds_from k (suc count) ≡ bench_round k ∷ rounds_from (suc k) count
unfolding rounds_from
rounds_split k count = refl

pub round_parts : (k : ℕ) → bench_round k ≡ record { moment = k * 1000000000; setup = setup_of_round k; calls = calls_of_round k }
unfolding bench_round
round_parts k = refl

pub round_moment : (k : ℕ) → (bench_round k).moment ≡ k * 1000000000
unfolding bench_round
round_moment k = refl

pub setup_of_later : (k : ℕ) → 0 < k → setup_of_round k ≡ []
setup_of_later zero some = absurd (omega (arith, some))
setup_of_later (suc k) some = refl

-- what holds of each round from the k-th on
pub all_rounds : (P : RoundText → Type 0) (k count : ℕ) → ((j : ℕ) → k ≤ j → P (bench_round j)) → All P (rounds_from k count)
unfolding rounds_from
all_rounds P k zero each = All-nil P
all_rounds P k (suc count) each =
    All-cons P (bench_round k) (rounds_from (suc k) count) (each k (omega arith)) (all_rounds P (suc k) count (λ j le. each j (omega arith)))

-- ---- the calls of a round

all_places : (P : CallLine → Type 0) (f : ℕ → CallLine) (n : ℕ) → ((place : ℕ) → place < n → P (f place)) → All P (map f (range_with_len 0 n))
all_places P f n each = All-map P f (range_with_len 0 n) (λ i d lt.
    let within : i < n = omega (arith, length-range_with_len 0 n) in
    let here : 0 + i < n = omega arith in
    subst (λ m. P (f m)) (sym (get_or-range_with_len 0 n i d within)) (each (0 + i) here))

-- what holds of what each lane makes of a draw, holds of the calls of a round
pub all_calls : (P : CallLine → Type 0) → ((lane d : ℕ) → lane < 4 → P (bench_call lane d)) → (k : ℕ) → All P (bench_round k).calls
unfolding bench_round
all_calls P each k = all_places P (call_at k) 64 (λ place within. each (place / 16) _ (omega arith))

one_of_three : (P : CallLine → Type 0) (first second : Bool) (x y z : CallLine) → P x → P y → P z → P (if first then x else if second then y else z)
one_of_three P true second x y z p q r = p
one_of_three P false true x y z p q r = q
one_of_three P false false x y z p q r = r

-- each call adds to a counter, sets a gauge, or records one sample
pub all_acts : (P : Act → Type 0) → ((n : ℕ) → P (Inc n)) → ((v : ℤ) → P (Set v)) → ((v : ℤ) → P (Rec v)) → (k : ℕ) → All (λ call. P call.act) (bench_round k).calls
unfolding bench_call
all_acts P p q r k = all_calls (λ call. P call.act) each k
  where
    each : (lane d : ℕ) → lane < 4 → P (bench_call lane d).act
    each lane d lt = one_of_three (λ call. P call.act) (nat_le (d % 8) 4) (d % 8 == 5) _ _ _ (p _) (q _) (r _)

-- ---- handles

-- the series of this handle is of this kind
abbrev IsOfKind : MetricKind → ℕ → Type 0
IsOfKind kind handle = (key : KeyText) × (slice_get bench_registered handle ≡ Some (record { kind = kind; key = key }))

below_four : (P : ℕ → Type 0) → P 0 → P 1 → P 2 → P 3 → (n : ℕ) → n < 4 → P n
below_four P a b c d zero lt = a
below_four P a b c d (suc zero) lt = b
below_four P a b c d (suc (suc zero)) lt = c
below_four P a b c d (suc (suc (suc zero))) lt = d
below_four P a b c d (suc (suc (suc (suc n)))) lt = absurd (omega arith)

counters : (n : ℕ) → n < 4 → IsOfKind Counter n
counters = below_four (IsOfKind Counter) (_, refl) (_, refl) (_, refl) (_, refl)

gauges : (n : ℕ) → n < 4 → IsOfKind Gauge (4 + n)
gauges = below_four (λ n. IsOfKind Gauge (4 + n)) (_, refl) (_, refl) (_, refl) (_, refl)

histograms : (n : ℕ) → n < 4 → IsOfKind Histogram (8 + n)
histograms = below_four (λ n. IsOfKind Histogram (8 + n)) (_, refl) (_, refl) (_, refl) (_, refl)

call_has_handle : (lane d : ℕ) → lane < 4 → HasHandle bench_registered (bench_call lane d)
unfolding bench_call
call_has_handle lane d lt =
    one_of_three (HasHandle bench_registered) (nat_le (d % 8) 4) (d % 8 == 5) _ _ _ (counters (d / 8 % 4) (omega arith)) (gauges lane lt) (histograms lane lt)

pub round_has_handles : (k : ℕ) → All (HasHandle bench_registered) (bench_round k).calls
round_has_handles k = all_calls (HasHandle bench_registered) call_has_handle k

-- each call's handle is that of a series of its kind, which the first round registered
pub later_rounds_have_handles : (k count : ℕ) → HaveHandles bench_registered (rounds_from (suc k) count)
unfolding rounds_from bench_round
later_rounds_have_handles k zero = tt
later_rounds_have_handles k (suc count) = (round_has_handles (suc k), later_rounds_have_handles (suc k) count)

pub rounds_have_handles : (count : ℕ) → HaveHandles [] (rounds_from 0 count)
unfolding rounds_from bench_round
rounds_have_handles zero = tt
rounds_have_handles (suc count) = (round_has_handles 0, later_rounds_have_handles 0 count)
