-- The generated script is valid.
use Rattle.std.proofs.Common.{◌≡◌, ℕ, zero, suc, ◌*◌, ◌≤◌, List, [], ◌∷◌, ◌++◌, length, get_or, refl, sym, ap, subst, ◌∙◌, arith, lit≤, None, true}
use Rattle.std.specs.Prelude.{All, AllPairs, codes, flat_map, sum_by}
use Rattle.std.specs.List.Sorted.{IsNonDecreasingBy}
use Rattle.std.proofs.lemmas.List.Concat.{flat_map-cons}
use Rattle.std.proofs.lemmas.List.Elements.{All-cons, All-get_or, All-nil}
use Rattle.std.proofs.lemmas.List.FromFn.{length-map-range_with_len}
use Rattle.std.proofs.lemmas.List.Sums.{sum_by-le}
use Rattle.metrics_core.specs.Keys.{KeyText, occurrences}
use Rattle.prom_format.specs.Names.{IsMetricName}
use Rattle.prom_format.specs.PlainKeys.{PrintsPlainly, is_plain_label}
use Rattle.prom_format.proofs.NameLaws.{sanitized_metric_name-of_name}
use Rattle.prom_format.proofs.PlainKeys.{plain_keys_told, shown_behind}
use Rattle.dsd_addresses.specs.Remotes.{RemoteText}
use Rattle.drive_script.specs.Script.{RoundText}
use Rattle.drive_script.specs.Settings.{refused_setting}
use Rattle.drive_script.specs.Valid.{Registration, Head, registered_in, registered, sample_count, sample_total, PrintApart, IsValid}
use Rattle.bench_scripts.specs.Bench.{call_at, labelled_key, bench_registered, bench_settings_text, bench_round, rounds_from, bench_script}
use Rattle.bench_scripts.proofs.RoundLaws.{all_rounds, all_acts, round_moment, rounds_have_handles}

-- ---- moments

abbrev Sorted : List RoundText → Type 0
Sorted rounds = IsNonDecreasingBy (λ (r : RoundText). r.moment) rounds

sorted_behind : (round : RoundText) (rounds : List RoundText) → All (λ r. round.moment ≤ r.moment) rounds → Sorted rounds → Sorted (round ∷ rounds)
sorted_behind round rounds first later zero zero d le within = omega arith
sorted_behind round rounds first later zero (suc j) d le within = first j d (omega (arith, within))
sorted_behind round rounds first later (suc i) zero d le within = absurd (omega (arith, le))
sorted_behind round rounds first later (suc i) (suc j) d le within = later i j d (omega (arith, le)) (omega (arith, within))

not_before : (k j : ℕ) → k ≤ j → (bench_round k).moment ≤ (bench_round j).moment
not_before k j le = rw (round_moment k, round_moment j) (omega arith)

none_sorted : Sorted []
none_sorted i j d le within = absurd (omega (arith, within))

pub moments_never_fall : (k count : ℕ) → Sorted (rounds_from k count)
unfolding rounds_from
moments_never_fall k zero = none_sorted
moments_never_fall k (suc count) =
    sorted_behind (bench_round k) (rounds_from (suc k) count)
    (all_rounds (λ r. (bench_round k).moment ≤ r.moment) (suc k) count (λ j le. not_before k j (omega (arith, le))))
    (moments_never_fall (suc k) count)

-- ---- what is registered

none_registered : (k count : ℕ) → flat_map registered_in (rounds_from (suc k) count) ≡ []
unfolding rounds_from bench_round
none_registered k zero = refl
none_registered k (suc count) = flat_map-cons registered_in (bench_round (suc k)) (rounds_from (suc (suc k)) count) ∙ none_registered (suc k) count

pub first_registers : (count : ℕ) → registered (bench_script (suc count)) ≡ bench_registered
unfolding rounds_from bench_round
first_registers count =
    flat_map-cons registered_in (bench_round 0) (rounds_from 1 count) ∙ ap (λ later. bench_registered ++ later) (none_registered 0 count)

-- ---- samples

rounds_counted : (k count : ℕ) → length (rounds_from k count) ≡ count
unfolding rounds_from
rounds_counted k zero = refl
rounds_counted k (suc count) = ap suc (rounds_counted (suc k) count)

calls_counted : (k : ℕ) → length (bench_round k).calls ≡ 64
unfolding bench_round
calls_counted k = length-map-range_with_len (call_at k) 0 64

samples_of_round : (k : ℕ) → sum_by (λ call. sample_count call.act) (bench_round k).calls ≤ 64
samples_of_round k =
    let each : All (λ call. sample_count call.act ≤ 1) (bench_round k).calls = all_acts (λ act. sample_count act ≤ 1) (λ n. lit≤ tt) (λ v. lit≤ tt) (λ v. lit≤ tt) k in
    omega (arith, sum_by-le (λ call. sample_count call.act) 1 (bench_round k).calls each, calls_counted k)

samples_bounded : (count : ℕ) → sample_total (bench_script count) ≤ count * 64
samples_bounded count =
    subst (λ n. sample_total (bench_script count) ≤ n * 64) (rounds_counted 0 count)
    (sum_by-le (λ round. sum_by (λ call. sample_count call.act) round.calls) 64 (rounds_from 0 count) (all_rounds (λ round. sum_by (λ call. sample_count call.act) round.calls ≤ 64) 0 count (λ j le. samples_of_round j)))

-- ---- heads

plain_apart : (a b : Registration) → PrintsPlainly [] a.key → PrintsPlainly [] b.key → PrintApart [] a b
plain_apart a b p q = λ _ head.
    let same : a.key ≡ b.key = plain_keys_told [] a.key b.key p q (ap (λ (h : Head). h.name) head) (ap (λ (h : Head). h.labels) head) in
    (ap (λ (k : KeyText). k.name) same, λ l. ap (λ (k : KeyText). occurrences k.labels l) same)

all_apart : (rs : List Registration) → All (λ r. PrintsPlainly [] r.key) rs → AllPairs (PrintApart []) rs
all_apart rs plain i j d before within =
    plain_apart (get_or rs i d) (get_or rs j d)
    (All-get_or (λ r. PrintsPlainly [] r.key) rs i d (omega (arith, before, within)) plain)
    (All-get_or (λ r. PrintsPlainly [] r.key) rs j d within plain)

abbrev IsPlain : Registration → Type 0
IsPlain r = PrintsPlainly [] r.key

abbrev Each : List Registration → Type 0
Each [] = Unit {0}
Each (r ∷ rs) = IsPlain r × Each rs

each_is_all : (rs : List Registration) → Each rs → All IsPlain rs
each_is_all [] each = All-nil IsPlain
each_is_all (r ∷ rs) each = All-cons IsPlain r rs each.0 (each_is_all rs each.1)

plain : (name label value : List ℕ) → IsMetricName name → is_plain_label (record { key = label; value = value }) ≡ true → PrintsPlainly [] (labelled_key name label value)
plain name label value named shown = record {
  named = sanitized_metric_name-of_name name named;
  labelled = shown_behind [] (record { key = label; value = value } ∷ []) (rw shown refl) refl;
}

counter_plain : (value : List ℕ) → is_plain_label (record { key = codes "n"; value = value }) ≡ true → PrintsPlainly [] (labelled_key (codes "bench_counter") (codes "n") value)
counter_plain value shown = plain (codes "bench_counter") (codes "n") value refl shown

gauge_plain : (value : List ℕ) → is_plain_label (record { key = codes "lane"; value = value }) ≡ true → PrintsPlainly [] (labelled_key (codes "bench_gauge") (codes "lane") value)
gauge_plain value shown = plain (codes "bench_gauge") (codes "lane") value refl shown

histogram_plain : (value : List ℕ) → is_plain_label (record { key = codes "lane"; value = value }) ≡ true → PrintsPlainly [] (labelled_key (codes "bench_histogram") (codes "lane") value)
histogram_plain value shown = plain (codes "bench_histogram") (codes "lane") value refl shown

each_plain : Each bench_registered
each_plain = (
  counter_plain (codes "0") refl,
  (
    counter_plain (codes "1") refl,
    (
      counter_plain (codes "2") refl,
      (
        counter_plain (codes "3") refl,
        (
          gauge_plain (codes "0") refl,
          (
            gauge_plain (codes "1") refl,
            (
              gauge_plain (codes "2") refl,
              (
                gauge_plain (codes "3") refl,
                (histogram_plain (codes "0") refl, (histogram_plain (codes "1") refl, (histogram_plain (codes "2") refl, (histogram_plain (codes "3") refl, tt)))),
              ),
            ),
          ),
        ),
      ),
    ),
  ),
)

heads_apart : AllPairs (PrintApart []) bench_registered
heads_apart = all_apart bench_registered (each_is_all bench_registered each_plain)

-- ---- the whole script

none_apart : AllPairs (PrintApart []) []
none_apart i j d before within = absurd (omega (arith, within))

pub script_is_valid : (count : ℕ) → count ≤ 10000 → IsValid (bench_script count)
unfolding rounds_from
script_is_valid zero few = record {
  moments = moments_never_fall 0 0;
  handles = tt;
  registrations = lit≤ tt;
  samples = lit≤ tt;
  heads = none_apart;
  overflow = λ k d within. tt;
}
script_is_valid (suc count) few = record {
  moments = moments_never_fall 0 (suc count);
  handles = rounds_have_handles (suc count);
  registrations = subst (λ (rs : List Registration). length rs ≤ 1000000) (sym (first_registers count)) (lit≤ tt);
  samples = omega (arith, samples_bounded (suc count));
  heads = subst (λ (rs : List Registration). AllPairs (PrintApart []) rs) (sym (first_registers count)) heads_apart;
  overflow = λ k d within. tt;
}

-- ---- settings

pub settings_are_allowed : (to : RemoteText) → refused_setting bench_settings_text to ≡ None
settings_are_allowed to = refl
