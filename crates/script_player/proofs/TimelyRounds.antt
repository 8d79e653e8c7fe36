-- In a run whose rounds' moments never fall, the samples of each histogram come in the order of their moments.
use Rattle.std.proofs.Common.{◌≡◌, ℕ, suc, ◌+◌, ◌≤◌, Bool, true, false, List, [], ◌∷◌, ◌++◌, map, fold, append-nil, refl, sym, subst, arith, Option, Some, None}
use Rattle.std.specs.Prelude.{All, ◌==◌, if◌then◌else◌, is_some, option_map, filter_map, zip}
use Rattle.std.specs.List.{cons_option}
use Rattle.std.specs.List.Sorted.{IsNonDecreasingBy}
use Rattle.std.proofs.lemmas.List.Concat.{flat_map-append}
use Rattle.std.proofs.lemmas.List.Elements.{All-append, All-cons, All-head, All-nil, All-replicate, All-tail, All-weaker}
use Rattle.metrics_core.specs.Calls.{Call}
use Rattle.metrics_core.specs.Keys.{KeyText}
use Rattle.metrics_core.specs.declared.kinds.MetricKind.{MetricKind}
use Rattle.metrics_core.specs.declared.kinds.MetricKind.TheVariants as kinds
use Rattle.metrics_registry.specs.Recency.{Idle, note_left}
use Rattle.rolling_summaries.specs.Standing.{NeverFall, NoneAfter}
use Rattle.rolling_summaries.specs.Window.{Sample, timed_samples, timed_samples_of}
use Rattle.metric_descriptions.specs.Descriptions.{description_of}
use Rattle.name_counts.specs.Counts.{raised}
use Rattle.prom_exporter.specs.State.{PrometheusState, Series, count_of_updates, is_redirected, kept_at, key_given, live, live_series, metric_name_of, no_series, register, with_live, with_redirection, with_series}
use Rattle.prom_format.specs.Names.{sanitized_metric_name}
use Rattle.drive_script.specs.Script.{Act, Inc, Abs, Add, Sub, Set, Rec, RecN, CallLine, RoundText, SetupLine, Describe, Register, SettingsText, call_of}
use Rattle.script_player.specs.Play.{PlayState, RoundOrders, after_calls, after_round, after_setup, called, setup_step}
use Rattle.script_player.specs.Orders.{IsCalled}
use Rattle.script_player.specs.Timely.{AreTimelyCalls, IsTimelyState, RiseFrom}

-- ---- the moments of rounds

abbrev Sorted : List RoundText → Type 0
Sorted rounds = IsNonDecreasingBy (λ (r : RoundText). r.moment) rounds

behind_first : (round : RoundText) (rounds : List RoundText) → Sorted (round ∷ rounds) → Sorted rounds
behind_first round rounds h = λ i j d before within. h (suc i) (suc j) d (omega (arith, before)) (omega (arith, within))

rise : (round : RoundText) (rounds : List RoundText) → Sorted (round ∷ rounds) → RiseFrom round.moment rounds
rise round [] h = tt
rise round (next ∷ rounds) h = (h 0 1 next (omega arith) (omega arith), rise next rounds (behind_first round (next ∷ rounds) h))

-- sorted moments rise
pub rise_from_start : (rounds : List RoundText) → Sorted rounds → RiseFrom 0 rounds
rise_from_start [] h = tt
rise_from_start (round ∷ rounds) h = (omega arith, rise round rounds h)

-- ---- samples

-- samples that are all of one moment
same_never_fall : (moment : ℕ) (samples : List Sample) → All (λ (s : Sample). s.moment ≡ moment) samples → NeverFall samples
same_never_fall moment [] same = tt
same_never_fall moment (s ∷ samples) same =
    let first = All-head (λ (s : Sample). s.moment ≡ moment) s samples same in
    let others = All-tail (λ (s : Sample). s.moment ≡ moment) s samples same in
    (All-weaker (λ (s : Sample). s.moment ≡ moment) (λ (later : Sample). s.moment ≤ later.moment) (λ later is. omega (arith, is, first)) samples others, same_never_fall moment samples others)

more_never_fall : (moment : ℕ) (old more : List Sample) → NeverFall old → NoneAfter moment old → All (λ (s : Sample). s.moment ≡ moment) more → NeverFall (old ++ more)
more_never_fall moment [] more falls after same = same_never_fall moment more same
more_never_fall moment (s ∷ old) more falls after same =
    let first : s.moment ≤ moment = All-head (λ (s : Sample). s.moment ≤ moment) s old after in (
      All-append (λ (later : Sample). s.moment ≤ later.moment) old more falls.0 (All-weaker (λ (s : Sample). s.moment ≡ moment) (λ (later : Sample). s.moment ≤ later.moment) (λ later is. omega (arith, is, first)) more same),
      more_never_fall moment old more falls.1 (All-tail (λ (s : Sample). s.moment ≤ moment) s old after) same,
    )

-- calls behind others, all at one moment that none of the others is after
more_calls : (moment : ℕ) (old more : List Call) → AreTimelyCalls moment old → All (λ (s : Sample). s.moment ≡ moment) (timed_samples more) → AreTimelyCalls moment (old ++ more)
more_calls moment old more timely same =
    let split = flat_map-append timed_samples_of old more in
    subst (λ (samples : List Sample). NeverFall samples × NoneAfter moment samples) (sym split) (
      more_never_fall moment (timed_samples old) (timed_samples more) timely.0 timely.1 same,
      All-append (λ (s : Sample). s.moment ≤ moment) (timed_samples old) (timed_samples more) timely.1 (All-weaker (λ (s : Sample). s.moment ≡ moment) (λ (s : Sample). s.moment ≤ moment) (λ s is. omega (arith, is)) (timed_samples more) same),
    )

-- the samples of an act are at the round's moment
act_at : (moment : ℕ) (act : Act) → All (λ (s : Sample). s.moment ≡ moment) (timed_samples_of (call_of moment act))
act_at moment (Inc n) = All-nil _
act_at moment (Abs n) = All-nil _
act_at moment (Add v) = All-nil _
act_at moment (Sub v) = All-nil _
act_at moment (Set v) = All-nil _
act_at moment (Rec v) = All-replicate (λ (s : Sample). s.moment ≡ moment) 1 (record { value = v; moment = moment }) refl
act_at moment (RecN v n) = All-replicate (λ (s : Sample). s.moment ≡ moment) n (record { value = v; moment = moment }) refl

acts_at : (moment : ℕ) (order : List CallLine) → All (λ (s : Sample). s.moment ≡ moment) (timed_samples (map (λ (c : CallLine). call_of moment c.act) order))
acts_at moment [] = All-nil _
acts_at moment (c ∷ order) =
    subst (All (λ (s : Sample). s.moment ≡ moment)) (sym (flat_map-append timed_samples_of (call_of moment c.act ∷ []) (map (λ (c : CallLine). call_of moment c.act) order)))
    (All-append (λ (s : Sample). s.moment ≡ moment) (timed_samples (call_of moment c.act ∷ [])) (timed_samples (map (λ (c : CallLine). call_of moment c.act) order))
    (subst (All (λ (s : Sample). s.moment ≡ moment)) (sym (append-nil (timed_samples_of (call_of moment c.act)))) (act_at moment c.act)) (acts_at moment order))

-- ---- the series of a state

abbrev EachTimely : ℕ → List Series → Type 0
EachTimely moment series = All (λ (s : Series). AreTimelyCalls moment s.calls) series

-- what is not after a moment is not after a later one
pub later_timely : (m n : ℕ) (state : PrometheusState) → m ≤ n → IsTimelyState m state → IsTimelyState n state
later_timely m n state le timely =
    All-weaker (λ (s : Series). AreTimelyCalls m s.calls) (λ (s : Series). AreTimelyCalls n s.calls)
    (λ s h. (h.0, All-weaker (λ (x : Sample). x.moment ≤ m) (λ (x : Sample). x.moment ≤ n) (λ x before. omega (arith, before, le)) (timed_samples s.calls) h.1)) state.histograms timely

series_timely : (moment : ℕ) (kind : MetricKind) (key : KeyText) (s : PrometheusState) → IsTimelyState moment s → IsTimelyState moment (with_series kind key s)
series_timely moment kind key s timely = by (is_some (live_series kind key s)) (s.made == no_series)
  where
    new : Series
    new = record { number = s.made; key = key; calls = []; note = None }

    added : (kind : MetricKind) → IsTimelyState moment (record (with_live kind (live kind s ++ new ∷ []) s) { made = s.made + 1 })
    added kinds.Counter = timely
    added kinds.Gauge = timely
    added kinds.Histogram = All-append (λ (x : Series). AreTimelyCalls moment x.calls) s.histograms (new ∷ []) timely (All-cons (λ (x : Series). AreTimelyCalls moment x.calls) new [] (tt, All-nil _) (All-nil _))

    by : (a b : Bool) → IsTimelyState moment (if a then s else if b then s else record (with_live kind (live kind s ++ new ∷ []) s) { made = s.made + 1 })
    by true b = timely
    by false true = timely
    by false false = added kind

redirected_timely : (moment : ℕ) (kind : MetricKind) (key : KeyText) (s : PrometheusState) → IsTimelyState moment s → IsTimelyState moment (with_redirection kind key s)
redirected_timely moment kind key s timely = by (is_redirected kind key s)
  where
    by : (b : Bool) → IsTimelyState moment (if b then record s { redirected = raised kind (metric_name_of key) s.redirected } else s)
    by true = timely
    by false = timely

registered_timely : (moment : ℕ) (kind : MetricKind) (key : KeyText) (s : PrometheusState) → IsTimelyState moment s → IsTimelyState moment (register kind key s)
registered_timely moment kind key s timely = series_timely moment kind (key_given kind key s) (with_redirection kind key s) (redirected_timely moment kind key s timely)

described_timely : (moment : ℕ) (b : Bool) (s t : PrometheusState) → t.histograms ≡ s.histograms → IsTimelyState moment s → IsTimelyState moment (if b then s else t)
described_timely moment true s t same timely = timely
described_timely moment false s t same timely = subst (EachTimely moment) (sym same) timely

step_timely : (moment : ℕ) (p : PlayState) (line : SetupLine) → IsTimelyState moment p.prometheus → IsTimelyState moment (setup_step p line).prometheus
step_timely moment p (Describe kind name unit text) timely =
    described_timely moment (is_some (description_of p.prometheus.published (sanitized_metric_name name))) p.prometheus _ refl timely
step_timely moment p (Register kind key) timely = registered_timely moment kind key p.prometheus timely

setup_timely : (moment : ℕ) (p : PlayState) (setup : List SetupLine) → IsTimelyState moment p.prometheus → IsTimelyState moment (fold setup_step p setup).prometheus
setup_timely moment p [] timely = timely
setup_timely moment p (line ∷ setup) timely = setup_timely moment (setup_step p line) setup (step_timely moment p line timely)

called_timely : (moment : ℕ) (series : List Series) (orders : List (List CallLine)) → EachTimely moment series → EachTimely moment (map (λ (s, order). called moment s order) (zip series orders))
called_timely moment [] orders timely = All-nil _
called_timely moment (s ∷ series) [] timely = All-nil _
called_timely moment (s ∷ series) (order ∷ orders) timely =
    All-cons (λ (x : Series). AreTimelyCalls moment x.calls) (called moment s order) (map (λ (s, order). called moment s order) (zip series orders))
    (more_calls moment s.calls (map (λ (c : CallLine). call_of moment c.act) order) (All-head (λ (x : Series). AreTimelyCalls moment x.calls) s series timely) (acts_at moment order))
    (called_timely moment series orders (All-tail (λ (x : Series). AreTimelyCalls moment x.calls) s series timely))

kept_timely : (idle : Option Idle) (moment : ℕ) (series : List Series) → EachTimely moment series → EachTimely moment (filter_map (kept_at idle moment kinds.Histogram) series)
kept_timely idle moment [] timely = All-nil _
kept_timely idle moment (s ∷ series) timely = by (note_left idle kinds.Histogram s.note (count_of_updates kinds.Histogram s) moment) (kept_timely idle moment series (All-tail (λ (x : Series). AreTimelyCalls moment x.calls) s series timely))
  where
    by : (left : Option (Option (ℕ × ℕ))) → EachTimely moment (filter_map (kept_at idle moment kinds.Histogram) series)
        → EachTimely moment (cons_option (option_map (λ note. record s { note = note }) left) (filter_map (kept_at idle moment kinds.Histogram) series))
    by None others = others
    by (Some note) others = All-cons (λ (x : Series). AreTimelyCalls moment x.calls) (record s { note = note }) _ (All-head (λ (x : Series). AreTimelyCalls moment x.calls) s series timely) others

-- ---- a round

-- before the page of a round: q is the state after its setup, and r that after its calls
pub shown_timely : (p q r : PlayState) (round : RoundText) → IsTimelyState round.moment p.prometheus → q ≡ after_setup p round → IsCalled q round r → IsTimelyState round.moment r.prometheus
shown_timely p q r round timely set_up called =
    subst (λ (x : PlayState). IsTimelyState round.moment x.prometheus) (sym called.2)
    (called_timely round.moment q.prometheus.histograms called.0.histograms (subst (λ (x : PlayState). IsTimelyState round.moment x.prometheus) (sym set_up) (setup_timely round.moment p round.setup timely)))

-- after the page
pub round_timely : (settings : SettingsText) (p q : PlayState) (round : RoundText) (orders : RoundOrders) → IsTimelyState round.moment p.prometheus → q ≡ after_round settings p round orders → IsTimelyState round.moment q.prometheus
round_timely settings p q round orders timely state =
    subst (λ (x : PlayState). IsTimelyState round.moment x.prometheus) (sym state)
    (kept_timely _ round.moment (after_calls (after_setup p round) round orders).prometheus.histograms
    (called_timely round.moment (after_setup p round).prometheus.histograms orders.histograms (setup_timely round.moment p round.setup timely)))
