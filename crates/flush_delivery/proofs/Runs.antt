-- What a writer writes of a series is read back: its lines say its values, run by run.
use Rattle.std.proofs.Common.{◌≡◌, ℕ, ◌+◌, ◌<◌, ◌^◌, Bool, true, false, cond, List, [], ◌∷◌, ◌++◌, length, map, Option, Some, None, refl, sym, ap, subst, ◌∙◌, append-nil, arith}
use Rattle.std.specs.Prelude.{All, IsTrue, codes, decimal, filter, flat_map, is_none, FitsSigned}
use Rattle.std.specs.Int.{w64}
use Rattle.std.specs.List.{AllZip}
use Rattle.std.proofs.lemmas.List.{length-append, length-map, map-append}
use Rattle.std.proofs.lemmas.List.Elements.{All-cons, All-filter, All-head, All-nil, All-tail, filter-append}
use Rattle.metrics_core.specs.Characters.{line, newline}
use Rattle.metrics_core.specs.declared.kinds.MetricKind.{MetricKind}
use Rattle.metrics_core.specs.declared.kinds.MetricKind.TheVariants as kinds
use Rattle.metrics_core.specs.Keys.{KeyText}
use Rattle.metrics_core.specs.Calls.{Call, Increment, Record, Set}
use Rattle.metrics_core.specs.Numbers.{dogstatsd_number}
use Rattle.dsd_writer.specs.Cuts.{full_cut, full_cut_behind, joined}
use Rattle.dsd_writer.specs.Lines.{kept_values, line_fits, line_of, lines_of, payload_fits, payloads_of}
use Rattle.dsd_writer.proofs.CutLemmas.{full_cut_is, full_cut_whole}
use Rattle.dsd_lines.specs.declared.dialects.Dialect.TheVariants.{DogStatsd}
use Rattle.dsd_lines.specs.Grammar.{PointsText, Counter, Gauge, Steps, Histogram, Distribution, Timer, LineText, type_text}
use Rattle.dsd_lines.specs.Written.{HaveRange, IsSayable, item_said, points_spelled}
use Rattle.dsd_lines.specs.Payloads.{payload_lines}
use Rattle.dsd_lines.proofs.Exact.{line_no_newline}
use Rattle.dsd_lines.proofs.Joined.{Free}
use Rattle.dsd_lines.proofs.PayloadLines.{line_in_front}
use Rattle.dsd_lines.proofs.Spellings.{said_as_written, said_is_line, said_text}
use Rattle.dsd_exporter.specs.State.{FlushItem, lines_of_items}
use Rattle.prom_exporter.specs.State.{PrometheusState}
use Rattle.dsd_receiver.specs.Received.{AreRead, after_line, after_reading, after_readings, calls_of_points, count_bad, kind_said, rate_said, scaled, times_at, with_calls}
use Rattle.flush_delivery.specs.Delivered.{IsSaidBy, after_all_said, after_said, calls_kept, kept, kept_points, with_some}
use Rattle.flush_delivery.proofs.Twice.{still_none, with_both}

-- ---- cuts of what is spelled

module _ {X Y : Type 0} (f : X → Y) where
  filter_mapped : (test : Y → Bool) (xs : List X) → filter test (map f xs) ≡ map f (filter (λ x. test (f x)) xs)
  filter_mapped test [] = refl
  filter_mapped test (x ∷ xs) = elim (test (f x)) as (λ b. cond b (f x ∷ filter test (map f xs)) (filter test (map f xs)) ≡ map f (cond b (x ∷ filter (λ x. test (f x)) xs) (filter (λ x. test (f x)) xs))) [
    | true ↦ ap (λ l. f x ∷ l) (filter_mapped test xs)
    | false ↦ filter_mapped test xs
  ]

  module _ (fits : List Y → Bool) where
    behind_mapped : (run xs : List X) → full_cut_behind fits (map f run) (map f xs) ≡ map (map f) (full_cut_behind (λ r. fits (map f r)) run xs)
    behind_mapped run [] = refl
    behind_mapped run (x ∷ xs) =
        let more : map f run ++ f x ∷ [] ≡ map f (run ++ x ∷ []) = sym (map-append f run (x ∷ [])) in
        ap (λ l. cond (fits l) (full_cut_behind fits l (map f xs)) (map f run ∷ full_cut_behind fits (f x ∷ []) (map f xs))) more
        ∙ (elim (fits (map f (run ++ x ∷ []))) as (λ b. cond b (full_cut_behind fits (map f (run ++ x ∷ [])) (map f xs)) (map f run ∷ full_cut_behind fits (f x ∷ []) (map f xs))
        ≡ map (map f) (cond b (full_cut_behind (λ r. fits (map f r)) (run ++ x ∷ []) xs) (run ∷ full_cut_behind (λ r. fits (map f r)) (x ∷ []) xs))) [
          | true ↦ behind_mapped (run ++ x ∷ []) xs
          | false ↦ ap (λ l. map f run ∷ l) (behind_mapped (x ∷ []) xs)
        ])

    pub cut_mapped : (xs : List X) → full_cut fits (map f xs) ≡ map (map f) (full_cut (λ r. fits (map f r)) xs)
    cut_mapped [] = refl
    cut_mapped (x ∷ xs) = behind_mapped (x ∷ []) xs

module _ {X : Type 0} (P : X → Type 0) where
  all_front : (xs ys : List X) → All P (xs ++ ys) → All P xs
  all_front [] ys all = All-nil P
  all_front (x ∷ xs) ys all = All-cons P x xs (All-head P x (xs ++ ys) all) (all_front xs ys (All-tail P x (xs ++ ys) all))

  all_back : (xs ys : List X) → All P (xs ++ ys) → All P ys
  all_back [] ys all = all
  all_back (x ∷ xs) ys all = all_back xs ys (All-tail P x (xs ++ ys) all)

  all_runs : (runs : List (List X)) → All P (joined runs) → All (All P) runs
  all_runs [] all = All-nil (All P)
  all_runs (run ∷ runs) all = All-cons (All P) run runs (all_front run (joined runs) all) (all_runs runs (all_back run (joined runs) all))

-- what passes a test passes it
filter_tests : {X : Type 0} (test : X → Bool) (xs : List X) → All (λ x. IsTrue (test x)) (filter test xs)
filter_tests test [] = All-nil (λ x. IsTrue (test x))
filter_tests {X} test (x ∷ xs) = by (test x) refl (filter_tests test xs)
  where
    by : (b : Bool) → test x ≡ b → All (λ (y : X). IsTrue (test y)) (filter test xs) → All (λ (y : X). IsTrue (test y)) (cond b (x ∷ filter test xs) (filter test xs))
    by true is rest = All-cons (λ (y : X). IsTrue (test y)) x (filter test xs) is rest
    by false is rest = rest

with_some_behind : (kind : MetricKind) (key : KeyText) (cs ds : List Call) (s : PrometheusState) → s.limit ≡ None → 0 < length cs → with_some kind key ds (with_calls kind key cs s) ≡ with_some kind key (cs ++ ds) s
with_some_behind kind key [] ds s never some = absurd (omega (arith, some))
with_some_behind kind key (c ∷ cs) [] s never some = ap (λ l. with_calls kind key (c ∷ l) s) (sym (append-nil cs))
with_some_behind kind key (c ∷ cs) (d ∷ ds) s never some = with_both kind key (c ∷ cs) (d ∷ ds) s never

some_none : (kind : MetricKind) (key : KeyText) (cs : List Call) (s : PrometheusState) → s.limit ≡ None → (with_some kind key cs s).limit ≡ None
some_none kind key [] s never = never
some_none kind key (c ∷ cs) s never = still_none kind key (c ∷ cs) s never

-- ---- values of one type

-- how the points of a type are made, spelled and called
pub record ArePoints {X : Type 0} (make : List X → PointsText) (spell : X → List ℕ) (call : ℕ → ℕ → X → Call) (Fits : X → Type 0) (kind : MetricKind) : Type 0 where
  pub type : List ℕ
  pub typed : (xs : List X) → type_text (make xs) ≡ type
  pub spelled : (xs : List X) → points_spelled (make xs) ≡ map spell xs
  pub called : (moment rate : ℕ) (xs : List X) → calls_of_points moment rate (make xs) ≡ map (call moment rate) xs
  pub ranged : (xs : List X) → All Fits xs → HaveRange (make xs)
  pub kind_is : (xs : List X) → kind_said (make xs) ≡ kind

module _ {X : Type 0} (make : List X → PointsText) (spell : X → List ℕ) (call : ℕ → ℕ → X → Call) (Fits : X → Type 0) (kind : MetricKind) (are : ArePoints make spell call Fits kind)
    (limit moment : ℕ) (said : LineText) (xs : List X) (own : said.points ≡ make xs) (sayable : IsSayable said) (fit : All Fits xs) where
  abbrev of_run : List X → LineText
  of_run run = record said { points = make run }

  abbrev texts : List (List X) → List (List ℕ)
  texts runs = map (λ run. said_text (of_run run)) runs

  abbrev readings : List (List X) → List (Option LineText)
  readings runs = map (λ run. Some (of_run run)) runs

  item_of_run : (run : List X) → item_said said ≡ item_said (of_run run)
  item_of_run run = ap (λ type. record (item_said said) { type = type }) (ap type_text own ∙ are.typed xs ∙ sym (are.typed run))

  lines_of_runs : (runs : List (List X)) → map (line_of (item_said said)) (map (map spell) runs) ≡ map line (texts runs)
  lines_of_runs [] = refl
  lines_of_runs (run ∷ runs) = (λ i. ((λ j. line_of (item_of_run run j) (sym (are.spelled run) j)) ∙ said_as_written (of_run run)) i ∷ lines_of_runs runs i)

  run_sayable : (run : List X) → 0 < length run → All Fits run → IsSayable (of_run run)
  run_sayable run some all = record {
    clean = sayable.clean;
    some = (let long = ap length (are.spelled run) ∙ length-map run spell in omega (arith, long, some));
    range = are.ranged run all;
    rate = sayable.rate;
    timestamp = sayable.timestamp;
  }

  runs_read : (runs : List (List X)) → All (λ run. 0 < length run) runs → All (All Fits) runs → AreRead DogStatsd (texts runs) (readings runs)
  runs_read [] some all = tt
  runs_read (run ∷ runs) some all = (
    said_is_line (of_run run) (run_sayable run (All-head (λ r. 0 < length r) run runs some) (All-head (All Fits) run runs all)),
    runs_read runs (All-tail (λ r. 0 < length r) run runs some) (All-tail (All Fits) run runs all),
  )

  abbrev its_call : X → Call
  its_call = call moment (rate_said said.rate)

  after_runs : (runs : List (List X)) → All (λ run. 0 < length run) runs → (s : PrometheusState) → s.limit ≡ None → after_readings moment (readings runs) s ≡ with_some kind said.key (map its_call (joined runs)) s
  after_runs [] some s never = refl
  after_runs (run ∷ runs) some s never =
      let first : after_line moment s (of_run run) ≡ with_calls kind said.key (map its_call run) s =
      (λ i. with_calls (are.kind_is run i) said.key (are.called moment (rate_said said.rate) run i) s) in
      let one = All-head (λ r. 0 < length r) run runs some in
      let long = length-map run its_call in
      ap (after_readings moment (readings runs)) first
      ∙ after_runs runs (All-tail (λ r. 0 < length r) run runs some) (with_calls kind said.key (map its_call run) s) (still_none kind said.key (map its_call run) s never)
      ∙ with_some_behind kind said.key (map its_call run) (map its_call (joined runs)) s never (omega (arith, long, one))
      ∙ ap (λ cs. with_some kind said.key cs s) (sym (map-append its_call run (joined runs)))

  none_bad : (runs : List (List X)) → count_bad (readings runs) ≡ 0
  none_bad [] = refl
  none_bad (run ∷ runs) = none_bad runs

  abbrev its_kept : List X
  its_kept = kept limit (item_said said) spell xs

  abbrev its_runs : List (List X)
  its_runs = full_cut (λ run. line_fits limit (item_said said) (map spell run)) its_kept

  runs_cut : (its_kept ≡ joined its_runs) × All (λ run. 0 < length run) its_runs
  runs_cut =
      let cut = (full_cut_is (λ run. line_fits limit (item_said said) (map spell run)) its_kept (filter_tests (λ x. line_fits limit (item_said said) (spell x ∷ [])) xs)).cut in
      (cut.whole, cut.some)

  lines_cut : lines_of limit (item_said said) (points_spelled said.points) ≡ map line (texts its_runs)
  lines_cut =
      ap (λ values. map (line_of (item_said said)) (full_cut (line_fits limit (item_said said)) values))
      (ap (kept_values limit (item_said said)) (ap points_spelled own ∙ are.spelled xs) ∙ filter_mapped spell (λ value. line_fits limit (item_said said) (value ∷ [])) xs)
      ∙ ap (map (line_of (item_said said))) (cut_mapped spell (line_fits limit (item_said said)) its_kept)
      ∙ lines_of_runs its_runs

  -- the lines of the series are read as what they say, and leave the calls of the values that are kept
  pub series_read : (texts : List (List ℕ)) × (readings : List (Option LineText)) × (lines_of limit (item_said said) (points_spelled said.points) ≡ map line texts) × AreRead DogStatsd texts readings × (count_bad readings ≡ 0)
      × ((s : PrometheusState) → s.limit ≡ None → after_readings moment readings s ≡ with_some kind said.key (map its_call its_kept) s)
  series_read = (
    texts its_runs,
    readings its_runs,
    lines_cut,
    runs_read its_runs runs_cut.1 (all_runs Fits its_runs (subst (All Fits) runs_cut.0 (All-filter _ Fits xs fit))),
    none_bad its_runs,
    λ s never. after_runs its_runs runs_cut.1 s never ∙ ap (λ l. with_some kind said.key (map its_call l) s) (sym runs_cut.0),
  )

-- ---- one series

counter_points : ArePoints Counter decimal (λ moment rate n. Increment (scaled rate n)) (λ n. n < 2 ^ 64) kinds.Counter
counter_points = record { type = codes "c"; typed = λ xs. refl; spelled = λ xs. refl; called = λ moment rate xs. refl; ranged = λ xs all. all; kind_is = λ xs. refl }

gauge_points : ArePoints Gauge dogstatsd_number (λ moment rate value. Set value) (FitsSigned w64) kinds.Gauge
gauge_points = record { type = codes "g"; typed = λ xs. refl; spelled = λ xs. refl; called = λ moment rate xs. refl; ranged = λ xs all. all; kind_is = λ xs. refl }

histogram_points : ArePoints Histogram dogstatsd_number (λ moment rate value. Record value moment (times_at rate)) (FitsSigned w64) kinds.Histogram
histogram_points = record { type = codes "h"; typed = λ xs. refl; spelled = λ xs. refl; called = λ moment rate xs. refl; ranged = λ xs all. all; kind_is = λ xs. refl }

distribution_points : ArePoints Distribution dogstatsd_number (λ moment rate value. Record value moment (times_at rate)) (FitsSigned w64) kinds.Histogram
distribution_points = record { type = codes "d"; typed = λ xs. refl; spelled = λ xs. refl; called = λ moment rate xs. refl; ranged = λ xs all. all; kind_is = λ xs. refl }

-- these lines are read as what was said of series, and leave a state without a limit extended by that
pub record ReadsBack (limit moment : ℕ) (lines : List (List ℕ)) (after : PrometheusState → PrometheusState) : Type 0 where
  pub texts : List (List ℕ)
  pub readings : List (Option LineText)
  pub lines_are : lines ≡ map line texts
  pub are_read : AreRead DogStatsd texts readings
  pub none_bad : count_bad readings ≡ 0
  pub leaves : (s : PrometheusState) → s.limit ≡ None → after_readings moment readings s ≡ after s

module _ (limit moment : ℕ) (said : LineText) (sayable : IsSayable said) where
  abbrev its_lines : List (List ℕ)
  its_lines = lines_of limit (item_said said) (points_spelled said.points)

  abbrev after_points : PointsText → PrometheusState → PrometheusState
  after_points points s = with_some (kind_said points) said.key (calls_of_points moment (rate_said said.rate) (kept_points limit (item_said said) points)) s

  pub said_reads : ReadsBack limit moment its_lines (λ s. after_said moment limit s said)
  said_reads = by said.points refl sayable.range
    where
      from : (points : PointsText) → said.points ≡ points
          → (texts : List (List ℕ)) × (readings : List (Option LineText)) × (its_lines ≡ map line texts) × AreRead DogStatsd texts readings × (count_bad readings ≡ 0)
          × ((s : PrometheusState) → s.limit ≡ None → after_readings moment readings s ≡ after_points points s)
          → ReadsBack limit moment its_lines (λ s. after_said moment limit s said)
      from points own read = record {
        texts = read.0;
        readings = read.1;
        lines_are = read.2;
        are_read = read.3;
        none_bad = read.4;
        leaves = λ s never. read.5 s never ∙ ap (λ p. after_points p s) (sym own);
      }

      by : (points : PointsText) → said.points ≡ points → HaveRange points → ReadsBack limit moment its_lines (λ s. after_said moment limit s said)
      by (Counter xs) own range = from (Counter xs) own (series_read Counter decimal (λ moment rate n. Increment (scaled rate n)) (λ n. n < 2 ^ 64) kinds.Counter counter_points limit moment said xs own sayable range)
      by (Gauge xs) own range = from (Gauge xs) own (series_read Gauge dogstatsd_number (λ moment rate value. Set value) (FitsSigned w64) kinds.Gauge gauge_points limit moment said xs own sayable range)
      by (Steps xs) own range = absurd range
      by (Timer xs) own range = absurd range
      by (Histogram xs) own range =
          from (Histogram xs) own (series_read Histogram dogstatsd_number (λ moment rate value. Record value moment (times_at rate)) (FitsSigned w64) kinds.Histogram histogram_points limit moment said xs own sayable range)
      by (Distribution xs) own range =
          from (Distribution xs) own (series_read Distribution dogstatsd_number (λ moment rate value. Record value moment (times_at rate)) (FitsSigned w64) kinds.Histogram distribution_points limit moment said xs own sayable range)

-- ---- all series

pub read_behind : (xs ys : List (List ℕ)) (rs ts : List (Option LineText)) → AreRead DogStatsd xs rs → AreRead DogStatsd ys ts → AreRead DogStatsd (xs ++ ys) (rs ++ ts)
read_behind [] ys [] ts a b = b
read_behind [] ys (r ∷ rs) ts a b = absurd a
read_behind (x ∷ xs) ys [] ts a b = absurd a
read_behind (x ∷ xs) ys (r ∷ rs) ts a b = (a.0, read_behind xs ys rs ts a.1 b)

pub after_behind : (moment : ℕ) (rs ts : List (Option LineText)) (s : PrometheusState) → after_readings moment (rs ++ ts) s ≡ after_readings moment ts (after_readings moment rs s)
after_behind moment [] ts s = refl
after_behind moment (r ∷ rs) ts s = after_behind moment rs ts (after_reading moment s r)

pub bad_behind : (rs ts : List (Option LineText)) → count_bad (rs ++ ts) ≡ count_bad rs + count_bad ts
bad_behind rs ts = ap length (filter-append is_none rs ts) ∙ length-append (filter is_none rs) (filter is_none ts)

pub items_read : (limit moment : ℕ) (items : List FlushItem) (saids : List LineText) → AllZip (λ item said. IsSaidBy item.item item.values said) items saids
    → ReadsBack limit moment (lines_of_items limit items) (λ s. after_all_said moment limit saids s)
items_read limit moment [] [] all = record { texts = []; readings = []; lines_are = refl; are_read = tt; none_bad = refl; leaves = λ s never. refl }
items_read limit moment [] (said ∷ saids) all = absurd all
items_read limit moment (item ∷ items) [] all = absurd all
items_read limit moment (item ∷ items) (said ∷ saids) (is, all) =
    let first = said_reads limit moment said is.sayable in
    let rest = items_read limit moment items saids all in
    let lines : lines_of limit item.item item.values ≡ map line first.texts = (λ i. lines_of limit (is.item_is i) (is.values_are i)) ∙ first.lines_are in
    record {
      texts = first.texts ++ rest.texts;
      readings = first.readings ++ rest.readings;
      lines_are = (λ i. lines i ++ rest.lines_are i) ∙ sym (map-append line first.texts rest.texts);
      are_read = read_behind first.texts rest.texts first.readings rest.readings first.are_read rest.are_read;
      none_bad = (let both = bad_behind first.readings rest.readings in let one = first.none_bad in let others = rest.none_bad in omega (arith, both, one, others));
      leaves = λ s never.
          after_behind moment first.readings rest.readings s ∙ ap (after_readings moment rest.readings) (first.leaves s never)
          ∙ rest.leaves (after_said moment limit s said) (some_none (kind_said said.points) said.key (calls_kept moment limit said) s never);
    }

-- ---- payloads

lines_in_payload : (texts : List (List ℕ)) → All (λ text. Free newline text) texts → payload_lines (joined (map line texts)) ≡ texts
lines_in_payload [] free = refl
lines_in_payload (text ∷ texts) free =
    line_in_front text (joined (map line texts)) (All-head (λ t. Free newline t) text texts free) ∙ ap (λ l. text ∷ l) (lines_in_payload texts (All-tail (λ t. Free newline t) text texts free))

lines_in_payloads : (runs : List (List (List ℕ))) → All (All (λ text. Free newline text)) runs → flat_map payload_lines (map joined (map (map line) runs)) ≡ joined runs
lines_in_payloads [] free = refl
lines_in_payloads (run ∷ runs) free = (λ i. lines_in_payload run (All-head (All (λ text. Free newline text)) run runs free) i ++ lines_in_payloads runs (All-tail (All (λ text. Free newline text)) run runs free) i)

all_free : (texts : List (List ℕ)) (readings : List (Option LineText)) → AreRead DogStatsd texts readings → count_bad readings ≡ 0 → All (λ text. Free newline text) texts
all_free [] rs read none = All-nil (λ text. Free newline text)
all_free (text ∷ texts) [] read none = absurd read
all_free (text ∷ texts) (None ∷ rs) read none = absurd (omega (arith, none))
all_free (text ∷ texts) (Some said ∷ rs) read none = All-cons (λ t. Free newline t) text texts (line_no_newline DogStatsd text said read.0) (all_free texts rs read.1 none)

-- the lines of the payloads are the lines
pub payloads_read : (limit bound : ℕ) (moment : ℕ) (lines : List (List ℕ)) (after : PrometheusState → PrometheusState) (read : ReadsBack bound moment lines after) → flat_map payload_lines (payloads_of limit lines) ≡ read.texts
payloads_read limit bound moment lines after read =
    let runs = full_cut (λ run. payload_fits limit (map line run)) read.texts in
    let whole : joined runs ≡ read.texts = full_cut_whole (λ run. payload_fits limit (map line run)) read.texts in
    let free = all_free read.texts read.readings read.are_read read.none_bad in
    ap (λ l. flat_map payload_lines (map joined l)) (ap (full_cut (payload_fits limit)) read.lines_are ∙ cut_mapped line (payload_fits limit) read.texts)
    ∙ lines_in_payloads runs (all_runs (λ text. Free newline text) runs (subst (All (λ text. Free newline text)) (sym whole) free)) ∙ whole
