-- What a round of lanes leaves of the Prometheus exporter: each series after its calls in one order.
use Rattle.std.proofs.Common.{◌≡◌, ℕ, zero, suc, ◌+◌, ◌<◌, Bool, true, false, cond, List, [], ◌∷◌, ◌++◌, length, map, drop, append-nil, append_assoc, refl, sym, ap, subst, ◌∙◌, arith}
use Rattle.std.specs.Prelude.{◌==◌, ◌&&◌, All, Option, Some, None, filter, flat_map, option_map, unwrap_or, slice_get, zip}
use Rattle.std.specs.List.{AllByRecursion, AllZip}
use Rattle.std.proofs.lemmas.Bool.{true≢false}
use Rattle.std.proofs.lemmas.List.{map-append, length-map}
use Rattle.std.proofs.lemmas.List.Elements.{All-head, All-tail}
use mathlib.Core.Option.{some}
use lib.ListN.{get_elem?}
use Rattle.legal_history.specs.History.{Distinct, calls}
use Rattle.legal_history.specs.Mapped.{mapped_log}
use Rattle.legal_history.specs.Order.{taken, IsOrder, GrewInOrder}
use Rattle.legal_history.proofs.Mapped.{calls-mapped, is_order-back, taken-mapped}
use Rattle.legal_history.proofs.Steps.{one_at}
use Rattle.cell_lanes.specs.Lines.{LaneText}
use Rattle.cell_lanes.specs.Things.{Thing}
use Rattle.metrics_core.specs.declared.kinds.MetricKind.{MetricKind}
use Rattle.metrics_core.specs.declared.kinds.MetricKind.TheVariants as kinds
use Rattle.metrics_core.specs.declared.kinds.SeriesId.{SeriesId}
use Rattle.metrics_core.specs.declared.calls.SeriesCall.{SeriesCall}
use Rattle.metrics_core.specs.Calls.{Call}
use Rattle.metrics_core.specs.Kinds.{kind_eq}
use Rattle.metrics_core.specs.Series.{call_of}
use Rattle.metrics_registry.specs.Live.{LiveSeries, id_eq}
use Rattle.series_cells.specs.declared.counter.PromCounter.{PromCounter}
use Rattle.series_cells.specs.declared.gauge.PromGauge.{PromGauge}
use Rattle.sample_queue.specs.Queues.{entry_of, popped}
use Rattle.sample_queue.specs.Series.{sample_of_call}
use Rattle.sample_queue.specs.declared.calls.QueueCall.TheVariants.{Push, Pop}
use Rattle.histogram_series.specs.Entries.{TimedCall, TimedEntry, held_after, record_of}
use Rattle.histogram_series.specs.Series.{entries as known_entries}
use Rattle.prom_exporter.specs.State.{Series}
use Rattle.prom_exporter.specs.Shared.{Shared, calls_seen}
use Rattle.prom_exporter.specs.Sampled.{Sampled, calls_known}
use Rattle.prom_exporter.specs.Values.{SeenCell, sampled_series, seen_series, series_of}
use Rattle.prom_exporter.specs.Exporter.{Exporter, state_of as prometheus_of}
use Rattle.prom_exporter.specs.declared.lanes.SeriesCell.{SeriesCell}
use Rattle.prom_exporter.specs.declared.lanes.SeriesEntry.{SeriesEntry}
use Rattle.prom_exporter.specs.declared.lanes.SeriesEntry.TheVariants as entries
use Rattle.prom_exporter.specs.LanePasses.{counter_thing, entries_made, frame_of, gauge_thing, histogram_thing, ids_of, things_of, unheard_series, unseen}
use Rattle.drive_script.specs.Script as text
use Rattle.drive_script.specs.Script.{CallLine, RoundText}
use Rattle.drive_script.specs.Texts.{call_line_of, act_of}
use Rattle.drive_script.specs.declared.script.CallLine.{CallLine as CallValue}
use Rattle.drive_script.specs.declared.script.Act.{Act}
use Rattle.drive_script.specs.declared.script.Act.TheVariants as acts
use Rattle.script_player.specs.Fitting.{FitsHandle}
use Rattle.script_player.specs.LaneCalls.{HasLane, asked, calls_at, id_at, is_at, lines_at}
use Rattle.script_player.specs.Orders.{IsCalled}
use Rattle.script_player.specs.Play.{PlayState, RoundOrders, AreOrdersOf, IsOrderOf, after_calls, called, is_call_on, names, of_lane}
use Rattle.script_player.specs.Recorded.{RecordsSome}
use Rattle.script_player.specs.Resting.{AllRest}
use Rattle.script_player.proofs.LaneOrders.{OwnBy, taken_map, taken_lane}
use Rattle.script_player.proofs.LaneSteps.{counter≢histogram, gauge≢histogram, get_of, id_at_true}
use Rattle.script_player.proofs.Numbers.{Under, asked_on, each_under, number_at, number_of, numbers_differ, order_under, taken_under, told_on, told_under}
use Rattle.script_player.proofs.RestingSteps.{counter_at, counter_id, gauge_at, gauge_id, histogram_at, histogram_id, left_at}
use Rattle.script_player.proofs.Unmapped.{lists-back, queue_once, value_once}

-- ---- the calls on one series

module _ (moment : ℕ) (ids handles : List SeriesId) (j : ℕ) where
  -- the call lines of lane l on the series
  abbrev lines_of : List CallValue → ℕ → List CallLine
  lines_of lines l = map call_line_of (lines_at ids handles l j lines)

  owned : (l : ℕ) (lines : List CallValue) → OwnBy l (lines_of lines l)
  owned l [] = tt
  owned l (x ∷ xs) = by (HasLane l x) (is_at ids handles j x) refl (owned l xs)
    where
      by : (a b : Bool) → HasLane l x ≡ a → OwnBy l (map call_line_of (lines_at ids handles l j xs)) → OwnBy l (map call_line_of (cond (a && b) (x ∷ lines_at ids handles l j xs) (lines_at ids handles l j xs)))
      by true true own rest = (own, rest)
      by true false own rest = rest
      by false b own rest = rest

  module _ (named : CallLine → Bool) (same : (line : CallValue) → named (call_line_of line) ≡ is_at ids handles j line) where
    of_lane_named : (lane : ℕ) (lines : List CallValue) → of_lane lane (filter named (map call_line_of lines)) ≡ lines_of lines lane
    of_lane_named lane [] = refl
    of_lane_named lane (x ∷ xs) =
        ap (λ a. of_lane lane (cond a (call_line_of x ∷ filter named (map call_line_of xs)) (filter named (map call_line_of xs)))) (same x)
        ∙ by (is_at ids handles j x) (HasLane lane x) refl (of_lane_named lane xs)
      where
        by : (a b : Bool) → HasLane lane x ≡ b → of_lane lane (filter named (map call_line_of xs)) ≡ map call_line_of (lines_at ids handles lane j xs)
            → of_lane lane (cond a (call_line_of x ∷ filter named (map call_line_of xs)) (filter named (map call_line_of xs))) ≡ map call_line_of (cond (b && a) (x ∷ lines_at ids handles lane j xs) (lines_at ids handles lane j xs))
        by true true own rest = ap (λ b. cond b (call_line_of x ∷ of_lane lane (filter named (map call_line_of xs))) (of_lane lane (filter named (map call_line_of xs)))) own ∙ ap (λ l. call_line_of x ∷ l) rest
        by true false own rest = ap (λ b. cond b (call_line_of x ∷ of_lane lane (filter named (map call_line_of xs))) (of_lane lane (filter named (map call_line_of xs)))) own ∙ rest
        by false true own rest = rest
        by false false own rest = rest

    -- the lines in the order of the cell's history are an order of the calls on the series
    pub is_order : (order : List ℕ) (lines : List CallValue) → IsOrder order (λ l. calls_at moment ids handles l j lines) → IsOrderOf (filter named (map call_line_of lines)) (taken order (lines_of lines))
    is_order order lines counts lane =
        taken_lane order (lines_of lines) (λ l. owned l lines) (λ l. counts l ∙ same_count (lines_at ids handles l j lines)) lane ∙ sym (of_lane_named lane lines)
      where
        same_count : (ys : List CallValue) → length (map (λ (line : CallValue). asked moment line.act) ys) ≡ length (map call_line_of ys)
        same_count ys = length-map ys (λ (line : CallValue). asked moment line.act) ∙ sym (length-map ys call_line_of)

act_same : (moment : ℕ) (act : Act) → text.call_of moment (act_of act) ≡ call_of (asked moment act)
act_same moment (acts.Inc n) = refl
act_same moment (acts.Abs n) = refl
act_same moment (acts.Add v) = refl
act_same moment (acts.Sub v) = refl
act_same moment (acts.Set v) = refl
act_same moment (acts.Rec v) = refl
act_same moment (acts.RecN v n) = refl

acts_same : (moment : ℕ) (ys : List CallValue) → map (λ (c : CallLine). text.call_of moment c.act) (map call_line_of ys) ≡ map call_of (map (λ (line : CallValue). asked moment line.act) ys)
acts_same moment [] = refl
acts_same moment (y ∷ ys) = (λ i. act_same moment y.act i ∷ acts_same moment ys i)

-- what the lines do in this order is what was called
called_lines : (ids handles : List SeriesId) (j moment : ℕ) (order : List ℕ) (lines : List CallValue)
    → map (λ (c : CallLine). text.call_of moment c.act) (taken order (λ l. map call_line_of (lines_at ids handles l j lines))) ≡ map call_of (taken order (λ l. calls_at moment ids handles l j lines))
called_lines ids handles j moment order lines =
    taken_map (λ (c : CallLine). text.call_of moment c.act) order (λ l. map call_line_of (lines_at ids handles l j lines))
    ∙ ap (taken order) (λ i l. acts_same moment (lines_at ids handles l j lines) i)
    ∙ sym (taken_map call_of order (λ l. calls_at moment ids handles l j lines))

-- ---- equal lists that are not empty

module _ {A : Type 0} where
  first_or : A → List A → A
  first_or d [] = d
  first_or d (x ∷ xs) = x

  behind : List A → List A
  behind [] = []
  behind (x ∷ xs) = xs

  pub head_same : {x y : A} {xs ys : List A} → x ∷ xs ≡ y ∷ ys → x ≡ y
  unfolding first_or
  head_same {x} e = ap (first_or x) e

  pub tail_same : {x y : A} {xs ys : List A} → x ∷ xs ≡ y ∷ ys → xs ≡ ys
  unfolding behind
  tail_same e = ap behind e

-- ---- the series of one kind

-- what a page shows of a series' cell, and what a round of lanes leaves of it as it is
pub record Shows (X : Type 0) : Type 0 where
  pub told : X → List Call
  pub note : X → Option (ℕ × ℕ)
  pub left : LiveSeries X → LiveSeries X
  pub same : (s t : LiveSeries X) → left t ≡ left s → (t.id ≡ s.id) × (t.key ≡ s.key) × (note t.cell ≡ note s.cell)

-- the series after their calls, in some order on each
abbrev pub HaveOrders : MetricKind → List SeriesId → List CallValue → ℕ → List Series → List Series → Type 0
HaveOrders kind handles lines moment old new =
    (orders : List (List CallLine)) × AllZip (λ series order. IsOrderOf (filter (is_call_on handles kind series) (map call_line_of lines)) order) old orders × (new ≡ map (λ (series, order). called moment series order) (zip old orders))

module _ {X : Type 0} (shows : Shows X) (kind : MetricKind) (ids handles : List SeriesId) (lines : List CallValue) (moment : ℕ) where
  abbrev pub shown : LiveSeries X → Series
  shown s = record { number = s.id.number; key = s.key; calls = shows.told s.cell; note = shows.note s.cell }

  -- series j has its calls in an order behind those that it had
  abbrev pub GrewAt : ℕ → LiveSeries X → LiveSeries X → Type 0
  GrewAt j s t =
      (order : List ℕ) × IsOrder order (λ l. calls_at moment ids handles l j lines) × (shows.told t.cell ≡ shows.told s.cell ++ map call_of (taken order (λ l. calls_at moment ids handles l j lines)))

  named_at : (j : ℕ) (s : LiveSeries X) → get_elem? ids j ≡ some s.id → s.id.kind ≡ kind → (line : CallValue) → is_call_on handles kind (shown s) (call_line_of line) ≡ is_at ids handles j line
  named_at j s at is line =
      let same : (id : SeriesId) → names kind (shown s) id ≡ id_at ids j id =
      λ id. ap (λ k. kind_eq k id.kind && (s.id.number == id.number)) (sym is) ∙ sym (ap (λ o. unwrap_or (option_map (λ (own : SeriesId). id_eq own id) o) false) (get_of ids j s.id at)) in
      (λ i. unwrap_or (option_map (λ id. same id i) (slice_get handles line.handle)) false)

  after_one : (j : ℕ) (s t : LiveSeries X) (grew : GrewAt j s t) → shows.left t ≡ shows.left s → shown t ≡ called moment (shown s) (taken grew.0 (λ l. map call_line_of (lines_at ids handles l j lines)))
  after_one j s t grew frame =
      let same = shows.same s t frame in
      (λ i. record { number = (same.0 i).number; key = same.1 i; calls = calls_path i; note = same.2 i })
    where
      calls_path : shows.told t.cell ≡ shows.told s.cell ++ map (λ (c : CallLine). text.call_of moment c.act) (taken grew.0 (λ l. map call_line_of (lines_at ids handles l j lines)))
      calls_path = grew.2 ∙ ap (λ l. shows.told s.cell ++ l) (sym (called_lines ids handles j moment grew.0 lines))

  -- the orders of all series of the kind
  pub collect : (k : ℕ) (es fs : List (LiveSeries X)) → map shows.left fs ≡ map shows.left es
      → ((i : ℕ) (s : LiveSeries X) → get_elem? es i ≡ some s → (get_elem? ids (k + i) ≡ some s.id) × (s.id.kind ≡ kind))
      → ((i : ℕ) (s t : LiveSeries X) → get_elem? es i ≡ some s → get_elem? fs i ≡ some t → GrewAt (k + i) s t)
      → HaveOrders kind handles lines moment (map shown es) (map shown fs)
  collect k [] [] frame at grew = ([], tt, refl)
  collect k [] (f ∷ fs) frame at grew = absurd cc
  collect k (e ∷ es) [] frame at grew = absurd cc
  collect k (e ∷ es) (f ∷ fs) frame at grew =
      let here = at 0 e refl in
      let first : get_elem? ids k ≡ some e.id = subst (λ n. get_elem? ids n ≡ some e.id) (omega arith) here.0 in
      let own : GrewAt k e f = subst (λ n. GrewAt n e f) (omega arith) (grew 0 e f refl refl) in
      let same : shows.left f ≡ shows.left e = head_same frame in
      let rest = collect (suc k) es fs (tail_same frame) (λ i s p. let q = at (suc i) s p in (subst (λ n. get_elem? ids n ≡ some s.id) (omega arith) q.0, q.1)) (λ i s t p q. subst (λ n. GrewAt n s t) (omega arith) (grew (suc i) s t p q)) in
      let order = taken own.0 (λ l. map call_line_of (lines_at ids handles l k lines)) in
      (order ∷ rest.0, (is_order moment ids handles k (is_call_on handles kind (shown e)) (named_at k e first here.1) own.0 lines own.1, rest.1), (λ i. after_one k e f own same i ∷ rest.2 i))

-- ---- what a call stands as

-- a call stands in the history of a counter or a gauge as itself
IsValue : SeriesCall → Type 0
IsValue call = entries_made call ≡ entries.Value call ∷ []

-- what a record pushes, and the push
abbrev pushed_entry : SeriesCall → TimedEntry
pushed_entry call = entry_of (sample_of_call call).item (sample_of_call call).count

abbrev push_of : SeriesCall → TimedCall
push_of call = Push (pushed_entry call)

-- a call stands in the history of a histogram as one push, which tells the call
IsPush : SeriesCall → Type 0
IsPush call = (entries_made call ≡ entries.Queue (push_of call) ∷ []) × (record_of (pushed_entry call) ≡ call_of call)

module _ (moment : ℕ) where
  counter_value : (act : Act) → text.kind_of (act_of act) ≡ kinds.Counter → RecordsSome (act_of act) → IsValue (asked moment act)
  unfolding IsValue
  counter_value (acts.Inc n) is counted = refl
  counter_value (acts.Abs n) is counted = refl
  counter_value (acts.Add v) is counted = refl
  counter_value (acts.Sub v) is counted = refl
  counter_value (acts.Set v) is counted = refl
  counter_value (acts.Rec v) is counted = absurd (counter≢histogram (sym is))
  counter_value (acts.RecN v n) is counted = absurd (counter≢histogram (sym is))

  gauge_value : (act : Act) → text.kind_of (act_of act) ≡ kinds.Gauge → RecordsSome (act_of act) → IsValue (asked moment act)
  unfolding IsValue
  gauge_value (acts.Inc n) is counted = refl
  gauge_value (acts.Abs n) is counted = refl
  gauge_value (acts.Add v) is counted = refl
  gauge_value (acts.Sub v) is counted = refl
  gauge_value (acts.Set v) is counted = refl
  gauge_value (acts.Rec v) is counted = absurd (gauge≢histogram (sym is))
  gauge_value (acts.RecN v n) is counted = absurd (gauge≢histogram (sym is))

  histogram_push : (act : Act) → text.kind_of (act_of act) ≡ kinds.Histogram → RecordsSome (act_of act) → IsPush (asked moment act)
  unfolding IsPush
  histogram_push (acts.Inc n) is counted = absurd (counter≢histogram is)
  histogram_push (acts.Abs n) is counted = absurd (counter≢histogram is)
  histogram_push (acts.Add v) is counted = absurd (gauge≢histogram is)
  histogram_push (acts.Sub v) is counted = absurd (gauge≢histogram is)
  histogram_push (acts.Set v) is counted = absurd (gauge≢histogram is)
  histogram_push (acts.Rec v) is counted = (refl, refl)
  histogram_push (acts.RecN v zero) is counted = absurd (omega (arith, counted))
  histogram_push (acts.RecN v (suc n)) is counted = (refl, refl)

  -- a call line on a series has a call of the series' kind
  line_fits : (ids handles : List SeriesId) (j : ℕ) (id : SeriesId) → get_elem? ids j ≡ some id → (line : CallValue) → is_at ids handles j line ≡ true → FitsHandle handles (call_line_of line) → text.kind_of (act_of line.act) ≡ id.kind
  line_fits ids handles j id at line is fits = by (slice_get handles line.handle) refl is
    where
      by : (o : Option SeriesId) → slice_get handles line.handle ≡ o → unwrap_or (option_map (id_at ids j) o) false ≡ true → text.kind_of (act_of line.act) ≡ id.kind
      by None found none = absurd (true≢false (sym none))
      by (Some own) found here = sym (fits own found) ∙ ap (λ (x : SeriesId). x.kind) (one_at ids j own id (id_at_true ids j own here) at)

  -- what is so of each act of a kind is so of all calls on a series of the kind
  pub each_at : (P : SeriesCall → Type 0) (kind : MetricKind) → ((act : Act) → text.kind_of (act_of act) ≡ kind → RecordsSome (act_of act) → P (asked moment act)) → (ids handles : List SeriesId) (j l : ℕ) (id : SeriesId) → get_elem? ids j ≡ some id → id.kind ≡ kind
      → (lines : List CallValue) → All (λ (line : CallValue). FitsHandle handles (call_line_of line)) lines → All (λ (call : CallLine). RecordsSome call.act) (map call_line_of lines) → AllByRecursion P (calls_at moment ids handles l j lines)
  each_at P kind of ids handles j l id at is [] fits counted = tt
  each_at P kind of ids handles j l id at is (x ∷ xs) fits counted =
      by (HasLane l x) (is_at ids handles j x) refl
      (each_at P kind of ids handles j l id at is xs (All-tail (λ (line : CallValue). FitsHandle handles (call_line_of line)) x xs fits) (All-tail (λ (call : CallLine). RecordsSome call.act) (call_line_of x) (map call_line_of xs) counted))
    where
      by : (a b : Bool) → is_at ids handles j x ≡ b → AllByRecursion P (calls_at moment ids handles l j xs)
          → AllByRecursion P (map (λ (line : CallValue). asked moment line.act) (cond (a && b) (x ∷ lines_at ids handles l j xs) (lines_at ids handles l j xs)))
      by true true here rest = (
        of x.act (line_fits ids handles j id at x here (All-head (λ (line : CallValue). FitsHandle handles (call_line_of line)) x xs fits) ∙ is) (All-head (λ (call : CallLine). RecordsSome call.act) (call_line_of x) (map call_line_of xs) counted),
        rest,
      )
      by true false here rest = rest
      by false b here rest = rest

-- each of these calls stands as one
abbrev EachStandsAs : (SeriesCall → SeriesEntry) → List SeriesCall → Type 0
EachStandsAs one ks = AllByRecursion (λ k. entries_made k ≡ one k ∷ []) ks

made_each : (one : SeriesCall → SeriesEntry) (ks : List SeriesCall) → EachStandsAs one ks → flat_map entries_made ks ≡ map one ks
made_each one [] made = refl
made_each one (k ∷ ks) made = (λ i. made.0 i ++ made_each one ks made.1 i)

-- ---- what a page shows of a series, and what a round of lanes leaves

-- counters and gauges
abbrev pub value_shows : {F : Type 0} → Shows (Shared (Option F))
value_shows {F} = record {
  told = calls_seen;
  note = λ (cell : Shared (Option F)). cell.note;
  left = unseen;
  same = λ s t e. (ap (λ (x : LiveSeries (Shared (Option F))). x.id) e, ap (λ (x : LiveSeries (Shared (Option F))). x.key) e, ap (λ (x : LiveSeries (Shared (Option F))). x.cell.note) e);
}

-- histograms
abbrev pub sample_shows : Shows Sampled
sample_shows = record {
  told = calls_known;
  note = λ (cell : Sampled). cell.note;
  left = unheard_series;
  same = λ s t e. (ap (λ (x : LiveSeries Sampled). x.id) e, ap (λ (x : LiveSeries Sampled). x.key) e, ap (λ (x : LiveSeries Sampled). x.cell.note) e);
}

-- a queue behind more pushes
pushes_held : (es : List TimedEntry) (ps : List TimedEntry) → held_after es (map Push ps) ≡ es ++ ps
pushes_held es [] = sym (append-nil es)
pushes_held es (p ∷ ps) = pushes_held (es ++ p ∷ []) ps ∙ append_assoc es (p ∷ []) ps

held_more : (es : List TimedEntry) (cs : List TimedCall) (ps : List TimedEntry) → held_after es (cs ++ map Push ps) ≡ held_after es cs ++ ps
held_more es [] ps = pushes_held es ps
held_more es (Push e ∷ cs) ps = held_more (es ++ e ∷ []) cs ps
held_more es (Pop e ∷ cs) ps = held_more (drop 1 es) cs ps

map_twice : {A B C : Type 0} (g : B → C) (f : A → B) (xs : List A) → map (λ x. g (f x)) xs ≡ map g (map f xs)
map_twice g f [] = refl
map_twice g f (x ∷ xs) = ap (λ l. g (f x) ∷ l) (map_twice g f xs)

-- the calls that pushes tell
calls_told : (ks : List SeriesCall) → AllByRecursion IsPush ks → map (λ (k : SeriesCall). record_of (pushed_entry k)) ks ≡ map call_of ks
unfolding IsPush
calls_told [] push = refl
calls_told (k ∷ ks) push = (λ i. push.0.1 i ∷ calls_told ks push.1 i)

as_values : (ks : List SeriesCall) → AllByRecursion IsValue ks → EachStandsAs entries.Value ks
unfolding IsValue
as_values [] each = tt
as_values (k ∷ ks) each = (each.0, as_values ks each.1)

as_pushes : (ks : List SeriesCall) → AllByRecursion IsPush ks → EachStandsAs (λ k. entries.Queue (push_of k)) ks
unfolding IsPush
as_pushes [] each = tt
as_pushes (k ∷ ks) each = (each.0.0, as_pushes ks each.1)

module _ (moment : ℕ) (ids handles : List SeriesId) (lines : List CallValue) (j : ℕ) where
  -- what lane l calls on the series
  abbrev own_calls : ℕ → List SeriesCall
  own_calls l = calls_at moment ids handles l j lines

  value_grew : {F : Type 0} (kind : MetricKind) (s t : LiveSeries (Shared (Option F))) (order : List ℕ) → IsOrder order own_calls
      → calls (mapped_log entries.Value t.cell.root.seen) ≡ calls (mapped_log entries.Value s.cell.root.seen) ++ map entries.Value (taken order own_calls) → GrewAt value_shows kind ids handles lines moment j s t
  value_grew kind s t order is grew =
      let images : map entries.Value (calls t.cell.root.seen) ≡ map entries.Value (calls s.cell.root.seen ++ taken order own_calls)
      = sym (calls-mapped entries.Value t.cell.root.seen) ∙ grew ∙ ap (λ l. l ++ map entries.Value (taken order own_calls)) (calls-mapped entries.Value s.cell.root.seen) ∙ sym (map-append entries.Value (calls s.cell.root.seen) (taken order own_calls)) in
      let own = lists-back entries.Value value_once (calls t.cell.root.seen) (calls s.cell.root.seen ++ taken order own_calls) images in
      (order, is, ap (map call_of) own ∙ map-append call_of (calls s.cell.root.seen) (taken order own_calls))

  -- what was pushed stands behind the entries that the exporter knew
  entries_grew : (s t : Sampled) (ks : List SeriesCall) → t.series.root.mine ≡ s.series.root.mine → calls t.series.root.seen ≡ calls s.series.root.seen ++ map push_of ks → known_entries t.series ≡ known_entries s.series ++ map pushed_entry ks
  entries_grew s t ks mine grew =
      (λ i. popped (mine i) ++ (ap (held_after []) (grew ∙ ap (λ l. calls s.series.root.seen ++ l) (map_twice Push pushed_entry ks)) ∙ held_more [] (calls s.series.root.seen) (map pushed_entry ks)) i)
      ∙ sym (append_assoc (popped s.series.root.mine) (held_after [] (calls s.series.root.seen)) (map pushed_entry ks))

  sample_grew : (kind : MetricKind) (s t : LiveSeries Sampled) (order : List ℕ) → IsOrder order own_calls → ((l : ℕ) → AllByRecursion IsPush (own_calls l)) → unheard_series t ≡ unheard_series s
      → calls (mapped_log entries.Queue t.cell.series.root.seen) ≡ calls (mapped_log entries.Queue s.cell.series.root.seen) ++ map (λ k. entries.Queue (push_of k)) (taken order own_calls) → GrewAt sample_shows kind ids handles lines moment j s t
  sample_grew kind s t order is push left grew =
      let old = calls s.cell.series.root.seen in
      let made = taken order own_calls in
      let images : map entries.Queue (calls t.cell.series.root.seen) ≡ map entries.Queue (old ++ map push_of made)
      = sym (calls-mapped entries.Queue t.cell.series.root.seen) ∙ grew ∙ (λ i. calls-mapped entries.Queue s.cell.series.root.seen i ++ map_twice entries.Queue push_of made i) ∙ sym (map-append entries.Queue old (map push_of made)) in
      let own = lists-back entries.Queue queue_once (calls t.cell.series.root.seen) (old ++ map push_of made) images in
      let known = entries_grew s.cell t.cell made (ap (λ (x : LiveSeries Sampled). x.cell.series.root.mine) left) own in
      let told : map record_of (map pushed_entry made) ≡ map call_of made
      = sym (map_twice record_of pushed_entry made) ∙ sym (taken-mapped (λ (k : SeriesCall). record_of (pushed_entry k)) order own_calls)
      ∙ ap (taken order) (λ i l. calls_told (own_calls l) (push l) i) ∙ taken-mapped call_of order own_calls in
      (order, is, ap (map record_of) known ∙ map-append record_of (known_entries s.cell.series) (map pushed_entry made) ∙ ap (λ l. calls_known s.cell ++ l) told)

-- ---- the exporter

module _ (moment : ℕ) (e f : Exporter) (handles : List SeriesId) (lines : List CallValue) where
  -- what the lane with this number asks for on the series under an index
  abbrev pub asked_at : ℕ → ℕ → List SeriesCall
  asked_at j l = calls_at moment (ids_of e) handles l j lines

  -- each history grew by what these lists stand as
  abbrev pub EachGrew : (ℕ → ℕ → List SeriesCall) → Type 0
  EachGrew own = (j : ℕ) (c d : Thing SeriesEntry SeriesCell) → get_elem? (things_of e) j ≡ some c → get_elem? (things_of f) j ≡ some d → GrewInOrder (λ l. flat_map entries_made (own j l)) c.root.seen d.root.seen

  abbrev before : PlayState
  before = record { prometheus = prometheus_of e; handles = handles }

  abbrev after : PlayState
  after = record { prometheus = prometheus_of f; handles = handles }

  -- the orders of one kind of series, of those that a state has
  abbrev OrdersOn : MetricKind → List Series → List (List CallLine) → Type 0
  OrdersOn kind series orders = AllZip (λ series order. IsOrderOf (filter (is_call_on handles kind series) (map call_line_of lines)) order) series orders

  legal : (round : RoundText) → round.calls ≡ map call_line_of lines → (cs gs hs : List (List CallLine)) → OrdersOn kinds.Counter before.prometheus.counters cs → OrdersOn kinds.Gauge before.prometheus.gauges gs → OrdersOn kinds.Histogram before.prometheus.histograms hs
      → AreOrdersOf before round (record { counters = cs; gauges = gs; histograms = hs })
  legal round are cs gs hs c g h kinds.Counter = subst (λ ls. AllZip (λ series order. IsOrderOf (filter (is_call_on handles kinds.Counter series) ls) order) before.prometheus.counters cs) (sym are) c
  legal round are cs gs hs c g h kinds.Gauge = subst (λ ls. AllZip (λ series order. IsOrderOf (filter (is_call_on handles kinds.Gauge series) ls) order) before.prometheus.gauges gs) (sym are) g
  legal round are cs gs hs c g h kinds.Histogram = subst (λ ls. AllZip (λ series order. IsOrderOf (filter (is_call_on handles kinds.Histogram series) ls) order) before.prometheus.histograms hs) (sym are) h

  module _ (number : ℕ → ℕ) (count : ℕ) (apart : (i k : ℕ) → i < count → k < count → number i ≡ number k → i ≡ k) (own : ℕ → ℕ → List SeriesCall) (under : (j : ℕ) → Under number count apart (own j) (asked_at j)) where
    -- the history of each thing grew by what its calls stand as, in an order
    grew_at : (one : SeriesCall → SeriesEntry) (j : ℕ) (c d : Thing SeriesEntry SeriesCell) → ((l : ℕ) → EachStandsAs one (asked_at j l)) → GrewInOrder (λ l. flat_map entries_made (own j l)) c.root.seen d.root.seen
        → (order : List ℕ) × IsOrder order (asked_at j) × (calls d.root.seen ≡ calls c.root.seen ++ map one (taken order (asked_at j)))
    grew_at one j c d made (order, is, grew) =
        let each = each_under number count apart (own j) (asked_at j) (under j) (EachStandsAs one) tt made in
        let as_made : (λ (l : ℕ). flat_map entries_made (own j l)) ≡ (λ l. map one (own j l)) = λ i l. made_each one (own j l) (each l) i in
        let own_order = is_order-back one order (own j) (subst (IsOrder order) as_made is) in
        let by_numbers = taken_under number count apart order (own j) (asked_at j) (under j) own_order in (
          map number order,
          order_under number count apart order (own j) (asked_at j) (under j) own_order,
          grew ∙ ap (λ ls. calls c.root.seen ++ taken order ls) as_made ∙ ap (λ t. calls c.root.seen ++ t) (taken-mapped one order (own j) ∙ ap (map one) (sym by_numbers)),
        )

    module _ (rest : AllRest e) (frame : frame_of f ≡ frame_of e) (grew : EachGrew own)
        (fits : All (λ (line : CallValue). FitsHandle handles (call_line_of line)) lines) (some_are : All (λ (call : CallLine). RecordsSome call.act) (map call_line_of lines)) where
      more_counters : length f.series.counters ≡ length e.series.counters
      more_counters = sym (length-map f.series.counters unseen) ∙ ap (λ (x : Exporter). length x.series.counters) frame ∙ length-map e.series.counters unseen

      more_gauges : length f.series.gauges ≡ length e.series.gauges
      more_gauges = sym (length-map f.series.gauges unseen) ∙ ap (λ (x : Exporter). length x.series.gauges) frame ∙ length-map e.series.gauges unseen

      counter_grew : (i : ℕ) (s t : LiveSeries (Shared (Option PromCounter))) → get_elem? e.series.counters i ≡ some s → get_elem? f.series.counters i ≡ some t → GrewAt value_shows kinds.Counter (ids_of e) handles lines moment i s t
      counter_grew i s t at at' =
          let values = λ (l : ℕ). as_values (asked_at i l) (each_at moment IsValue kinds.Counter (counter_value moment) (ids_of e) handles i l s.id (counter_id e i s at) (rest.counters i s at).kind_is lines fits some_are) in
          let grown = grew_at entries.Value i (counter_thing s) (counter_thing t) values (grew i (counter_thing s) (counter_thing t) (counter_at e i s at) (counter_at f i t at')) in
          value_grew moment (ids_of e) handles lines i kinds.Counter s t grown.0 grown.1 grown.2

      gauge_grew : (k : ℕ) (s t : LiveSeries (Shared (Option PromGauge))) → get_elem? e.series.gauges k ≡ some s → get_elem? f.series.gauges k ≡ some t → GrewAt value_shows kinds.Gauge (ids_of e) handles lines moment (length e.series.counters + k) s t
      gauge_grew k s t at at' =
          let i = length e.series.counters + k in
          let values = λ (l : ℕ). as_values (asked_at i l) (each_at moment IsValue kinds.Gauge (gauge_value moment) (ids_of e) handles i l s.id (gauge_id e k s at) (rest.gauges k s at).kind_is lines fits some_are) in
          let here = subst (λ n. get_elem? (things_of f) (n + k) ≡ some (gauge_thing t)) more_counters (gauge_at f k t at') in
          let grown = grew_at entries.Value i (gauge_thing s) (gauge_thing t) values (grew i (gauge_thing s) (gauge_thing t) (gauge_at e k s at) here) in
          value_grew moment (ids_of e) handles lines i kinds.Gauge s t grown.0 grown.1 grown.2

      histogram_grew : (k : ℕ) (s t : LiveSeries Sampled) → get_elem? e.series.histograms k ≡ some s → get_elem? f.series.histograms k ≡ some t
          → GrewAt sample_shows kinds.Histogram (ids_of e) handles lines moment (length e.series.counters + (length e.series.gauges + k)) s t
      histogram_grew k s t at at' =
          let i = length e.series.counters + (length e.series.gauges + k) in
          let push = λ (l : ℕ). each_at moment IsPush kinds.Histogram (histogram_push moment) (ids_of e) handles i l s.id (histogram_id e k s at) (rest.histograms k s at).kind_is lines fits some_are in
          let here = subst (λ n. get_elem? (things_of f) (n + (length e.series.gauges + k)) ≡ some (histogram_thing t)) more_counters
          (subst (λ n. get_elem? (things_of f) (length f.series.counters + (n + k)) ≡ some (histogram_thing t)) more_gauges (histogram_at f k t at')) in
          let grown = grew_at (λ k. entries.Queue (push_of k)) i (histogram_thing s) (histogram_thing t) (λ l. as_pushes (asked_at i l) (push l)) (grew i (histogram_thing s) (histogram_thing t) (histogram_at e k s at) here) in
          let (other, other_at, left) = left_at unheard_series e.series.histograms f.series.histograms (ap (λ (x : Exporter). x.series.histograms) frame) k t at' in
          let same_left : unheard_series t ≡ unheard_series s = sym left ∙ ap unheard_series (one_at e.series.histograms k other s other_at at) in
          sample_grew moment (ids_of e) handles lines i kinds.Histogram s t grown.0 grown.1 push same_left grown.2

      -- those of a state
      in_state : {X : Type 0} (kind : MetricKind) (shown : LiveSeries X → Series) (seen : LiveSeries X → LiveSeries SeenCell) → ((es : List (LiveSeries X)) → map shown es ≡ map series_of (map seen es)) → (es fs : List (LiveSeries X))
          → HaveOrders kind handles lines moment (map shown es) (map shown fs) → HaveOrders kind handles lines moment (map series_of (map seen es)) (map series_of (map seen fs))
      in_state kind shown seen same_series es fs have =
          subst (λ l. HaveOrders kind handles lines moment l (map series_of (map seen fs))) (same_series es) (subst (λ l. HaveOrders kind handles lines moment (map shown es) l) (same_series fs) have)

      pub round_made : (round : RoundText) → round.moment ≡ moment → round.calls ≡ map call_line_of lines → IsCalled before round after
      round_made round when are =
          let counters = in_state kinds.Counter _ seen_series (λ es. map_twice series_of seen_series es) e.series.counters f.series.counters
          (collect value_shows kinds.Counter (ids_of e) handles lines moment 0 e.series.counters f.series.counters (ap (λ (x : Exporter). x.series.counters) frame)
          (λ i s at. (subst (λ n. get_elem? (ids_of e) n ≡ some s.id) (omega arith) (counter_id e i s at), (rest.counters i s at).kind_is))
          (λ i s t at at'. subst (λ n. GrewAt value_shows kinds.Counter (ids_of e) handles lines moment n s t) (omega arith) (counter_grew i s t at at'))) in
          let gauges = in_state kinds.Gauge _ seen_series (λ es. map_twice series_of seen_series es) e.series.gauges f.series.gauges
          (collect value_shows kinds.Gauge (ids_of e) handles lines moment (length e.series.counters) e.series.gauges f.series.gauges (ap (λ (x : Exporter). x.series.gauges) frame)
          (λ i s at. (gauge_id e i s at, (rest.gauges i s at).kind_is)) gauge_grew) in
          let histograms = in_state kinds.Histogram _ (sampled_series calls_known) (λ es. map_twice series_of (sampled_series calls_known) es) e.series.histograms f.series.histograms
          (collect sample_shows kinds.Histogram (ids_of e) handles lines moment (length e.series.counters + length e.series.gauges) e.series.histograms f.series.histograms (ap (λ (x : Exporter). x.series.histograms) frame)
          (λ i s at. (subst (λ n. get_elem? (ids_of e) n ≡ some s.id) (omega arith) (histogram_id e i s at), (rest.histograms i s at).kind_is))
          (λ i s t at at'. subst (λ n. GrewAt sample_shows kinds.Histogram (ids_of e) handles lines moment n s t) (omega arith) (histogram_grew i s t at at'))) in
          let orders : RoundOrders = record { counters = counters.0; gauges = gauges.0; histograms = histograms.0 } in (
            orders,
            legal round are counters.0 gauges.0 histograms.0 counters.1 gauges.1 histograms.1,
            subst (λ n. after ≡ after_calls before (record { moment = n; setup = round.setup; calls = round.calls }) orders) (sym when)
                (λ i. record {
                  prometheus = record { counters = counters.2 i; gauges = gauges.2 i; histograms = histograms.2 i; made = (frame i).series.made; published = (frame i).said.published; pending = (frame i).said.pending; limit = (frame i).settings.series_limit; redirected = (frame i).redirected };
                  handles = handles;
                }),
          )

  -- the same of lanes whose calls on a series are those that they ask for of this exporter, where so many things are before its first one
  module _ {K : Type 0} (asks : K → List SeriesCall) (first : ℕ) (lanes : List (LaneText K)) (apart : Distinct (map number_of lanes)) (same : (j l : ℕ) → told_on asks (first + j) lanes l ≡ asked_at j l) where
    pub lanes_made : AllRest e → frame_of f ≡ frame_of e → EachGrew (λ j. asked_on asks (first + j) lanes) → All (λ (line : CallValue). FitsHandle handles (call_line_of line)) lines
        → All (λ (call : CallLine). RecordsSome call.act) (map call_line_of lines) → (round : RoundText) → round.moment ≡ moment → round.calls ≡ map call_line_of lines → IsCalled before round after
    lanes_made =
        round_made (number_at lanes) (length lanes) (numbers_differ lanes apart) (λ j. asked_on asks (first + j) lanes)
        (λ j. subst (λ (ys : ℕ → List SeriesCall). Under (number_at lanes) (length lanes) (numbers_differ lanes apart) (asked_on asks (first + j) lanes) ys) (λ i l. same j l i) (told_under asks (first + j) lanes apart))
