-- What one series becomes by the calls of lists that are made on it in one order.
use Rattle.std.proofs.Common.{◌≡◌, ℕ, zero, suc, ◌==◌, Bool, true, false, cond, List, [], ◌∷◌, ◌++◌, map, replicate, refl, sym, ap, subst, ◌∙◌, append_assoc}
use Rattle.std.specs.Prelude.{filter, flat_map, pos}
use Rattle.std.specs.List.{AllByRecursion}
use Rattle.std.proofs.lemmas.List.{map-append, append-nil}
use Rattle.legal_history.specs.declared.history.Entry.{Entry}
use Rattle.legal_history.specs.declared.history.View.{View}
use Rattle.legal_history.specs.History.{calls}
use Rattle.legal_history.specs.Order.{first_of, rest_if, taken, without_first, IsOrder, GrewInOrder}
use Rattle.legal_history.specs.Mapped.{IsOneToOne, mapped_view}
use Rattle.legal_history.proofs.Mapped.{taken-mapped, is_order-back, grew-back}
use Rattle.metrics_core.specs.declared.calls.SeriesCall.{SeriesCall}
use Rattle.metrics_core.specs.declared.calls.SeriesCall.TheVariants as call
use Rattle.metrics_core.specs.declared.gauge_values.GaugeValue.TheVariants as update
use Rattle.metrics_core.specs.declared.numbers.Fixed.{Fixed as FixedOf}
use Rattle.metrics_core.specs.Fixed.{of_billionths}
use Rattle.metrics_registry.specs.Live.{LiveSeries}
use Rattle.flushed_cells.specs.declared.counter_calls.CounterCall.{CounterCall}
use Rattle.flushed_cells.specs.declared.counter_calls.CounterCall.TheVariants as counter
use Rattle.flushed_cells.specs.declared.counter_state.CounterState.{CounterState}
use Rattle.flushed_cells.specs.declared.gauge_calls.GaugeCall.{GaugeCall}
use Rattle.flushed_cells.specs.declared.gauge_calls.GaugeCall.TheVariants as gauge
use Rattle.flushed_cells.specs.declared.gauge_state.GaugeState.{GaugeState}
use Rattle.flushed_cells.specs.Counters as counters
use Rattle.flushed_cells.specs.Gauges as gauges
use Rattle.sample_queue.specs.declared.calls.QueueCall.{QueueCall}
use Rattle.sample_queue.specs.declared.calls.QueueCall.TheVariants.{Push, Pop}
use Rattle.sample_queue.specs.declared.calls.SampleEntry.{SampleEntry}
use Rattle.sample_queue.specs.Queues.{entry_of}
use Rattle.dsd_exporter.specs.declared.lanes.SeriesEntry.{SeriesEntry}
use Rattle.dsd_exporter.specs.declared.lanes.SeriesEntry.TheVariants as entry
use Rattle.dsd_exporter.specs.Samples.{counter_behind, gauge_behind, waiting_behind, waiting_after, but_first, samples_in}
use Rattle.dsd_exporter.specs.CallSteps.{IsCounterCall, IsGaugeCall, IsRecord, counter_step, gauge_step, samples_step, after_calls, records_some}
use Rattle.dsd_exporter.specs.Exporter.{CounterThing, GaugeThing, Queued, counter_seen, gauge_seen, samples_seen}
use Rattle.dsd_exporter.specs.LanePasses.{counter_thing, gauge_thing, histogram_thing, entries_made, counter_calls, gauge_calls, queue_calls}
use Rattle.dsd_exporter.proofs.CallKinds.{counter_entries, gauge_entries, histogram_entries}

-- ---- what holds of each call of lanes holds of all in one order

module _ {K : Type 0} (P : K → Type 0) where
  all_append : (xs ys : List K) → AllByRecursion P xs → AllByRecursion P ys → AllByRecursion P (xs ++ ys)
  all_append [] ys front back = back
  all_append (x ∷ xs) ys front back = (front.0, all_append xs ys front.1 back)

  all_first : (xs : List K) → AllByRecursion P xs → AllByRecursion P (first_of xs)
  all_first [] all = tt
  all_first (x ∷ xs) all = (all.0, tt)

  all_rest : (b : Bool) (xs : List K) → AllByRecursion P xs → AllByRecursion P (rest_if b xs)
  all_rest true [] all = tt
  all_rest true (x ∷ xs) all = all.1
  all_rest false xs all = all

  all_in_order : (order : List ℕ) (lists : ℕ → List K) → ((l : ℕ) → AllByRecursion P (lists l)) → AllByRecursion P (taken order lists)
  all_in_order [] lists all = tt
  all_in_order (l ∷ ls) lists all =
      all_append (first_of (lists l)) (taken ls (without_first l lists)) (all_first (lists l) (all l))
      (all_in_order ls (without_first l lists) (λ k. all_rest (k == l) (lists k) (all k)))

-- ---- calls that stand as one call each

module _ {C : Type 0} (makes : SeriesCall → List C) (f : SeriesCall → C) (P : SeriesCall → Type 0) (one : (c : SeriesCall) → P c → makes c ≡ f c ∷ []) where
  makes_each : (cs : List SeriesCall) → AllByRecursion P cs → flat_map makes cs ≡ map f cs
  makes_each [] all = refl
  makes_each (c ∷ cs) all = (λ i. one c all.0 i ++ makes_each cs all.1 i)

  -- a history that grew by them grew by their images in one order
  abbrev GrewAs : (ℕ → List SeriesCall) → List (Entry C) → List (Entry C) → Type 0
  GrewAs lists before now = (order : List ℕ) × IsOrder order lists × (calls now ≡ calls before ++ map f (taken order lists)) × AllByRecursion P (taken order lists)

  grew_as : (lists : ℕ → List SeriesCall) (before now : List (Entry C)) → ((l : ℕ) → AllByRecursion P (lists l)) → GrewInOrder (λ l. flat_map makes (lists l)) before now → GrewAs lists before now
  grew_as lists before now all grew =
      let each : (λ l. flat_map makes (lists l)) ≡ (λ l. map f (lists l)) = λ i l. makes_each (lists l) (all l) i in
      let own : GrewInOrder (λ l. map f (lists l)) before now = subst (λ (ls : ℕ → List C). GrewInOrder ls before now) each grew in (
        own.0,
        is_order-back f own.0 lists own.1,
        own.2 ∙ ap (λ cs. calls before ++ cs) (taken-mapped f own.0 lists),
        all_in_order P own.0 lists all,
      )

-- ---- counters

counter_or : CounterCall → SeriesEntry → CounterCall
counter_or d (entry.Counter c) = c
counter_or d (entry.Gauge c) = d
counter_or d (entry.Histogram c) = d

pub one_counter : IsOneToOne entry.Counter
unfolding counter_or
one_counter a b e = ap (counter_or a) e

abbrev counter_asks : SeriesCall → CounterCall
counter_asks (call.Increment n) = counter.Increment n
counter_asks (call.Absolute n) = counter.Absolute n
counter_asks (call.Add v) = counter.Increment 0
counter_asks (call.Subtract v) = counter.Increment 0
counter_asks (call.Set v) = counter.Increment 0
counter_asks (call.Record v moment count) = counter.Increment 0

counter_one : (c : SeriesCall) → IsCounterCall c → counter_calls c ≡ counter_asks c ∷ []
counter_one (call.Increment n) takes = refl
counter_one (call.Absolute n) takes = refl
counter_one (call.Add v) takes = absurd takes
counter_one (call.Subtract v) takes = absurd takes
counter_one (call.Set v) takes = absurd takes
counter_one (call.Record v moment count) takes = absurd takes

counter_more : (s : CounterState) (xs ys : List CounterCall) → counter_behind s (xs ++ ys) ≡ counter_behind (counter_behind s xs) ys
counter_more s [] ys = refl
counter_more s (x ∷ xs) ys = counter_more (counter_behind s (x ∷ [])) xs ys

counter_steps : (cs : List SeriesCall) (s : CounterState) → AllByRecursion IsCounterCall cs → counter_behind s (map counter_asks cs) ≡ after_calls counter_step cs s
counter_steps [] s all = refl
counter_steps (call.Increment n ∷ cs) s all = counter_steps cs (counter_step (call.Increment n) s) all.1
counter_steps (call.Absolute n ∷ cs) s all = counter_steps cs (counter_step (call.Absolute n) s) all.1
counter_steps (call.Add v ∷ cs) s all = absurd all.0
counter_steps (call.Subtract v ∷ cs) s all = absurd all.0
counter_steps (call.Set v ∷ cs) s all = absurd all.0
counter_steps (call.Record v moment count ∷ cs) s all = absurd all.0

-- ---- gauges

gauge_or : GaugeCall → SeriesEntry → GaugeCall
gauge_or d (entry.Counter c) = d
gauge_or d (entry.Gauge c) = c
gauge_or d (entry.Histogram c) = d

pub one_gauge : IsOneToOne entry.Gauge
unfolding gauge_or
one_gauge a b e = ap (gauge_or a) e

abbrev gauge_asks : SeriesCall → GaugeCall
gauge_asks (call.Increment n) = gauge.Update (update.Increment (of_billionths (pos 0)))
gauge_asks (call.Absolute n) = gauge.Update (update.Increment (of_billionths (pos 0)))
gauge_asks (call.Add v) = gauge.Update (update.Increment v)
gauge_asks (call.Subtract v) = gauge.Update (update.Decrement v)
gauge_asks (call.Set v) = gauge.Update (update.Absolute v)
gauge_asks (call.Record v moment count) = gauge.Update (update.Increment (of_billionths (pos 0)))

gauge_one : (c : SeriesCall) → IsGaugeCall c → gauge_calls c ≡ gauge_asks c ∷ []
gauge_one (call.Increment n) takes = absurd takes
gauge_one (call.Absolute n) takes = absurd takes
gauge_one (call.Add v) takes = refl
gauge_one (call.Subtract v) takes = refl
gauge_one (call.Set v) takes = refl
gauge_one (call.Record v moment count) takes = absurd takes

gauge_more : (s : GaugeState) (xs ys : List GaugeCall) → gauge_behind s (xs ++ ys) ≡ gauge_behind (gauge_behind s xs) ys
gauge_more s [] ys = refl
gauge_more s (x ∷ xs) ys = gauge_more (gauge_behind s (x ∷ [])) xs ys

gauge_steps : (cs : List SeriesCall) (s : GaugeState) → AllByRecursion IsGaugeCall cs → gauge_behind s (map gauge_asks cs) ≡ after_calls gauge_step cs s
gauge_steps [] s all = refl
gauge_steps (call.Increment n ∷ cs) s all = absurd all.0
gauge_steps (call.Absolute n ∷ cs) s all = absurd all.0
gauge_steps (call.Add v ∷ cs) s all = gauge_steps cs (gauge_step (call.Add v) s) all.1
gauge_steps (call.Subtract v ∷ cs) s all = gauge_steps cs (gauge_step (call.Subtract v) s) all.1
gauge_steps (call.Set v ∷ cs) s all = gauge_steps cs (gauge_step (call.Set v) s) all.1
gauge_steps (call.Record v moment count ∷ cs) s all = absurd all.0

-- ---- histograms

queue_or : QueueCall FixedOf → SeriesEntry → QueueCall FixedOf
queue_or d (entry.Counter c) = d
queue_or d (entry.Gauge c) = d
queue_or d (entry.Histogram c) = c

pub one_queue : IsOneToOne entry.Histogram
unfolding queue_or
one_queue a b e = ap (queue_or a) e

abbrev entry_asked : SeriesCall → SampleEntry FixedOf
entry_asked (call.Increment n) = entry_of (of_billionths (pos 0)) 0
entry_asked (call.Absolute n) = entry_of (of_billionths (pos 0)) 0
entry_asked (call.Add v) = entry_of (of_billionths (pos 0)) 0
entry_asked (call.Subtract v) = entry_of (of_billionths (pos 0)) 0
entry_asked (call.Set v) = entry_of (of_billionths (pos 0)) 0
entry_asked (call.Record v moment count) = entry_of v count

abbrev push_asked : SeriesCall → QueueCall FixedOf
push_asked c = Push (entry_asked c)

-- a record of none makes no push
some_pushes : (cs : List SeriesCall) → flat_map queue_calls cs ≡ map push_asked (filter records_some cs)
some_pushes [] = refl
some_pushes (call.Increment n ∷ cs) = some_pushes cs
some_pushes (call.Absolute n ∷ cs) = some_pushes cs
some_pushes (call.Add v ∷ cs) = some_pushes cs
some_pushes (call.Subtract v ∷ cs) = some_pushes cs
some_pushes (call.Set v ∷ cs) = some_pushes cs
some_pushes (call.Record v moment zero ∷ cs) = some_pushes cs
some_pushes (call.Record v moment (suc more) ∷ cs) = ap (λ l. push_asked (call.Record v moment (suc more)) ∷ l) (some_pushes cs)

-- where all are so, all are kept
pub all_kept : (cs : List SeriesCall) → AllByRecursion (λ c. records_some c ≡ true) cs → filter records_some cs ≡ cs
all_kept [] all = refl
all_kept (c ∷ cs) all = ap (λ b. cond b (c ∷ filter records_some cs) (filter records_some cs)) all.0 ∙ ap (λ l. c ∷ l) (all_kept cs all.1)

-- what waits in a queue after pushes
waiting_more : (es : List (SampleEntry FixedOf)) (xs ys : List (QueueCall FixedOf)) → waiting_behind es (xs ++ ys) ≡ waiting_behind (waiting_behind es xs) ys
waiting_more es [] ys = refl
waiting_more es (Push e ∷ xs) ys = waiting_more (es ++ e ∷ []) xs ys
waiting_more es (Pop e ∷ xs) ys = waiting_more (but_first es) xs ys

waiting_asked : (es : List (SampleEntry FixedOf)) (cs : List SeriesCall) → waiting_behind es (map push_asked cs) ≡ es ++ map entry_asked cs
waiting_asked es [] = sym (append-nil es)
waiting_asked es (c ∷ cs) = waiting_asked (es ++ entry_asked c ∷ []) cs ∙ append_assoc es (entry_asked c ∷ []) (map entry_asked cs)

samples_append : (es fs : List (SampleEntry FixedOf)) → samples_in (es ++ fs) ≡ samples_in es ++ samples_in fs
samples_append [] fs = refl
samples_append (e ∷ es) fs =
    ap (λ l. replicate e.count e.item ++ l) (samples_append es fs) ∙ sym (append_assoc (replicate e.count e.item) (samples_in es) (samples_in fs))

one_sample : (samples : List FixedOf) (c : SeriesCall) → samples ++ samples_in (entry_asked c ∷ []) ≡ samples_step c samples
one_sample samples (call.Increment n) = append-nil samples
one_sample samples (call.Absolute n) = append-nil samples
one_sample samples (call.Add v) = append-nil samples
one_sample samples (call.Subtract v) = append-nil samples
one_sample samples (call.Set v) = append-nil samples
one_sample samples (call.Record v moment count) = ap (λ l. samples ++ l) (append-nil (replicate count v))

samples_steps : (es : List (SampleEntry FixedOf)) (cs : List SeriesCall) → samples_in (es ++ map entry_asked cs) ≡ after_calls samples_step cs (samples_in es)
samples_steps es [] = ap samples_in (append-nil es)
samples_steps es (c ∷ cs) =
    ap samples_in (sym (append_assoc es (entry_asked c ∷ []) (map entry_asked cs)))
    ∙ samples_steps (es ++ entry_asked c ∷ []) cs
    ∙ ap (after_calls samples_step cs) (samples_append es (entry_asked c ∷ []) ∙ one_sample (samples_in es) c)

samples_more : (s t : Queued) (cs : List SeriesCall) → t.taken ≡ s.taken → calls t.root.seen ≡ calls s.root.seen ++ map push_asked cs → samples_seen t ≡ after_calls samples_step cs (samples_seen s)
samples_more s t cs out grew =
    let waiting = waiting_after (calls s.root.seen) in
    ap samples_in
    ((λ i. out i ++ waiting_after (grew i))
    ∙ ap (λ es. s.taken ++ es) (waiting_more [] (calls s.root.seen) (map push_asked cs) ∙ waiting_asked waiting cs)
    ∙ sym (append_assoc s.taken waiting (map entry_asked cs)))
    ∙ samples_steps (s.taken ++ waiting) cs

-- ---- what a series takes

-- from the state before to the state now, all calls of the lists were made, each once, in one order in which each list's calls stand as the list has them
abbrev pub Takes : {S : Type 0} → (SeriesCall → S → S) → (ℕ → List SeriesCall) → S → S → Type 0
Takes step asked before now = (order : List ℕ) × IsOrder order asked × (now ≡ after_calls step (taken order asked) before)

pub counter_takes : (s t : CounterThing) (asked : ℕ → List SeriesCall) → ((l : ℕ) → AllByRecursion IsCounterCall (asked l)) → GrewInOrder (λ l. flat_map counter_calls (asked l)) s.root.seen t.root.seen
    → Takes counter_step asked (counter_seen s) (counter_seen t)
counter_takes s t asked all grew =
    let own = grew_as counter_calls counter_asks IsCounterCall counter_one asked s.root.seen t.root.seen all grew in
    let made = taken own.0 asked in (
      own.0,
      own.1,
      ap (counter_behind counters.counter_start) own.2 ∙ counter_more counters.counter_start (calls s.root.seen) (map counter_asks made) ∙ counter_steps made (counter_seen s) own.3,
    )

pub gauge_takes : (s t : GaugeThing) (asked : ℕ → List SeriesCall) → ((l : ℕ) → AllByRecursion IsGaugeCall (asked l)) → GrewInOrder (λ l. flat_map gauge_calls (asked l)) s.root.seen t.root.seen
    → Takes gauge_step asked (gauge_seen s) (gauge_seen t)
gauge_takes s t asked all grew =
    let own = grew_as gauge_calls gauge_asks IsGaugeCall gauge_one asked s.root.seen t.root.seen all grew in
    let made = taken own.0 asked in (
      own.0,
      own.1,
      ap (gauge_behind gauges.gauge_start) own.2 ∙ gauge_more gauges.gauge_start (calls s.root.seen) (map gauge_asks made) ∙ gauge_steps made (gauge_seen s) own.3,
    )

-- a histogram takes what is recorded; a record of no sample is none
abbrev pub recorded : (ℕ → List SeriesCall) → ℕ → List SeriesCall
recorded asked l = filter records_some (asked l)

pub histogram_takes_records : (s t : Queued) (asked : ℕ → List SeriesCall) → t.taken ≡ s.taken → GrewInOrder (λ l. flat_map queue_calls (asked l)) s.root.seen t.root.seen
    → Takes samples_step (recorded asked) (samples_seen s) (samples_seen t)
histogram_takes_records s t asked out grew =
    let pushes : (λ l. flat_map queue_calls (asked l)) ≡ (λ l. map push_asked (recorded asked l)) = λ i l. some_pushes (asked l) i in
    let own : GrewInOrder (λ l. map push_asked (recorded asked l)) s.root.seen t.root.seen = subst (λ (ls : ℕ → List (QueueCall FixedOf)). GrewInOrder ls s.root.seen t.root.seen) pushes grew in (
      own.0,
      is_order-back push_asked own.0 (recorded asked) own.1,
      samples_more s t (taken own.0 (recorded asked)) out (own.2 ∙ ap (λ cs. calls s.root.seen ++ cs) (taken-mapped push_asked own.0 (recorded asked))),
    )

pub histogram_takes : (s t : Queued) (asked : ℕ → List SeriesCall) → t.taken ≡ s.taken → ((l : ℕ) → AllByRecursion (λ c. records_some c ≡ true) (asked l))
    → GrewInOrder (λ l. flat_map queue_calls (asked l)) s.root.seen t.root.seen → Takes samples_step asked (samples_seen s) (samples_seen t)
histogram_takes s t asked out all grew =
    subst (λ (ls : ℕ → List SeriesCall). Takes samples_step ls (samples_seen s) (samples_seen t)) (λ i l. all_kept (asked l) (all l) i) (histogram_takes_records s t asked out grew)

-- ---- the same where a series' history is seen with its calls as calls of any kind

module _ {C : Type 0} (f : C → SeriesEntry) (once : IsOneToOne f) (makes : SeriesCall → List C) (P : SeriesCall → Type 0) (image : (c : SeriesCall) → P c → map f (makes c) ≡ entries_made c) where
  entries_of : (cs : List SeriesCall) → AllByRecursion P cs → flat_map entries_made cs ≡ map f (flat_map makes cs)
  entries_of [] all = refl
  entries_of (c ∷ cs) all = (λ i. sym (image c all.0) i ++ entries_of cs all.1 i) ∙ sym (map-append f (makes c) (flat_map makes cs))

  grew_behind : (v w : View C) (asked : ℕ → List SeriesCall) → ((l : ℕ) → AllByRecursion P (asked l)) → GrewInOrder (λ l. flat_map entries_made (asked l)) (mapped_view f v).seen (mapped_view f w).seen
      → GrewInOrder (λ l. flat_map makes (asked l)) v.seen w.seen
  grew_behind v w asked all grew =
      grew-back f once (λ l. flat_map makes (asked l)) v.seen w.seen
      (subst (λ (ls : ℕ → List SeriesEntry). GrewInOrder ls (mapped_view f v).seen (mapped_view f w).seen) (λ i l. entries_of (asked l) (all l) i) grew)

pub counter_thing_takes : (s t : LiveSeries CounterThing) (asked : ℕ → List SeriesCall) → ((l : ℕ) → AllByRecursion IsCounterCall (asked l))
    → GrewInOrder (λ l. flat_map entries_made (asked l)) (counter_thing s).root.seen (counter_thing t).root.seen → Takes counter_step asked (counter_seen s.cell) (counter_seen t.cell)
counter_thing_takes s t asked all grew = counter_takes s.cell t.cell asked all (grew_behind entry.Counter one_counter counter_calls IsCounterCall counter_entries s.cell.root t.cell.root asked all grew)

pub gauge_thing_takes : (s t : LiveSeries GaugeThing) (asked : ℕ → List SeriesCall) → ((l : ℕ) → AllByRecursion IsGaugeCall (asked l))
    → GrewInOrder (λ l. flat_map entries_made (asked l)) (gauge_thing s).root.seen (gauge_thing t).root.seen → Takes gauge_step asked (gauge_seen s.cell) (gauge_seen t.cell)
gauge_thing_takes s t asked all grew = gauge_takes s.cell t.cell asked all (grew_behind entry.Gauge one_gauge gauge_calls IsGaugeCall gauge_entries s.cell.root t.cell.root asked all grew)

-- a call that records a sample is a record
recording : (c : SeriesCall) → records_some c ≡ true → IsRecord c
recording (call.Increment n) some_are = absurd cc
recording (call.Absolute n) some_are = absurd cc
recording (call.Add v) some_are = absurd cc
recording (call.Subtract v) some_are = absurd cc
recording (call.Set v) some_are = absurd cc
recording (call.Record v moment count) some_are = tt

pub histogram_thing_takes : (s t : LiveSeries Queued) (asked : ℕ → List SeriesCall) → t.cell.taken ≡ s.cell.taken → ((l : ℕ) → AllByRecursion (λ c. records_some c ≡ true) (asked l))
    → GrewInOrder (λ l. flat_map entries_made (asked l)) (histogram_thing s).root.seen (histogram_thing t).root.seen → Takes samples_step asked (samples_seen s.cell) (samples_seen t.cell)
histogram_thing_takes s t asked out all grew =
    histogram_takes s.cell t.cell asked out all (grew_behind entry.Histogram one_queue queue_calls (λ c. records_some c ≡ true) (λ c some_are. histogram_entries c (recording c some_are)) s.cell.root t.cell.root asked all grew)
