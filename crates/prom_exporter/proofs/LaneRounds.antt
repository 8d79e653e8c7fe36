-- What a round of lanes leaves of counters, gauges and histograms.
use Rattle.std.proofs.Common.{◌≡◌, ℕ, zero, suc, ◌+◌, ◌<◌, true, cond, List, [], ◌∷◌, ◌++◌, length, map, refl, sym, ap, subst, ◌∙◌, ⊎_elim, arith, append_assoc, drop}
use Rattle.std.specs.Prelude.{Option, Some, None, IfSome, filter, flat_map, slice_index}
use Rattle.std.specs.List.{AllByRecursion}
use Rattle.std.proofs.lemmas.Bool.{cases_eq, eq-eqb, ne_eqb}
use Rattle.std.proofs.lemmas.Option.{IfSome_then}
use Rattle.std.proofs.lemmas.List.{map-append, length-map}
use mathlib.Core.Option.{some}
use lib.ListN.{get_elem?}
use Rattle.atomic_table.proofs.Lists.{at_map}
use Rattle.legal_history.proofs.Steps.{one_at}
use Rattle.legal_history.specs.declared.history.View.{View}
use Rattle.legal_history.specs.History.{calls, keep}
use Rattle.legal_history.specs.Order.{taken, GrewInOrder}
use Rattle.legal_history.specs.Mapped.{IsOneToOne, mapped_view}
use Rattle.legal_history.proofs.Mapped.{taken-mapped, is_order-back}
use Rattle.cell_lanes.specs.declared.lane.Line.{Line}
use Rattle.cell_lanes.specs.Lines.{LaneText}
use Rattle.cell_lanes.specs.Things.{root_of}
use Rattle.cell_lanes.specs.Lanes.{AllFit, LineFit, all_calls_on, calls_on, cell_calls, is_on}
use Rattle.cell_lanes.proofs.Jobs.{all_calls}
use Rattle.cell_lanes.proofs.Mapped.{StandsAsImages, grew_own}
use Rattle.metrics_core.specs.declared.calls.SeriesCall.{SeriesCall}
use Rattle.metrics_core.specs.declared.calls.SeriesCall.TheVariants as call
use Rattle.metrics_core.specs.Calls.{Call}
use Rattle.metrics_core.specs.Series.{call_of}
use Rattle.metrics_registry.specs.Live.{LiveSeries}
use Rattle.series_cells.specs.declared.counter.PromCounter.{PromCounter}
use Rattle.series_cells.specs.declared.gauge.PromGauge.{PromGauge}
use Rattle.sample_queue.specs.declared.calls.QueueCall.TheVariants.{Push, Pop}
use Rattle.sample_queue.specs.Queues.{entry_of, popped}
use Rattle.sample_queue.specs.Series.{sample_of_call}
use Rattle.histogram_series.specs.Entries.{TimedCall, TimedEntry, held_after, record_of, records_of}
use Rattle.prom_exporter.specs.declared.lanes.SeriesCell.TheVariants as cells
use Rattle.prom_exporter.specs.declared.lanes.SeriesEntry.{SeriesEntry}
use Rattle.prom_exporter.specs.declared.lanes.SeriesEntry.TheVariants as entry
use Rattle.prom_exporter.specs.Sampled.{Sampled, calls_known}
use Rattle.prom_exporter.specs.Exporter.{Exporter}
use Rattle.prom_exporter.specs.LanePasses.{TakesCall, StandsAsEntries, counter_thing, gauge_thing, histogram_thing, entries_made, pushes_asked, things_of, unseen, unheard_series}
use Rattle.prom_exporter.specs.LaneIndices.{gauge_index, histogram_index}
use Rattle.prom_exporter.specs.LaneRounds.{IsRound, GrewByRecords, LeavesRecords, LeavesValues, records_some}
use Rattle.prom_exporter.proofs.LaneIndices.{counter_has, gauge_has, histogram_has}
use Rattle.prom_exporter.proofs.CallKinds.{histogram_entries}
use Rattle.prom_exporter.proofs.LaneThings.{SeriesThing}

-- ---- calls that are taken

all_then : {K : Type 0} (P Q : K → Type 0) → ((k : K) → P k → Q k) → (ks : List K) → AllByRecursion P ks → AllByRecursion Q ks
all_then P Q to [] all = tt
all_then P Q to (k ∷ ks) all = (to k all.0, all_then P Q to ks all.1)

stands_at : (cs : List ℕ) (s : ℕ) → s < length cs → get_elem? cs s ≡ some (slice_index cs s)
stands_at [] s h = absurd (omega (arith, h))
stands_at (c ∷ cs) zero h = refl
stands_at (c ∷ cs) (suc s) h = stands_at cs s (omega (arith, h))

module _ {K : Type 0} (P : K → Type 0) (j : ℕ) where
  -- what holds of the call of a line that is on cell j
  abbrev HoldsOn : List ℕ → Line K → Type 0
  HoldsOn cs x = IfSome x.slot (λ s. get_elem? cs s ≡ some j → P x.call)

  one_more : (cs : List ℕ) (slot : Option ℕ) (k : K) (ks : List K) → IfSome slot (λ s. s < length cs) → IfSome slot (λ s. get_elem? cs s ≡ some j → P k) → AllByRecursion P ks → AllByRecursion P (keep (is_on j cs slot) k ks)
  one_more cs None k ks fit holds all = all
  one_more cs (Some s) k ks fit holds all = ⊎_elim
      (λ (same : slice_index cs s ≡ j).
      subst (λ b. AllByRecursion P (keep b k ks)) (sym (eq-eqb (slice_index cs s) j same)) (holds (stands_at cs s fit ∙ ap some same), all))
      (λ (ne : slice_index cs s ≡ j → ⊥). subst (λ b. AllByRecursion P (keep b k ks)) (sym (ne_eqb (slice_index cs s) j ne)) all)
      (cases_eq (slice_index cs s) j)

  cell_calls_hold : (cs : List ℕ) (lines : List (Line K)) → LineFit (length cs) lines → ((i : ℕ) (x : Line K) → get_elem? lines i ≡ some x → HoldsOn cs x) → AllByRecursion P (cell_calls j cs lines)
  cell_calls_hold cs [] fit holds = tt
  cell_calls_hold cs (x ∷ xs) fit holds = one_more cs x.slot x.call (cell_calls j cs xs) (fit 0 x refl) (holds 0 x refl)
      (cell_calls_hold cs xs (λ i y e. fit (suc i) y e) (λ i y e. holds (suc i) y e))

  all_calls_hold : (n : ℕ) (lanes : List (LaneText K)) → AllFit n lanes
      → ((l : ℕ) (a : LaneText K) (i : ℕ) (x : Line K) → get_elem? lanes l ≡ some a → get_elem? a.lines i ≡ some x → HoldsOn a.cells x)
      → (l : ℕ) → AllByRecursion P (all_calls_on j lanes l)
  all_calls_hold n [] fit holds l = tt
  all_calls_hold n (a ∷ lanes) fit holds zero = cell_calls_hold a.cells a.lines (fit 0 a refl).lines (λ i x e. holds 0 a i x refl e)
  all_calls_hold n (a ∷ lanes) fit holds (suc l) = all_calls_hold n lanes (λ k b e. fit (suc k) b e) (λ k b i x e f. holds (suc k) b i x e f) l

-- ---- what stands for a call on each kind

value_or : SeriesCall → SeriesEntry → SeriesCall
value_or d (entry.Value c) = c
value_or d (entry.Queue c) = d

queue_or : TimedCall → SeriesEntry → TimedCall
queue_or d (entry.Value c) = d
queue_or d (entry.Queue c) = c

one_value : IsOneToOne entry.Value
unfolding value_or
one_value a b e = ap (value_or a) e

one_queue : IsOneToOne entry.Queue
unfolding queue_or
one_queue a b e = ap (queue_or a) e

abbrev itself : SeriesCall → List SeriesCall
itself c = c ∷ []

all_themselves : (cs : List SeriesCall) → flat_map itself cs ≡ cs
all_themselves [] = refl
all_themselves (c ∷ cs) = ap (λ l. c ∷ l) (all_themselves cs)

counter_image : (cell : Option PromCounter) (c : SeriesCall) → TakesCall (cells.Counter cell) c → entries_made c ≡ map entry.Value (itself c)
counter_image cell (call.Increment n) takes = refl
counter_image cell (call.Absolute n) takes = refl
counter_image cell (call.Add v) takes = absurd takes
counter_image cell (call.Subtract v) takes = absurd takes
counter_image cell (call.Set v) takes = absurd takes
counter_image cell (call.Record v moment count) takes = absurd takes

gauge_image : (cell : Option PromGauge) (c : SeriesCall) → TakesCall (cells.Gauge cell) c → entries_made c ≡ map entry.Value (itself c)
gauge_image cell (call.Increment n) takes = absurd takes
gauge_image cell (call.Absolute n) takes = absurd takes
gauge_image cell (call.Add v) takes = refl
gauge_image cell (call.Subtract v) takes = refl
gauge_image cell (call.Set v) takes = refl
gauge_image cell (call.Record v moment count) takes = absurd takes

-- ---- the entry of a record

abbrev entry_asked : SeriesCall → TimedEntry
entry_asked c = entry_of (sample_of_call c).item (sample_of_call c).count

abbrev push_asked : SeriesCall → TimedCall
push_asked c = Push (entry_asked c)

-- a record of none makes no push
pushes_some : (cs : List SeriesCall) → flat_map pushes_asked cs ≡ map push_asked (filter records_some cs)
pushes_some [] = refl
pushes_some (call.Increment n ∷ cs) = pushes_some cs
pushes_some (call.Absolute n ∷ cs) = pushes_some cs
pushes_some (call.Add v ∷ cs) = pushes_some cs
pushes_some (call.Subtract v ∷ cs) = pushes_some cs
pushes_some (call.Set v ∷ cs) = pushes_some cs
pushes_some (call.Record v moment zero ∷ cs) = pushes_some cs
pushes_some (call.Record v moment (suc more) ∷ cs) = ap (λ l. push_asked (call.Record v moment (suc more)) ∷ l) (pushes_some cs)

-- the entry of a record tells the record
records_tell : (cs : List SeriesCall) → map (λ c. record_of (entry_asked c)) (filter records_some cs) ≡ map call_of (filter records_some cs)
records_tell [] = refl
records_tell (call.Increment n ∷ cs) = records_tell cs
records_tell (call.Absolute n ∷ cs) = records_tell cs
records_tell (call.Add v ∷ cs) = records_tell cs
records_tell (call.Subtract v ∷ cs) = records_tell cs
records_tell (call.Set v ∷ cs) = records_tell cs
records_tell (call.Record v moment zero ∷ cs) = records_tell cs
records_tell (call.Record v moment (suc more) ∷ cs) = ap (λ l. call_of (call.Record v moment (suc more)) ∷ l) (records_tell cs)

-- where all are so, all are kept
all_kept : (cs : List SeriesCall) → AllByRecursion (λ c. records_some c ≡ true) cs → filter records_some cs ≡ cs
all_kept [] all = refl
all_kept (c ∷ cs) all = ap (λ b. cond b (c ∷ filter records_some cs) (filter records_some cs)) all.0 ∙ ap (λ l. c ∷ l) (all_kept cs all.1)

-- what stands in a queue after pushes
held_more : (es : List TimedEntry) (cs ds : List TimedCall) → held_after es (cs ++ ds) ≡ held_after (held_after es cs) ds
held_more es [] ds = refl
held_more es (Push e ∷ cs) ds = held_more (es ++ e ∷ []) cs ds
held_more es (Pop e ∷ cs) ds = held_more (drop 1 es) cs ds

held_asked : (es : List TimedEntry) (cs : List SeriesCall) → held_after es (map push_asked cs) ≡ es ++ map entry_asked cs
held_asked es [] = sym (Rattle.std.proofs.lemmas.List.append-nil es)
held_asked es (c ∷ cs) = held_asked (es ++ entry_asked c ∷ []) cs ∙ append_assoc es (entry_asked c ∷ []) (map entry_asked cs)

recorded_twice : (cs : List SeriesCall) → records_of (map entry_asked cs) ≡ map (λ c. record_of (entry_asked c)) cs
recorded_twice [] = refl
recorded_twice (c ∷ cs) = ap (λ l. record_of (entry_asked c) ∷ l) (recorded_twice cs)

-- where a queue's history grew by pushes for these calls, and the exporter made none itself, the calls that it knows grew by their records
known_more : (s t : Sampled) (cs : List SeriesCall) → t.series.root.mine ≡ s.series.root.mine → calls t.series.root.seen ≡ calls s.series.root.seen ++ map push_asked cs
    → calls_known t ≡ calls_known s ++ map (λ c. record_of (entry_asked c)) cs
known_more s t cs mine grew =
    let out = popped s.series.root.mine in
    let waiting = held_after [] (calls s.series.root.seen) in
    ap records_of
    ((λ i. popped (mine i) ++ held_after [] (grew i))
    ∙ ap (λ es. out ++ es) (held_more [] (calls s.series.root.seen) (map push_asked cs) ∙ held_asked waiting cs)
    ∙ sym (append_assoc out waiting (map entry_asked cs)))
    ∙ map-append record_of (out ++ waiting) (map entry_asked cs)
    ∙ ap (λ l. calls_known s ++ l) (recorded_twice cs)

module _ (lists : ℕ → List SeriesCall) (s t : Sampled) (mine : t.series.root.mine ≡ s.series.root.mine) where
  abbrev some_of : ℕ → List SeriesCall
  some_of l = filter records_some (lists l)

  grew_by_records : GrewInOrder (λ l. flat_map pushes_asked (lists l)) s.series.root.seen t.series.root.seen → GrewByRecords some_of s t
  grew_by_records grew =
      let pushes : (λ l. flat_map pushes_asked (lists l)) ≡ (λ l. map push_asked (some_of l)) = λ i l. pushes_some (lists l) i in
      let own : GrewInOrder (λ l. map push_asked (some_of l)) s.series.root.seen t.series.root.seen =
      subst (λ (ls : ℕ → List TimedCall). GrewInOrder ls s.series.root.seen t.series.root.seen) pushes grew in
      let order = own.0 in
      let recorded : SeriesCall → Call = λ c. record_of (entry_asked c) in
      let told : (λ l. map recorded (some_of l)) ≡ (λ l. map call_of (some_of l)) = λ i l. records_tell (lists l) i in (
        order,
        is_order-back push_asked order some_of own.1,
        known_more s t (taken order some_of) mine (own.2 ∙ ap (λ cs. calls s.series.root.seen ++ cs) (taken-mapped push_asked order some_of))
            ∙ ap (λ cs. calls_known s ++ cs) (sym (taken-mapped recorded order some_of) ∙ ap (taken order) told ∙ taken-mapped call_of order some_of),
      )

  grew_by_all : ((l : ℕ) → AllByRecursion (λ c. records_some c ≡ true) (lists l)) → GrewByRecords some_of s t → GrewByRecords lists s t
  grew_by_all all grew = subst (λ (ls : ℕ → List SeriesCall). GrewByRecords ls s t) (λ i l. all_kept (lists l) (all l) i) grew

-- ---- a round

module _ (lanes : List (LaneText SeriesCall)) (old new : Exporter) (round : IsRound lanes old new) where
  -- what is asked for on a thing is taken by it
  taken_on : (j : ℕ) (t : SeriesThing) → get_elem? (things_of old) j ≡ some t → (l : ℕ) → AllByRecursion (TakesCall t.fixed) (all_calls_on j lanes l)
  taken_on j t here = all_calls_hold (TakesCall t.fixed) j (length (things_of old)) lanes round.fit
      (λ l a i x at_lane at_line. IfSome_then x.slot (round.taken l a i x at_lane at_line) (λ s takes on. takes j t on here))

  -- a thing whose calls stand as images of others grew by these
  grew_at : {C : Type 0} (f : C → SeriesEntry) (once : IsOneToOne f) (makes : SeriesCall → List C) (j : ℕ) (s t : SeriesThing) (v w : View C)
      → root_of s ≡ mapped_view f v → root_of t ≡ mapped_view f w → get_elem? (things_of old) j ≡ some s → get_elem? (things_of new) j ≡ some t
      → ((c : SeriesCall) → TakesCall s.fixed c → entries_made c ≡ map f (makes c))
      → GrewInOrder (λ l. flat_map makes (all_calls_on j lanes l)) v.seen w.seen
  grew_at {C} f once makes j s t v w from to here there image =
      let same : (l : ℕ) → calls_on j lanes round.done l ≡ all_calls_on j lanes l = λ l. all_calls j lanes round.done l round.all_done in
      let images : (l : ℕ) → AllByRecursion (StandsAsImages f StandsAsEntries makes) (calls_on j lanes round.done l) =
      λ l. subst (AllByRecursion (StandsAsImages f StandsAsEntries makes)) (sym (same l))
      (all_then (TakesCall s.fixed) (StandsAsImages f StandsAsEntries makes) (λ c takes made stands. stands ∙ image c takes) (all_calls_on j lanes l) (taken_on j s here l)) in
      subst (λ (ls : ℕ → List C). GrewInOrder ls v.seen w.seen) (λ i l. flat_map makes (same l i))
      (grew_own f StandsAsEntries makes once root_of lanes round.done j s t v w from to images (round.grew j s t here there))

  as_many_counters : length new.series.counters ≡ length old.series.counters
  as_many_counters = sym (length-map new.series.counters unseen) ∙ ap (λ (x : Exporter). length x.series.counters) round.frame ∙ length-map old.series.counters unseen

  as_many_gauges : length new.series.gauges ≡ length old.series.gauges
  as_many_gauges = sym (length-map new.series.gauges unseen) ∙ ap (λ (x : Exporter). length x.series.gauges) round.frame ∙ length-map old.series.gauges unseen

  pub leaves_values : LeavesValues lanes old new
  leaves_values = (
    (λ place s t at at'.
        subst (λ (ls : ℕ → List SeriesCall). GrewInOrder ls s.cell.root.seen t.cell.root.seen) (λ i l. all_themselves (all_calls_on place lanes l) i)
        (grew_at entry.Value one_value itself place (counter_thing s) (counter_thing t) s.cell.root t.cell.root refl refl (counter_has old place s at).0 (counter_has new place t at').0 (counter_image s.cell.cell))),
    (λ place s t at at'.
        let j = gauge_index old place in
        let there = subst (λ n. get_elem? (things_of new) (n + place) ≡ some (gauge_thing t)) as_many_counters (gauge_has new place t at').0 in
        subst (λ (ls : ℕ → List SeriesCall). GrewInOrder ls s.cell.root.seen t.cell.root.seen) (λ i l. all_themselves (all_calls_on j lanes l) i)
        (grew_at entry.Value one_value itself j (gauge_thing s) (gauge_thing t) s.cell.root t.cell.root refl refl (gauge_has old place s at).0 there (gauge_image s.cell.cell))),
  )

  pub leaves_records : LeavesRecords lanes old new
  leaves_records place s t at at' =
      let j = histogram_index old place in
      let there = subst (λ n. get_elem? (things_of new) n ≡ some (histogram_thing t)) (λ i. as_many_counters i + (as_many_gauges i + place)) (histogram_has new place t at').0 in
      let left = subst (λ l. get_elem? l place ≡ some (unheard_series t)) (ap (λ (x : Exporter). x.series.histograms) round.frame) (at_map unheard_series new.series.histograms place t at') in
      let same : unheard_series t ≡ unheard_series s = one_at (map unheard_series old.series.histograms) place (unheard_series t) (unheard_series s) left (at_map unheard_series old.series.histograms place s at) in
      let mine = ap (λ (x : LiveSeries Sampled). x.cell.series.root.mine) same in
      let grew = grew_at entry.Queue one_queue pushes_asked j (histogram_thing s) (histogram_thing t) s.cell.series.root t.cell.series.root refl refl (histogram_has old place s at).0 there
      (λ c takes. sym (histogram_entries s.cell.series.cell c takes)) in
      let records = grew_by_records (all_calls_on j lanes) s.cell t.cell mine grew in
      (records, λ all. grew_by_all (all_calls_on j lanes) s.cell t.cell mine all records)
