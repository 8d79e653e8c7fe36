-- What a flush finds of cells of which no pass is out: all that the exporter had seen.
use Rattle.std.proofs.Common.{◌≡◌, List, [], ◌∷◌, ◌++◌, length, map, refl, sym, ap, subst, ◌∙◌, append_assoc, arith, ⊎_elim}
use Rattle.std.specs.Prelude.{All}
use Rattle.std.proofs.lemmas.List.Elements.{All-head, All-tail}
use Rattle.std.proofs.lemmas.List.{append-nil}
use Rattle.legal_history.specs.declared.history.View.{View}
use Rattle.legal_history.specs.History.{calls, said}
use Rattle.legal_history.specs.Object.{Runs}
use Rattle.legal_history.proofs.Lists.{calls-append}
use Rattle.flushed_cells.specs.declared.counter_state.CounterState.{CounterState}
use Rattle.flushed_cells.specs.declared.counter_calls.CounterCall.{CounterCall}
use Rattle.flushed_cells.specs.declared.counter_calls.CounterCall.TheVariants as counter
use Rattle.flushed_cells.specs.declared.gauge_state.GaugeState.{GaugeState}
use Rattle.flushed_cells.specs.declared.gauge_calls.GaugeCall.{GaugeCall}
use Rattle.flushed_cells.specs.declared.gauge_calls.GaugeCall.TheVariants as gauge
use Rattle.flushed_cells.specs.Counters.{CounterStep, counter_start, flushed}
use Rattle.flushed_cells.specs.Counters as counters
use Rattle.flushed_cells.specs.Gauges.{GaugeStep, gauge_start, gauge_of}
use Rattle.flushed_cells.specs.Gauges as gauges
use Rattle.sample_queue.specs.declared.calls.SampleEntry.{SampleEntry}
use Rattle.sample_queue.specs.declared.calls.QueueCall.{QueueCall}
use Rattle.sample_queue.specs.declared.calls.QueueCall.TheVariants.{Push, Pop}
use Rattle.sample_queue.specs.Queues.{QueueStep, FoundEmpty}
use Rattle.metrics_core.specs.declared.numbers.Fixed.{Fixed as FixedOf}
use Rattle.metrics_registry.specs.Live.{LiveSeries}
use Rattle.dsd_exporter.specs.Samples.{counter_asked, counter_behind, counter_after, gauge_asked, gauge_behind, gauge_after, but_first, waiting_behind, waiting_after, samples_in}
use Rattle.dsd_exporter.specs.State.{with_cell_of}
use Rattle.dsd_exporter.specs.Exporter.{CounterThing, GaugeThing, Queued, IsHome, counter_seen, gauge_seen, samples_seen}
use Rattle.dsd_exporter.specs.Flushing.{TakesCounter, CallsCounter, PassesCounter, TakesGauge, CallsGauge, PassesGauge, TakesOne, TakesOut, Drains, TakesSamples, AreTaken, with_found}

-- ---- counters

counter-runs : (s t : CounterState) (cs : List CounterCall) → Runs CounterStep s cs t → counter_behind s cs ≡ t
counter-runs s t [] runs = runs
counter-runs s t (counter.Increment n ∷ cs) runs = ap (λ x. counter_behind x cs) (sym runs.1) ∙ counter-runs runs.0 t cs runs.2
counter-runs s t (counter.Absolute n ∷ cs) runs = ap (λ x. counter_behind x cs) (sym runs.1) ∙ counter-runs runs.0 t cs runs.2
counter-runs s t (counter.Flush d u ∷ cs) runs = ap (λ x. counter_behind x cs) (sym runs.1.2) ∙ counter-runs runs.0 t cs runs.2

counter-last : (s : CounterState) (cs : List CounterCall) (c : CounterCall) → counter_behind s (cs ++ c ∷ []) ≡ counters.changed (counter_asked c) (counter_behind s cs)
counter-last s [] c = refl
counter-last s (x ∷ cs) c = counter-last (counters.changed (counter_asked x) s) cs c

-- a counter without delta and updates is left as it is
counter-kept : (x : CounterState) → x.delta ≡ 0 → x.updates ≡ 0 → x ≡ flushed x
counter-kept x delta updates = λ j. record { mode = x.mode; total = x.total; delta = delta j; updates = updates j }

pub counter-left : (s t : CounterThing) (x : CounterState) → TakesCounter s x t → counter_seen t ≡ flushed x
counter-left s t x takes = ⊎_elim
    (λ (called : CallsCounter s x t).
    let log = called.0 in
    ap counter_seen called.3 ∙ ap counter_after (calls-append log (said s.root.number (counter.Flush x.delta x.updates ∷ []))) ∙ counter-last counter_start (calls log) (counter.Flush x.delta x.updates)
    ∙ ap flushed (counter-runs counter_start x (calls log) called.2))
    (λ (passed : PassesCounter s x t).
    ap counter_seen passed.2 ∙ counter-runs counter_start x (calls s.root.seen) passed.1.holds ∙ counter-kept x passed.1.delta passed.1.updates)
    takes

pub counter-home : (s t : CounterThing) (x : CounterState) → IsHome s.root → TakesCounter s x t → x ≡ counter_seen s
counter-home s t x home takes = ⊎_elim
    (λ (called : CallsCounter s x t). sym (counter-runs counter_start x (calls called.0) called.2) ∙ ap (λ log. counter_after (calls log)) (called.1.whole home.0 home.1).0)
    (λ (passed : PassesCounter s x t). sym (counter-runs counter_start x (calls s.root.seen) passed.1.holds))
    takes

-- ---- gauges

gauge-runs : (s t : GaugeState) (cs : List GaugeCall) → Runs GaugeStep s cs t → gauge_behind s cs ≡ t
gauge-runs s t [] runs = runs
gauge-runs s t (gauge.Update n ∷ cs) runs = ap (λ x. gauge_behind x cs) (sym runs.1) ∙ gauge-runs runs.0 t cs runs.2
gauge-runs s t (gauge.Flush v u ∷ cs) runs = ap (λ x. gauge_behind x cs) (sym runs.1.2) ∙ gauge-runs runs.0 t cs runs.2

gauge-last : (s : GaugeState) (cs : List GaugeCall) (c : GaugeCall) → gauge_behind s (cs ++ c ∷ []) ≡ gauges.changed (gauge_asked c) (gauge_behind s cs)
gauge-last s [] c = refl
gauge-last s (x ∷ cs) c = gauge-last (gauges.changed (gauge_asked x) s) cs c

abbrev pub gauge_kept : GaugeState → GaugeState
gauge_kept x = gauge_of x.value 0

-- a gauge without updates is left as it is
gauge-stays : (x : GaugeState) → x.updates ≡ 0 → x ≡ gauge_kept x
gauge-stays x updates = λ j. record { value = x.value; updates = updates j }

pub gauge-left : (s t : GaugeThing) (x : GaugeState) → TakesGauge s x t → gauge_seen t ≡ gauge_kept x
gauge-left s t x takes = ⊎_elim
    (λ (called : CallsGauge s x t).
    let log = called.0 in
    ap gauge_seen called.3 ∙ ap gauge_after (calls-append log (said s.root.number (gauge.Flush x.value x.updates ∷ []))) ∙ gauge-last gauge_start (calls log) (gauge.Flush x.value x.updates)
    ∙ ap gauge_kept (gauge-runs gauge_start x (calls log) called.2))
    (λ (passed : PassesGauge s x t).
    ap gauge_seen passed.2 ∙ gauge-runs gauge_start x (calls s.root.seen) passed.1.holds ∙ gauge-stays x passed.1.updates)
    takes

pub gauge-home : (s t : GaugeThing) (x : GaugeState) → IsHome s.root → TakesGauge s x t → x ≡ gauge_seen s
gauge-home s t x home takes = ⊎_elim
    (λ (called : CallsGauge s x t). sym (gauge-runs gauge_start x (calls called.0) called.2) ∙ ap (λ log. gauge_after (calls log)) (called.1.whole home.0 home.1).0)
    (λ (passed : PassesGauge s x t). sym (gauge-runs gauge_start x (calls s.root.seen) passed.1.holds))
    takes

-- ---- histograms

abbrev Entries : Type 0
Entries = List (SampleEntry FixedOf)

queue-runs : (es fs : Entries) (cs : List (QueueCall FixedOf)) → Runs QueueStep es cs fs → waiting_behind es cs ≡ fs
queue-runs es fs [] runs = runs
queue-runs es fs (Push e ∷ cs) runs = ap (λ x. waiting_behind x cs) (sym runs.1) ∙ queue-runs runs.0 fs cs runs.2
queue-runs es fs (Pop e ∷ cs) runs = ap (λ x. waiting_behind (but_first x) cs) runs.1 ∙ queue-runs runs.0 fs cs runs.2

queue-last : (es : Entries) (cs : List (QueueCall FixedOf)) (e : SampleEntry FixedOf) → waiting_behind es (cs ++ Pop e ∷ []) ≡ but_first (waiting_behind es cs)
queue-last es [] e = refl
queue-last es (Push x ∷ cs) e = queue-last (es ++ x ∷ []) cs e
queue-last es (Pop x ∷ cs) e = queue-last (but_first es) cs e

abbrev waits : View (QueueCall FixedOf) → Entries
waits v = waiting_after (calls v.seen)

one-home : (v w : View (QueueCall FixedOf)) (e : SampleEntry FixedOf) → IsHome v → TakesOne v e w → IsHome w × (waits v ≡ e ∷ waits w)
one-home v w e home m =
    let before : waiting_after (calls m.0) ≡ e ∷ m.2 = queue-runs [] m.1 (calls m.0) m.4 ∙ m.5 in
    let after : waits w ≡ m.2 =
    ap waits m.6 ∙ ap waiting_after (calls-append m.0 (said v.number (Pop e ∷ []))) ∙ queue-last [] (calls m.0) e ∙ ap but_first before in
    let log = (m.3.whole home.0 home.1).0 in (
      (ap (λ (u : View (QueueCall FixedOf)). u.number) m.6 ∙ home.0, ap (λ (u : View (QueueCall FixedOf)). u.out) m.6 ∙ home.1),
      ap (λ l. waiting_after (calls l)) (sym log) ∙ before ∙ ap (λ l. e ∷ l) (sym after),
    )

out-home : (v w : View (QueueCall FixedOf)) (out : Entries) → IsHome v → TakesOut v out w → IsHome w × (waits v ≡ out ++ waits w)
out-home v w [] home taken = (subst IsHome taken home, ap waits taken)
out-home v w (e ∷ out) home taken =
    let one = one-home v taken.0 e home taken.1 in
    let rest = out-home taken.0 w out one.0 taken.2 in
    (rest.0, one.1 ∙ ap (λ l. e ∷ l) rest.1)

-- draining loses no sample
pub drains-home : (s t : Queued) → IsHome s.root → Drains s t → IsHome t.root × (s.taken ++ waits s.root ≡ t.taken ++ waits t.root)
drains-home s t home drains =
    let out = out-home s.root t.root drains.out home drains.root in (
      out.0,
      ap (λ l. s.taken ++ l) out.1 ∙ sym (append_assoc s.taken drains.out (waits t.root)) ∙ ap (λ l. l ++ waits t.root) (sym drains.taken),
    )

empty-home : (v : View (QueueCall FixedOf)) → IsHome v → FoundEmpty v → waits v ≡ []
empty-home v home told = ap (λ log. waiting_after (calls log)) (sym (told.1.whole home.0 home.1).0) ∙ queue-runs [] [] (calls told.0) told.2

pub samples-home : (s t : Queued) (x : List FixedOf) → IsHome s.root → TakesSamples s x t → (x ≡ samples_seen s) × (samples_seen t ≡ [])
samples-home s t x home takes =
    let d = takes.drained in
    let kept = drains-home s d home takes.drains in
    let none = empty-home d.root kept.0 takes.empty in (
      takes.samples ∙ sym (ap samples_in (kept.1 ∙ ap (λ l. d.taken ++ l) none ∙ append-nil d.taken)),
      ap samples_seen takes.taken ∙ ap samples_in none,
    )

-- ---- the series of a kind

module _ {X Y : Type 0} (Rest : List (LiveSeries X) → List (LiveSeries X) → Type 0) (Takes : X → Y → X → Type 0) (root_home : X → Type 0) (seen : X → Y) (left : Y → Y)
    (none : (new : List (LiveSeries X)) → Rest [] new → new ≡ []) (home : (s t : X) (y : Y) → root_home s → Takes s y t → (y ≡ seen s) × (seen t ≡ left y)) where
  -- where all series were taken, what was found is all that had been seen, and what is seen then is what is left of it
  pub all-home : (old new : List (LiveSeries X)) (found : List Y) → AreTaken Rest Takes old found new → length found ≡ length old → All (λ (s : LiveSeries X). root_home s.cell) old
      → (with_found old found ≡ map (with_cell_of seen) old) × (map (with_cell_of seen) new ≡ map (with_cell_of left) (map (with_cell_of seen) old))
  all-home [] new [] taken whole homes = (refl, ap (map (with_cell_of seen)) (none new taken))
  all-home [] new (y ∷ found) taken whole homes = absurd taken
  all-home (s ∷ old) new [] taken whole homes = absurd (omega (arith, whole))
  all-home (s ∷ old) [] (y ∷ found) taken whole homes = absurd taken
  all-home (s ∷ old) (t ∷ new) (y ∷ found) taken whole homes =
      let one = home s.cell taken.0.0 y (All-head (λ (s : LiveSeries X). root_home s.cell) s old homes) taken.0.1 in
      let rest = all-home old new found taken.1 (omega (arith, whole)) (All-tail (λ (s : LiveSeries X). root_home s.cell) s old homes) in (
        (λ j. with_cell_of (λ (x : X). one.0 j) s ∷ rest.0 j),
        ap (λ (u : LiveSeries X). with_cell_of seen u ∷ map (with_cell_of seen) new) taken.0.2
            ∙ (λ j. record { id = s.id; key = s.key; cell = (one.1 ∙ ap left one.0) j } ∷ rest.1 j),
      )
