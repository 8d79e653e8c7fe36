-- What a flush takes of each cell, and what it sends and notes of it.
use Rattle.std.specs.Prelude.{◌≡◌, ◌⊎◌, ℕ, zero, suc, ◌+◌, ◌<◌, ◌≤◌, codes, Bool, nat_lt, ℤ, List, [], ◌∷◌, ◌++◌, length, option_map, slice_get, Some, Option, if◌then◌else◌}
use Rattle.std.specs.List.{FoldsTo}
use Rattle.legal_history.specs.declared.history.Entry.{Entry}
use Rattle.legal_history.specs.declared.history.View.{View}
use Rattle.legal_history.specs.History.{calls, after, Sees}
use Rattle.legal_history.specs.Object.{Runs}
use Rattle.metrics_core.specs.declared.kinds.MetricKind.{MetricKind}
use Rattle.metrics_core.specs.declared.kinds.MetricKind.TheVariants as kinds
use Rattle.metrics_core.specs.declared.numbers.Fixed.{Fixed as FixedOf}
use Rattle.metrics_core.specs.Keys.{KeyText, LabelText}
use Rattle.metrics_core.specs.Words.{Draws, DrawsOne}
use Rattle.metrics_registry.specs.Live.{LiveSeries}
use Rattle.metrics_registry.specs.Places.{with_cell_at}
use Rattle.metrics_registry.specs.Reservoirs.{ReservoirText, reservoir, sample_rate, draws, with_kept, with_sampled}
use Rattle.flushed_cells.specs.declared.counter_state.CounterState.{CounterState}
use Rattle.flushed_cells.specs.declared.counter_calls.CounterCall.{CounterCall}
use Rattle.flushed_cells.specs.declared.counter_calls.CounterCall.TheVariants as counter
use Rattle.flushed_cells.specs.declared.gauge_state.GaugeState.{GaugeState}
use Rattle.flushed_cells.specs.declared.gauge_calls.GaugeCall.{GaugeCall}
use Rattle.flushed_cells.specs.declared.gauge_calls.GaugeCall.TheVariants as gauge
use Rattle.flushed_cells.specs.Counters.{CounterStep, counter_start}
use Rattle.flushed_cells.specs.Gauges.{GaugeStep, gauge_start}
use Rattle.sample_queue.specs.declared.calls.SampleEntry.{SampleEntry}
use Rattle.sample_queue.specs.declared.calls.QueueCall.{QueueCall}
use Rattle.sample_queue.specs.declared.calls.QueueCall.TheVariants.{Pop}
use Rattle.sample_queue.specs.Queues.{Called, FoundEmpty, HasTakenAll}
use Rattle.dsd_writer.specs.Lines.{ItemText, lines_of, spelled_values}
use Rattle.dsd_writer.specs.Results.{Written, written_of}
use Rattle.dsd_writer.specs.Writers.{WriterText, SameSettings, timed, sampled, item_of}
use Rattle.dsd_exporter.specs.Samples.{samples_in}
use Rattle.dsd_exporter.specs.State.{DogStatsDSettings, FlushItem, flush_items, flush_step, with_cell_of, is_quiet, line_letter, timestamp, item_for, idle_at, marks_after, counter_items, gauge_item, histogram_items, words_for, items_of_counters, items_of_gauges, items_of_histograms, lines_of_items}
use Rattle.dsd_exporter.specs.Updates.{UpdateText, with_contexts, with_points, with_failed, with_left_out, with_items}
use Rattle.dsd_exporter.specs.Exporter.{Exporter, state_seen, CounterThing, GaugeThing, Queued}
use Rattle.dsd_exporter.specs.Waiting.{CounterRests, GaugeRests}

-- ---- what is taken of a cell

-- A flush of a counter is one call of its history, behind a beginning that has all that the exporter had seen: there the counter was so.
abbrev pub CallsCounter : CounterThing → CounterState → CounterThing → Type 0
CallsCounter s x t =
    (log : List (Entry CounterCall)) × Sees s.root log × Runs CounterStep counter_start (calls log) x
    × (t ≡ record s { root = after s.root log (counter.Flush x.delta x.updates ∷ []) })

-- Where no pass is out and nothing waits it may be no call: the history stays as the exporter has seen it.
abbrev pub PassesCounter : CounterThing → CounterState → CounterThing → Type 0
PassesCounter s x t = (s.root.out ≡ 0) × CounterRests s.root x × (t ≡ s)

abbrev pub TakesCounter : CounterThing → CounterState → CounterThing → Type 0
TakesCounter s x t = CallsCounter s x t ⊎ PassesCounter s x t

-- the same of a gauge
abbrev pub CallsGauge : GaugeThing → GaugeState → GaugeThing → Type 0
CallsGauge s x t =
    (log : List (Entry GaugeCall)) × Sees s.root log × Runs GaugeStep gauge_start (calls log) x
    × (t ≡ record s { root = after s.root log (gauge.Flush x.value x.updates ∷ []) })

abbrev pub PassesGauge : GaugeThing → GaugeState → GaugeThing → Type 0
PassesGauge s x t = (s.root.out ≡ 0) × GaugeRests s.root x × (t ≡ s)

abbrev pub TakesGauge : GaugeThing → GaugeState → GaugeThing → Type 0
TakesGauge s x t = CallsGauge s x t ⊎ PassesGauge s x t

-- a pass took an entry out of a queue; and entries, one after the other
abbrev pub TakesOne : View (QueueCall FixedOf) → SampleEntry FixedOf → View (QueueCall FixedOf) → Type 0
TakesOne v e w = Called (Pop e) v w

abbrev pub TakesOut : View (QueueCall FixedOf) → List (SampleEntry FixedOf) → View (QueueCall FixedOf) → Type 0
TakesOut v es w = FoldsTo TakesOne v es w

-- entries went from the queue to those that were taken out, and nothing else changed
pub record Drains (s t : Queued) : Type 0 where
  pub cell : t.cell ≡ s.cell
  pub out : List (SampleEntry FixedOf)
  pub root : TakesOut s.root out t.root
  pub taken : t.taken ≡ s.taken ++ out

-- A flush of a histogram drains its queue until that was empty at a moment, and takes all samples: those of all entries that the exporter has seen pushed.
pub record TakesSamples (s : Queued) (x : List FixedOf) (t : Queued) : Type 0 where
  pub drained : Queued
  pub drains : Drains s drained
  pub empty : FoundEmpty drained.root
  pub all : HasTakenAll drained.root
  pub samples : x ≡ samples_in drained.taken
  pub taken : t ≡ record drained { taken = [] }

-- ---- what is taken of the series of a kind, in order

module _ {X : Type 0} where
  -- the cell changes so, and nothing else
  abbrev pub OfSeries : (X → X → Type 0) → LiveSeries X → LiveSeries X → Type 0
  OfSeries Changes s t = (cell : X) × Changes s.cell cell × (t ≡ record s { cell = cell })

  -- the series at a place changes so, and no other does
  abbrev pub ChangesAt : ℕ → (X → X → Type 0) → List (LiveSeries X) → List (LiveSeries X) → Type 0
  ChangesAt place Changes old new =
      (c d : X) × (option_map (λ s. s.cell) (slice_get old place) ≡ Some c) × Changes c d × (new ≡ with_cell_at old place d)

  -- the series at a place has this key
  abbrev pub HasKeyAt : ℕ → KeyText → List (LiveSeries X) → Type 0
  HasKeyAt place key live = option_map (λ s. s.key) (slice_get live place) ≡ Some key

module _ {X Y : Type 0} where
  -- Of the first series this was taken, in order; the others are as `Rest` tells.
  abbrev pub AreTaken : (List (LiveSeries X) → List (LiveSeries X) → Type 0) → (X → Y → X → Type 0) → List (LiveSeries X) → List Y → List (LiveSeries X) → Type 0
  AreTaken Rest Takes old [] new = Rest old new
  AreTaken Rest Takes [] (y ∷ found) new = ⊥
  AreTaken Rest Takes (s ∷ old) (y ∷ found) [] = ⊥
  AreTaken Rest Takes (s ∷ old) (y ∷ found) (t ∷ new) = OfSeries (λ c d. Takes c y d) s t × AreTaken Rest Takes old found new

  -- the first series, with what was found in place of their cells
  abbrev pub with_found : List (LiveSeries X) → List Y → List (LiveSeries Y)
  with_found live [] = []
  with_found [] (y ∷ found) = []
  with_found (s ∷ live) (y ∷ found) = with_cell_of (λ _. y) s ∷ with_found live found

-- nothing else changed
abbrev pub Unchanged : {X : Type 0} → List (LiveSeries X) → List (LiveSeries X) → Type 0
Unchanged old new = new ≡ old

-- nothing else changed, but that of the next histogram entries may have been drained
abbrev pub MaybeDrained : List (LiveSeries Queued) → List (LiveSeries Queued) → Type 0
MaybeDrained [] new = new ≡ []
MaybeDrained (s ∷ old) [] = ⊥
MaybeDrained (s ∷ old) (t ∷ new) = OfSeries Drains s t × (new ≡ old)

-- ---- marks

-- the marks with one at a place; a place behind the end is the next one
abbrev pub with_mark : ℕ → Bool → List Bool → List Bool
with_mark place mark [] = mark ∷ []
with_mark zero mark (m ∷ marks) = mark ∷ marks
with_mark (suc place) mark (m ∷ marks) = m ∷ with_mark place mark marks

-- ---- what is sent

-- the lines of items were written, and counted
pub record Sends (items : List FlushItem) (old new : WriterText) (before now : UpdateText) : Type 0 where
  pub settings : SameSettings old new
  pub lines : new.lines ≡ old.lines ++ lines_of_items old.limit items
  pub counted : now ≡ with_items old.limit before items

-- a series was sent that tells of so many points, and so many were left out
abbrev pub with_series : MetricKind → ℕ → ℕ → UpdateText → UpdateText
with_series kind points left_out u =
    with_left_out left_out (if nat_lt 0 left_out then with_failed (with_points kind points (with_contexts kind 1 u)) else with_points kind points (with_contexts kind 1 u))

-- one number was written
pub record WritesOne (item : ItemText) (value : List ℕ) (written : Written) (old new : WriterText) : Type 0 where
  pub settings : SameSettings old new
  pub lines : new.lines ≡ old.lines ++ lines_of old.limit item (value ∷ [])
  pub written_is : written ≡ written_of old.limit item (value ∷ [])

-- what the line of a counter says beside its value, and that of a gauge
abbrev pub counter_line : DogStatsDSettings → List LabelText → ℕ → KeyText → ItemText
counter_line settings tags moment key = timed (timestamp settings tags moment) (item_for settings tags moment (codes "c") key)

abbrev pub gauge_line : DogStatsDSettings → List LabelText → ℕ → KeyText → ItemText
gauge_line settings tags moment key = timed (timestamp settings tags moment) (item_for settings tags moment (codes "g") key)

-- a rate in billionths
abbrev pub rate_of : Option FixedOf → Option ℤ
rate_of rate = option_map (λ r. r.0) rate

-- what is sent of a histogram
abbrev pub samples_item : Bool → Option (List ℕ) → KeyText → List LabelText → Option FixedOf → List FixedOf → ℕ → FlushItem
samples_item distributions prefix key tags rate values updates = record {
  kind = kinds.Histogram;
  item = sampled rate (item_of (line_letter distributions) prefix key tags);
  values = spelled_values values;
  updates = updates;
}

-- ---- one series

-- at a moment, with the tags of the writer
module _ (settings : DogStatsDSettings) (moment : ℕ) where
  -- the counter at a place was taken, sent unless it is idle, and marked
  pub record FlushesCounter (place : ℕ) (old new : List (LiveSeries CounterThing)) (marks noted : List Bool) (w v : WriterText) (u n : UpdateText) : Type 0 where
    pub found : CounterState
    pub key : KeyText
    pub at : HasKeyAt place key old
    pub takes : ChangesAt place (λ c d. TakesCounter c found d) old new
    pub marked : noted ≡ with_mark place (is_quiet found) marks
    pub sends : Sends (counter_items settings w.global_tags moment (idle_at marks place) key found) w v u n

  -- the gauge at a place was taken and sent
  pub record FlushesGauge (place : ℕ) (old new : List (LiveSeries GaugeThing)) (w v : WriterText) (u n : UpdateText) : Type 0 where
    pub found : GaugeState
    pub key : KeyText
    pub at : HasKeyAt place key old
    pub takes : ChangesAt place (λ c d. TakesGauge c found d) old new
    pub sends : Sends (gauge_item settings w.global_tags moment key found ∷ []) w v u n

  -- ---- the series of a kind

  -- the first counters were taken, sent unless they are idle, and marked; the others are as they were
  pub record CountersFlushed (found : List CounterState) (old new : Exporter) (marks noted : List Bool) (w v : WriterText) (u n : UpdateText) : Type 0 where
    pub taken : AreTaken Unchanged TakesCounter old.series.counters found new.series.counters
    pub others : new ≡ record old { series = record old.series { counters = new.series.counters } }
    pub marked : noted ≡ marks_after found marks
    pub sends : Sends (items_of_counters settings w.global_tags moment marks (with_found old.series.counters found)) w v u n

  -- the first gauges were taken and sent
  pub record GaugesFlushed (found : List GaugeState) (old new : Exporter) (w v : WriterText) (u n : UpdateText) : Type 0 where
    pub taken : AreTaken Unchanged TakesGauge old.series.gauges found new.series.gauges
    pub others : new ≡ record old { series = record old.series { gauges = new.series.gauges } }
    pub sends : Sends (items_of_gauges settings w.global_tags moment (with_found old.series.gauges found)) w v u n

-- ---- histograms

-- Words were drawn, so many as are drawn for these samples.
pub record DrawsFor (settings : DogStatsDSettings) (samples : List FixedOf) (words : List ℕ) (to_come left : Option (ℕ → ℕ)) : Type 0 where
  pub drawn : Draws to_come words left
  pub many : length words ≡ words_for settings [] 0 samples

-- samples were sent, if there are any, with the first of some words, whatever comes behind these
abbrev pub SendsSamples : DogStatsDSettings → KeyText → List FixedOf → List ℕ → WriterText → WriterText → UpdateText → UpdateText → Type 0
SendsSamples settings key samples words w v u n =
    (moment : ℕ) (more : List ℕ) → Sends (histogram_items settings w.global_tags moment key (words ++ more) samples) w v u n

-- The samples of the histogram at a place were taken, and sent if there are any.
pub record FlushesHistogram (settings : DogStatsDSettings) (place : ℕ) (old new : List (LiveSeries Queued)) (w v : WriterText) (u n : UpdateText) (to_come left : Option (ℕ → ℕ)) : Type 0 where
  pub found : List FixedOf
  pub words : List ℕ
  pub key : KeyText
  pub at : HasKeyAt place key old
  pub takes : ChangesAt place (λ c d. TakesSamples c found d) old new
  pub draws : DrawsFor settings found words to_come left
  pub sends : SendsSamples settings key found words w v u n

-- how many words are drawn for histograms
abbrev pub words_for_all : DogStatsDSettings → List (LiveSeries (List FixedOf)) → ℕ
words_for_all settings [] = 0
words_for_all settings (s ∷ live) = words_for settings [] 0 s.cell + words_for_all settings live

-- The samples of the first histograms were taken, and sent where there are any; of the others `Rest` tells.
pub record HistogramsFlushed (settings : DogStatsDSettings) (Rest : List (LiveSeries Queued) → List (LiveSeries Queued) → Type 0) (found : List (List FixedOf)) (words : List ℕ) (old new : Exporter) (w v : WriterText) (u n : UpdateText) : Type 0 where
  pub taken : AreTaken Rest TakesSamples old.series.histograms found new.series.histograms
  pub others : new ≡ record old { series = record old.series { histograms = new.series.histograms } }
  pub many : length words ≡ words_for_all settings (with_found old.series.histograms found)
  pub sends : (moment : ℕ) (more : List ℕ) → Sends (items_of_histograms settings w.global_tags moment (words ++ more) (with_found old.series.histograms found)) w v u n

-- The samples that were taken out of the histogram at a place were sent, if there are any.
pub record SendsTaken (settings : DogStatsDSettings) (place : ℕ) (live : List (LiveSeries Queued)) (w v : WriterText) (u n : UpdateText) (to_come left : Option (ℕ → ℕ)) : Type 0 where
  pub cell : Queued
  pub here : option_map (λ s. s.cell) (slice_get live place) ≡ Some cell
  pub key : KeyText
  pub at : HasKeyAt place key live
  pub words : List ℕ
  pub draws : DrawsFor settings (samples_in cell.taken) words to_come left
  pub sends : SendsSamples settings key (samples_in cell.taken) words w v u n

-- A reservoir has the sample of these values for the words that were drawn, whatever comes behind these.
pub record IsSample (size : ℕ) (samples : List FixedOf) (kept : ReservoirText) (to_come left : Option (ℕ → ℕ)) : Type 0 where
  pub words : List ℕ
  pub drawn : Draws to_come words left
  pub many : length words ≡ draws size samples
  pub rate : sample_rate kept.size kept.count ≡ sample_rate size (length samples)
  pub values : (more : List ℕ) → kept.values ≡ reservoir size (words ++ more) samples

-- A value is handed to a reservoir, beside the words to come: it is kept, or where there is no room a word is drawn for it.
abbrev pub OffersOne : ReservoirText × Option (ℕ → ℕ) → FixedOf → ReservoirText × Option (ℕ → ℕ) → Type 0
OffersOne p value q =
    (p.0.count < p.0.size → (q.0 ≡ with_kept p.0 value) × (q.1 ≡ p.1))
    × (p.0.size ≤ p.0.count → (word : ℕ) × DrawsOne p.1 word q.1 × (q.0 ≡ with_sampled p.0 word value))

-- values are handed to it, one after the other
abbrev pub Offers : ReservoirText × Option (ℕ → ℕ) → List FixedOf → ReservoirText × Option (ℕ → ℕ) → Type 0
Offers p values q = FoldsTo OffersOne p values q

-- ---- the whole flush

-- what a flush found of the series that it flushed; the words that it drew for them, and those that it drew for none
pub record Found : Type 0 where
  pub counters : List CounterState
  pub gauges : List GaugeState
  pub histograms : List (List FixedOf)
  pub words : List ℕ
  pub others : List ℕ

-- all series were flushed
pub record IsWhole (found : Found) (old : Exporter) : Type 0 where
  pub counters : length found.counters ≡ length old.series.counters
  pub gauges : length found.gauges ≡ length old.series.gauges
  pub histograms : length found.histograms ≡ length old.series.histograms
  pub others : found.others ≡ []

-- gauges are flushed behind all counters, and histograms behind all gauges
pub record IsInOrder (found : Found) (old : Exporter) : Type 0 where
  pub gauges : 0 < length found.gauges → length found.counters ≡ length old.series.counters
  pub histograms : 0 < length found.histograms → (length found.counters ≡ length old.series.counters) × (length found.gauges ≡ length old.series.gauges)

-- what is sent of what was found
abbrev pub items_found : DogStatsDSettings → List LabelText → ℕ → List Bool → Exporter → Found → List FlushItem
items_found settings tags moment marks old found =
    items_of_counters settings tags moment marks (with_found old.series.counters found.counters)
    ++ items_of_gauges settings tags moment (with_found old.series.gauges found.gauges)
    ++ items_of_histograms settings tags moment found.words (with_found old.series.histograms found.histograms)

-- The first series were flushed, and the others are as they were, but that entries of the next histogram may have been taken out.
pub record Flushes (moment : ℕ) (found : Found) (old new : Exporter) (marks noted : List Bool) (w v : WriterText) (u n : UpdateText) (to_come left : Option (ℕ → ℕ)) : Type 0 where
  pub counters : AreTaken Unchanged TakesCounter old.series.counters found.counters new.series.counters
  pub gauges : AreTaken Unchanged TakesGauge old.series.gauges found.gauges new.series.gauges
  pub histograms : AreTaken MaybeDrained TakesSamples old.series.histograms found.histograms new.series.histograms
  pub rest : new ≡ record old { series = record old.series { counters = new.series.counters; gauges = new.series.gauges; histograms = new.series.histograms } }
  pub in_order : IsInOrder found old
  pub marked : noted ≡ marks_after found.counters marks
  pub sends : Sends (items_found old.settings w.global_tags moment marks old found) w v u n
  pub drawn : Draws to_come (found.words ++ found.others) left
  pub many : length found.words ≡ words_for_all old.settings (with_found old.series.histograms found.histograms)

-- Where no pass is out a whole flush is the step of the sequential state, and sends its items; so many words were drawn.
pub record FlushesAll (moment : ℕ) (old new : Exporter) (marks noted : List Bool) (w v : WriterText) (u n : UpdateText) (to_come left : Option (ℕ → ℕ)) : Type 0 where
  pub words : List ℕ
  pub drawn : Draws to_come words left
  pub many : length words ≡ words_for_all old.settings (state_seen marks old).series.histograms
  pub step : state_seen noted new ≡ flush_step (state_seen marks old)
  pub sends : Sends (flush_items old.settings w.global_tags moment words (state_seen marks old)) w v u n
