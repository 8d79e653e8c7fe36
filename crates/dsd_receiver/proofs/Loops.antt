-- Calls that a pass makes one after another.
use Rattle.std.proofs.Common.{◌≡◌, ℕ, zero, suc, ◌+◌, ◌<◌, take, length, get_or, true, false, List, [], ◌∷◌, ◌++◌, map, Option, refl, sym, ap, subst, ◌∙◌, append_assoc, append-nil, arith}
use Rattle.std.specs.Prelude.{Result, Ok, Err, is_err}
use Rattle.std.proofs.lemmas.Bool.{true≢false}
use Rattle.std.proofs.lemmas.List.{map-append, map_more, take-map}
use Rattle.metrics_core.specs.Calls.{Call, Increment, Set, Record}
use Rattle.dsd_lines.specs.declared.lines.GaugeStep.{GaugeStep}
use Rattle.dsd_lines.specs.Texts.{numbers_of, step_text, steps_of}
use Rattle.dsd_receiver.specs.Received.{call_of_step, increments, records, scaled, sets, steps}
use Rattle.metrics_core.specs.Series.{call_of}
use Rattle.metrics_core.specs.declared.numbers.Fixed.{Fixed}
use Rattle.metrics_facade.specs.Handles.{Recorded, Refused, Stands}
use Rattle.metrics_facade.specs.declared.faults.RecordFault.{RecordFault}
use Rattle.metrics_facade.specs.declared.faults.RecordFault.TheVariants as faults
use Rattle.series_cells.specs.declared.counter.PromCounter.{PromCounter}
use Rattle.series_cells.specs.declared.gauge.PromGauge.{PromGauge}
use Rattle.series_cells.specs.declared.pass.CellPass.{CellPass}
use Rattle.series_cells.specs.Pass.{Follows, IsCounterPass, IsGaugePass, view_of}
use Rattle.sample_queue.specs.Passes as samples
use Rattle.sample_queue.specs.Histograms as histograms
use Rattle.sample_queue.specs.Histograms.{timed}
use Rattle.sample_queue.specs.Queues.{entry_of}
use Rattle.sample_queue.specs.declared.calls.QueueCall.TheVariants.{Push}
use Rattle.histogram_series.specs.Entries.{TimedEntry, TimedQueue, record_of}
use Rattle.prom_exporter.specs.Lending.{TimedPass}
use Rattle.dsd_receiver.specs.Passes.{IsCounterHeld, IsGaugeHeld, IsHistogramHeld, MakesCalls, MakesRecords}

-- ---- one more value

pub increments_more : (rate : ℕ) (xs : List ℕ) (i d n : ℕ) → i < length xs → n ≡ scaled rate (get_or xs i d) → increments rate (take i xs) ++ Increment n ∷ [] ≡ increments rate (take (i + 1) xs)
increments_more rate xs i d n within is = (λ j. increments rate (take i xs) ++ Increment (is j) ∷ []) ∙ sym (map_more _ xs i d within)

numbers_more : (xs : List Fixed) (i : ℕ) (d : Fixed) → i < length xs → numbers_of (take (i + 1) xs) ≡ numbers_of (take i xs) ++ (get_or xs i d).0 ∷ []
numbers_more xs i d within = map_more _ xs i d within

pub changes_more : {C : Type 0} (call : C → Call) (xs : List C) (i : ℕ) (d : C) → i < length xs → map call (take i xs) ++ call (get_or xs i d) ∷ [] ≡ map call (take (i + 1) xs)
changes_more call xs i d within = sym (map_more call xs i d within)

-- the calls of values that set a gauge, and of those that set it or move it
pub sets_called : (xs : List Fixed) → map (λ value. Set value.0) xs ≡ sets (numbers_of xs)
sets_called [] = refl
sets_called (x ∷ xs) = (λ j. Set x.0 ∷ sets_called xs j)

pub steps_called : (xs : List GaugeStep) → map (λ step. call_of_step (step_text step)) xs ≡ steps (steps_of xs)
steps_called [] = refl
steps_called (x ∷ xs) = (λ j. call_of_step (step_text x) ∷ steps_called xs j)

pub records_more : (moment times : ℕ) (xs : List Fixed) (i : ℕ) (d : Fixed) → i < length xs
    → records moment times (numbers_of (take i xs)) ++ Record (get_or xs i d).0 moment times ∷ [] ≡ records moment times (numbers_of (take (i + 1) xs))
records_more moment times xs i d within = sym (ap (records moment times) (numbers_more xs i d within) ∙ map-append (λ value. Record value moment times) (numbers_of (take i xs)) ((get_or xs i d).0 ∷ []))

-- the records of the first values
pub first_records : (moment times n : ℕ) (xs : List Fixed) → records moment times (numbers_of (take n xs)) ≡ take n (records moment times (numbers_of xs))
first_records moment times n xs = ap (records moment times) (sym (take-map _ n xs)) ∙ sym (take-map (λ value. Record value moment times) n (numbers_of xs))

-- ---- counters and gauges

pub made_none : (pass : CellPass) → MakesCalls pass [] pass
made_none pass = ([], refl, sym (append-nil (view_of pass).mine))

pub made_more : (before now after : CellPass) (calls : List Call) (call : Call) → MakesCalls before calls now → Follows now call after → MakesCalls before (calls ++ call ∷ []) after
made_more before now after calls call (made, are, mine) (c, is, (log, sees, left), known) = (
  made ++ c ∷ [],
  map-append call_of made (c ∷ []) ∙ (λ i. are i ++ is i ∷ []),
  ap (λ v. v.mine) left ∙ ap (λ cs. cs ++ c ∷ []) mine ∙ append_assoc (view_of before).mine made (c ∷ []),
)

-- after a call by the handle the pass is one of its cell, and has made the call
pub counter_stands : (handle : Option PromCounter) (before after : CellPass) (call : Call) → IsCounterHeld handle before → Stands IsCounterPass (λ _. Follows) handle before call after
    → IsCounterHeld handle after × Follows before call after
counter_stands handle before after call (cell, is, pass) stands =
    let own = subst (λ h. Stands IsCounterPass (λ _. Follows) h before call after) is stands in
    ((cell, is, own.0), own.1)

pub gauge_stands : (handle : Option PromGauge) (before after : CellPass) (call : Call) → IsGaugeHeld handle before → Stands IsGaugePass (λ _. Follows) handle before call after
    → IsGaugeHeld handle after × Follows before call after
gauge_stands handle before after call (cell, is, pass) stands =
    let own = subst (λ h. Stands IsGaugePass (λ _. Follows) h before call after) is stands in
    ((cell, is, own.0), own.1)

-- ---- histograms

pub recorded_none : (pass : TimedPass) → MakesRecords pass [] pass
recorded_none pass = ([], refl, sym (append-nil (samples.view_of pass).mine))

-- after a record by the handle the pass is one of its queue; the record was made, or the pass tells what it told before
pub record_stands : (handle : Option TimedQueue) (before after : TimedPass) (call : Call) (answer : Result (Unit {0}) RecordFault) → IsHistogramHeld handle before
    → Recorded samples.IsSamplePass (λ _. histograms.Records timed) (λ _. histograms.Stays) handle before after call answer
    → IsHistogramHeld handle after × (is_err answer ≡ false → histograms.Records timed before call after) × (is_err answer ≡ true → histograms.Stays before after)
record_stands handle before after call (Ok _) (queue, is, pass) stands =
    let own = subst (λ h. Stands samples.IsSamplePass (λ _. histograms.Records timed) h before call after) is stands in
    ((queue, is, own.0), (λ _. own.1), (λ e. absurd (true≢false (sym e))))
record_stands handle before after call (Err faults.Memory) (queue, is, pass) refused =
    let own = subst (λ h. Refused samples.IsSamplePass (λ _. histograms.Stays) h before after) is refused in
    ((queue, is, own.0), (λ e. absurd (true≢false e)), (λ _. own.1))
record_stands handle before after call (Err faults.OutOfRange) held never = absurd never

-- a record of a sample or more is one push
pub recorded_more : (before now after : TimedPass) (calls : List Call) (value : Fixed) (moment times : ℕ) → 0 < times → MakesRecords before calls now
    → histograms.Records timed now (Record value.0 moment times) after → MakesRecords before (calls ++ Record value.0 moment times ∷ []) after
recorded_more before now after calls value moment zero some makes records = absurd (omega (arith, some))
recorded_more before now after calls value moment (suc more) some (entries, are, mine) (log, x, y, sees, runs, step, left) =
    let new : TimedEntry = entry_of (timed value.0 moment) (suc more) in (
      entries ++ new ∷ [],
      map-append record_of entries (new ∷ []) ∙ ap (λ cs. cs ++ Record value.0 moment (suc more) ∷ []) are,
      ap (λ v. v.mine) left ∙ ap (λ cs. cs ++ Push new ∷ []) mine ∙ append_assoc (samples.view_of before).mine (map Push entries) (Push new ∷ [])
          ∙ ap (λ cs. (samples.view_of before).mine ++ cs) (sym (map-append Push entries (new ∷ []))),
    )

-- a refused record leaves what was recorded
pub recorded_still : (before now after : TimedPass) (calls : List Call) → MakesRecords before calls now → histograms.Stays now after → MakesRecords before calls after
recorded_still before now after calls makes same = (makes.0, makes.1, ap (λ v. v.mine) same ∙ makes.2)
