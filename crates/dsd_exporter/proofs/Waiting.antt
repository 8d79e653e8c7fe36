-- Behind a flush nothing waits in a cell.
use Rattle.std.proofs.Common.{List, [], ◌∷◌, ◌++◌, ℕ, refl, sym, ap, subst, ◌∙◌}
use Rattle.legal_history.specs.declared.history.View.{View}
use Rattle.legal_history.specs.History.{calls, first, said}
use Rattle.legal_history.specs.Object.{Made, Runs}
use Rattle.legal_history.proofs.Lists.{calls-append}
use Rattle.metrics_core.specs.declared.numbers.Fixed.{Fixed as FixedOf}
use Rattle.flushed_cells.specs.declared.counter_calls.CounterCall.{CounterCall}
use Rattle.flushed_cells.specs.declared.gauge_calls.GaugeCall.{GaugeCall}
use Rattle.flushed_cells.specs.Counters.{CounterStep, counter_start, counter_flush}
use Rattle.flushed_cells.specs.Gauges.{GaugeStep, gauge_start, gauge_flush}
use Rattle.flushed_cells.specs.Series.{Flushes}
use Rattle.dsd_exporter.specs.Exporter.{unmade}
use Rattle.dsd_exporter.specs.Flushing.{PassesCounter, PassesGauge}
use Rattle.dsd_exporter.specs.Waiting.{CounterRests, GaugeRests, NothingWaits, GaugeStays}

module _ {S C : Type 0} (Step : C → S → S → Type 0) where
  runs-then : (s x y : S) (cs : List C) (c : C) → Runs Step s cs x → Step c x y → Runs Step s (cs ++ c ∷ []) y
  runs-then s x y [] c runs step = (y, subst (λ u. Step c u y) (sym runs) step, refl)
  runs-then s x y (k ∷ cs) c runs step = (runs.0, runs.1, runs-then runs.0 x y cs c runs.2 step)

  -- the state behind a call is that of all calls that the pass has seen
  made-runs : (start : S) (c : C) (v w : View C) (m : Made Step start c v w) → Runs Step start (calls w.seen) m.2
  made-runs start c v w m =
      subst (λ cs. Runs Step start cs m.2) (sym (ap (λ (u : View C). calls u.seen) m.6 ∙ calls-append m.0 (said v.number (c ∷ []))))
      (runs-then start m.1 m.2 (calls m.0) c m.4 m.5)

pub flushed_counter : (v w : View CounterCall) (answer : ℕ × ℕ) → Flushes CounterStep counter_start counter_flush v answer w → NothingWaits w
flushed_counter v w answer m = (
  m.2,
  record {
    holds = made-runs CounterStep counter_start (counter_flush answer) v w m;
    delta = ap (λ s. s.delta) m.5.2;
    updates = ap (λ s. s.updates) m.5.2;
  },
)

pub flushed_gauge : (v w : View GaugeCall) (answer : FixedOf × ℕ) → Flushes GaugeStep gauge_start gauge_flush v answer w → GaugeStays w answer.0
flushed_gauge v w answer m = (
  m.2,
  ap (λ s. s.value) m.5.2 ∙ sym m.5.0,
  record {
    holds = made-runs GaugeStep gauge_start (gauge_flush answer) v w m;
    updates = ap (λ s. s.updates) m.5.2;
  },
)

-- nothing waits in a cell that nobody has called
counter_rests : CounterRests first counter_start
counter_rests = record { holds = refl; delta = refl; updates = refl }

gauge_rests : GaugeRests first gauge_start
gauge_rests = record { holds = refl; updates = refl }

pub first_counter : NothingWaits first
first_counter = (counter_start, counter_rests)

pub first_gauge : GaugeStays first gauge_start.value
first_gauge = (gauge_start, refl, gauge_rests)

-- a flush passes over a cell that isn't made yet
pub unmade_counter : PassesCounter unmade counter_start unmade
unmade_counter = (refl, counter_rests, refl)

pub unmade_gauge : PassesGauge unmade gauge_start unmade
unmade_gauge = (refl, gauge_rests, refl)
