use Rattle.std.proofs.Common.{sym, subst, rules}
use Rattle.flushed_cells.specs.declared.counter_state.CounterState.{CounterState}
use Rattle.flushed_cells.specs.Counters.{CounterStep, counter_start, answered}
use Rattle.flushed_cells.proofs.Alike.{same_counter, counters_alike, counters_unlike}
use Rattle.flushed_cells.proofs.Sitting.{exchanges_as}
use Rattle.flushed_cells.proofs.Turns.{counter_turns}
use Rattle.crossbeam_utils.specs.Seq.{cell_view}
use Rattle.flushed_cells.proofs.counter.DsdCounter.exchange.Goals as goal

pub compare_exchange_as-requires : goal.compare_exchange_as-requires
compare_exchange_as-requires g c = (
  search rules,
  (
    search rules,
    (
      c.requires.cell,
      λ x seats k at.
          exchanges_as CounterStep counter_start x c.args.old c.after.result (same_counter x c.args.old) (counters_alike x c.args.old) (counters_unlike x c.args.old)
          seats c.args.seat.now.id (cell_view c.args.seat.now) (answered c.args.change c.args.old) g.N.AskedCounter.call g.N.AskedCounter.expected c.requires.asked.0 c.requires.asked.1
          c.requires.live (subst (λ (z : CounterState). CounterStep (answered c.args.change c.args.old) c.args.old z) (sym c.after.ensures) (counter_turns c.args.change c.args.old)) k at,
    ),
  ),
)
