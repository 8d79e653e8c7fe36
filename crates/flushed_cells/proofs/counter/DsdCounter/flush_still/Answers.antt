use Rattle.std.proofs.Common.{rules}
use Rattle.flushed_cells.specs.declared.counter_calls.CounterCall.TheVariants.{Flush}
use Rattle.flushed_cells.specs.Counters.{CounterStep, counter_start, is_still}
use Rattle.flushed_cells.specs.Passes.{view_of}
use Rattle.flushed_cells.proofs.Sitting.{looks}
use Rattle.flushed_cells.proofs.Turns.{still_flushes}
use Rattle.flushed_cells.proofs.counter.DsdCounter.flush_still.Goals as goal

pub load_as-requires : goal.load_as-requires
load_as-requires g c = (
  search rules,
  (search rules, (c.requires, λ x seats k at. looks CounterStep counter_start x (is_still x) seats c.args.pass.now.seat.id (view_of c.args.pass.now) (Flush 0 0) c.args.pass.now.live (still_flushes x) k at)),
)
