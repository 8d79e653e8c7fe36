use Rattle.std.proofs.Common.{rules}
use Rattle.flushed_cells.specs.Counters.{CounterStep, counter_start}
use Rattle.flushed_cells.specs.Passes.{view_of}
use Rattle.flushed_cells.proofs.Sitting.{forks_seated}
use Rattle.flushed_cells.proofs.counter.DsdCounter.split.Goals as goal

pub split_pass-seat-requires : goal.split_pass-seat-requires
split_pass-seat-requires c = (
  search rules,
  (search rules, (c.requires.pass, λ x seats k at. forks_seated CounterStep counter_start x seats c.args.pass.now.seat.id (view_of c.args.pass.now) c.args.pass.now.live c.requires.root k at)),
)
