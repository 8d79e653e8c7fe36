use Rattle.std.proofs.Common.{rules}
use Rattle.flushed_cells.specs.Counters.{CounterStep, counter_start}
use Rattle.flushed_cells.proofs.Sitting.{opens_seated}
use Rattle.flushed_cells.proofs.counter.DsdCounter.new.Goals as goal

pub ruled-requires : goal.ruled-requires
ruled-requires c = (search rules, (search rules, opens_seated CounterStep counter_start))
