use Rattle.std.proofs.Common.{arith}
use Rattle.flushed_cells.specs.Counters.{counter_start}
use Rattle.flushed_cells.proofs.Histories.{bounded}
use Rattle.flushed_cells.proofs.laws.pending_is_in_the_total.Goals as goal

pub returns : goal.returns
returns c = λ cs s r. bounded cs counter_start s (λ _. omega arith) r
