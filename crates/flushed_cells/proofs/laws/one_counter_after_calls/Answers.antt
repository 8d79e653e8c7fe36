use Rattle.std.proofs.Common.{refl}
use Rattle.flushed_cells.specs.Counters.{counter_start}
use Rattle.flushed_cells.proofs.Histories.{one_counter}
use Rattle.flushed_cells.proofs.laws.one_counter_after_calls.Goals as goal

pub returns : goal.returns
returns c = λ cs s t a b. one_counter cs counter_start counter_start s t refl a b
