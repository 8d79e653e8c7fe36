use Rattle.std.proofs.Common.{ap, ◌∙◌, arith}
use Rattle.metrics_core.specs.Numbers.{in_64_bits}
use Rattle.flushed_cells.specs.Counters.{counter_start}
use Rattle.flushed_cells.proofs.Histories.{increments_once}
use Rattle.flushed_cells.proofs.laws.increments_are_flushed_once.Goals as goal

pub returns : goal.returns
returns c = λ cs s o r. increments_once cs counter_start s o r ∙ ap in_64_bits (omega arith)
