use Rattle.std.proofs.Common.{◌≡◌, take, drop}
use Rattle.dsd_writer.specs.Lines.{spelled_values}
use Rattle.dsd_writer.proofs.Running.{IsRunning}
use Rattle.dsd_writer.proofs.many.run_of.Given as goal

-- the values so far are on the line
abbrev pub invariant-loop-value : goal.invariant-loop-value
invariant-loop-value l = record {
  running : IsRunning l.room (spelled_values (take l.value-index l.values)) (spelled_values (drop l.value-index l.values)) l.run.used l.run.left_out;
  taken : l.run.taken ≡ l.value-index;
}
