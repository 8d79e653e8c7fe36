use Rattle.std.proofs.Common.{◌≡◌, ◌≤◌, ◌++◌, take, vec_capacity}
use Rattle.dsd_writer.specs.Lines.{spelled_values, values_text}
use Rattle.dsd_writer.specs.Runs.{short_values}
use Rattle.dsd_writer.proofs.many.push_values.Given as goal

-- the values so far are written
abbrev pub invariant-loop-value : goal.invariant-loop-value
invariant-loop-value l = record {
  written : l.bytes.items ≡ l.fn.bytes.items ++ values_text (short_values l.room (spelled_values (take l.value-index l.values)));
  capacity : vec_capacity l.fn.bytes ≤ vec_capacity l.bytes;
}
