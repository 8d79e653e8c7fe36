use Rattle.std.proofs.Common.{◌+◌, ◌≤◌, length, vec_capacity}
use Rattle.dsd_writer.specs.Lines.{spelled_values}
use Rattle.dsd_writer.proofs.Filling.{IsFilling, IsNoting}
use Rattle.dsd_writer.proofs.many.fill.Given as goal

-- the lines of the values so far are written, and their lengths noted
abbrev pub invariant-loop-rest : goal.invariant-loop-rest
invariant-loop-rest l = record {
  filling : IsFilling l.limit l.on_stream l.item (spelled_values l.values) (spelled_values l.rest) l.fn.bytes.items l.fn.starts.items l.bytes.items l.starts.items l.lines l.left_out;
  noting : IsNoting l.limit l.item (spelled_values l.values) (spelled_values l.rest) l.fn.lengths.items l.lengths.items;
  few_lines : l.lines + length l.rest ≤ length l.values;
  few_out : l.left_out + length l.rest ≤ length l.values;
  bytes_capacity : vec_capacity l.fn.bytes ≤ vec_capacity l.bytes;
  starts_capacity : vec_capacity l.fn.starts ≤ vec_capacity l.starts;
  lengths_capacity : vec_capacity l.fn.lengths ≤ vec_capacity l.lengths;
}

abbrev pub decreases-loop-rest : goal.decreases-loop-rest
decreases-loop-rest l = length l.rest
