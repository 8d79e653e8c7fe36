use Rattle.std.proofs.Common.{◌≡◌, vec_len, vec_capacity}
use Rattle.dsd_writer.specs.Packing.{pieces_at}
use Rattle.dsd_writer.proofs.Lengths.{set_so_far}
use Rattle.dsd_writer.proofs.packing.set_lengths.Given as goal

-- the payloads so far are led by their lengths
abbrev pub invariant-loop-place : goal.invariant-loop-place
invariant-loop-place l = record {
  set : l.bytes.items ≡ set_so_far l.place (pieces_at l.starts l.fn.bytes.items);
  size : vec_len l.bytes ≡ vec_len l.fn.bytes;
  capacity : vec_capacity l.bytes ≡ vec_capacity l.fn.bytes;
}
