use Rattle.std.proofs.Common.{◌≡◌}
use Rattle.native_histograms.specs.Native.{index_of}
use Rattle.native_histograms.proofs.buckets.index_of.Given as goal

abbrev pub invariant-loop-lowered : goal.invariant-loop-lowered
invariant-loop-lowered l = l.index ≡ index_of l._lowered l.magnitude
