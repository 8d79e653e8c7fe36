use Rattle.std.proofs.Common.{◌≡◌}
use Rattle.std.specs.Prelude.{length}
use Rattle.prom_exporter.specs.Exporter.{state_of}
use Rattle.dsd_receiver.proofs.ReceivedStreams.{IsTakenSoFar}
use Rattle.dsd_receiver.proofs.streams.receive_stream.Given as goal

abbrev pub invariant-loop-payload : goal.invariant-loop-payload
invariant-loop-payload g l = record {
  so_far : IsTakenSoFar l.bytes l.frames l.received (state_of l.receiver);
  settings : l.receiver.settings ≡ l.initial.receiver.settings;
}

abbrev pub decreases-loop-payload : goal.decreases-loop-payload
decreases-loop-payload g l = length l.frames
