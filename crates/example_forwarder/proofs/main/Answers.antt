use denote.Param.Send.{sendable}
use Rattle.std.proofs.Crossing.{crosses}
use Rattle.dsd_forwarder.proofs.Crossing.{recorder-sync}
use Rattle.example_forwarder.proofs.main.Goals as goal

pub join-first-requires-send-F : goal.join-first-requires-send-F
join-first-requires-send-F g c κs within = search (sendable, crosses, recorder-sync) depth 30 fits 4000
