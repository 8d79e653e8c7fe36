use denote.Param.Send.{sendable}
use Rattle.std.proofs.Crossing.{crosses}
use Rattle.evmap_core.proofs.Crossing.{Factory-sync}
use Rattle.map_tests.proofs.thread_tests.find_five.Goals as goal

pub join-requires-send-F : goal.join-requires-send-F
join-requires-send-F g c κs within = search (sendable, crosses, Factory-sync) depth 40
