use denote.Param.Send.{sendable}
use Rattle.std.proofs.Crossing.{crosses}
use Rattle.evmap_core.proofs.Crossing.{Handle-send}
use Rattle.map_tests.proofs.thread_tests.beside.Goals as goal

pub join-requires-send-F : goal.join-requires-send-F
join-requires-send-F g c κs within = search (sendable, crosses, Handle-send) depth 40

pub join-requires-send-A : goal.join-requires-send-A
join-requires-send-A g c κs within = search (sendable, crosses, Handle-send) depth 40
