use denote.Param.Send.{sendable}
use Rattle.std.proofs.Crossing.{crosses}
use Rattle.metrics_core.proofs.texts.CowStr.TheSendSync as texts
use Rattle.metrics_core.proofs.units.Unit.TheSendSync as units
use Rattle.evmap_core.proofs.Crossing.{Handle-send}
use Rattle.map_tests.proofs.description_tests.found_beside.Goals as goal

pub join-found-requires-send-F : goal.join-found-requires-send-F
join-found-requires-send-F g c κs within = search (sendable, crosses, Handle-send, texts.the_send, texts.the_sync, units.the_send, units.the_sync) depth 40 fits 4000
