use denote.Exit.{no}
use denote.Param.Send.{arg_send, param_send, sendable}
use Rattle.std.proofs.Crossing.{crosses}
use Rattle.service_exporters.proofs.Crossing.{flushes-send, pages-send, upkeep-send}
use Rattle.service_exporters.proofs.run.run_exporters.Goals as goal

pub run_service-requires-send-P : goal.run_service-requires-send-P
run_service-requires-send-P g c κs within = search (sendable, crosses, pages-send) depth 20

pub run_service-requires-send-K : goal.run_service-requires-send-K
run_service-requires-send-K g c κs within = search (sendable, crosses, upkeep-send) depth 20

pub run_service-requires-send-F : goal.run_service-requires-send-F
run_service-requires-send-F g c κs within = param_send 3 _ (arg_send _ no _ (flushes-send _ c.type_bounds.send-L))

pub run_service-requires-2-send-P : goal.run_service-requires-2-send-P
run_service-requires-2-send-P g c κs within = search (sendable, crosses, pages-send) depth 20

pub run_service-requires-2-send-K : goal.run_service-requires-2-send-K
run_service-requires-2-send-K g c κs within = search (sendable, crosses, upkeep-send) depth 20

pub run_service-requires-2-send-F : goal.run_service-requires-2-send-F
run_service-requires-2-send-F g c κs within = param_send 3 _ (arg_send _ no _ (flushes-send _ c.type_bounds.send-L))

pub returns-in_default-clause-flushes : goal.returns-in_default-clause-flushes
returns-in_default-clause-flushes g c = rw (← c.flushes_of-flushes.ensures) c.run_service.ensures.flushes

pub returns-clause-flushes : goal.returns-clause-flushes
returns-clause-flushes g c = rw (← c.flushes_of-flushes.ensures) c.run_service-2.ensures.flushes
