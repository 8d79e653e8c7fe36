-- Threads may share the metrics of a service.
use denote.RattleType.{RattleType}
use denote.Ref.{NamedLft}
use denote.Param.Send.{IsSync, sendable, shr_sync, view_sync}
use denote.Param.SendFields.{declared_sync}
use Rattle.std.proofs.Crossing.{crosses}
use Rattle.prom_recorder.proofs.Crossing.{recorder-sync}
use Rattle.dsd_forwarder.proofs.Crossing.{recorder-sync as sender-sync}
use Rattle.service_metrics.specs.contracts.metrics.Metrics as Metrics
use Rattle.service_metrics.specs.contracts.metrics.Metrics.TheInside as inside

pub metrics-sync : (a : NamedLft) (R : RattleType) → IsSync R → IsSync (Metrics.the_row a R)
metrics-sync a R s =
    view_sync _ _ _ _ _ (declared_sync (inside.the_type a R) (
      shr_sync _ _ _ s,
      (search (sendable, crosses) depth 20, (search (sendable, crosses, recorder-sync) depth 20, (search (sendable, crosses, sender-sync) depth 20, tt))),
    ))
