use Rattle.std.proofs.lemmas.Result.{on_ok_weaker}
use Rattle.dsd_writer.proofs.PointRooms.{value_short}
use Rattle.dsd_writer.proofs.writer.PayloadWriter.reserve_kept_gauge.Goals as goal

pub returns-clause-room : goal.returns-clause-room
returns-clause-room c = on_ok_weaker c.reserve_one.result (λ room value fits. room _ (value_short value fits)) c.reserve_one.ensures.room
