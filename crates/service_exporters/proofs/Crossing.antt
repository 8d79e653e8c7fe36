-- What shows pages, keeps up and flushes may go to another thread.
use denote.RattleType.{RattleType}
use denote.Param.Send.{IsSend, sendable}
use denote.Param.SendFields.{declared_send, as_row_send}
use Rattle.std.proofs.Crossing.{crosses}
use Rattle.shared_turns.proofs.pass.TurnPass.TheSendSync as passes
use Rattle.shared_recorder.proofs.Crossing.{kept-send}
use Rattle.prom_recorder.proofs.Crossing.{handle-send}
use Rattle.metrics_core.proofs.words.Lcg.TheSendSync as words
use Rattle.scrape_loops.proofs.moments.SystemMoments.TheSendSync as moments
use Rattle.dsd_forwarder.specs.contracts.forwarder.Forwarder as Forwarder
use Rattle.dsd_forwarder.proofs.Crossing.{forwarder-send}
use Rattle.service_exporters.proofs.flushes.FlushTally.TheSendSync as tally
use Rattle.service_exporters.specs.contracts.flushes.ForwarderFlushes as Flushes
use Rattle.service_exporters.specs.contracts.pages.RecorderPages as Pages
use Rattle.service_exporters.specs.contracts.upkeep.RecorderUpkeep as Upkeep

pub pages-send : IsSend Pages.the_row
pages-send = declared_send Pages.the_type (search (sendable, crosses, handle-send) depth 20, (search (sendable, crosses, passes.the_send, kept-send) depth 20, tt))

pub upkeep-send : IsSend Upkeep.the_row
upkeep-send =
    declared_send Upkeep.the_type
    (search (sendable, crosses) depth 20, (search (sendable, crosses, handle-send) depth 20, (search (sendable, crosses, passes.the_send, kept-send) depth 20, tt)))

pub flushes-send : (L : RattleType) → IsSend L → IsSend (Flushes.the_row L)
flushes-send L s =
    declared_send (Flushes.the_type L) (
      search (sendable, crosses) depth 20,
      (
        as_row_send Forwarder.the_field forwarder-send,
        (
          search (sendable, crosses) depth 20,
          (search (sendable, words.the_send) depth 20, (search (sendable, moments.the_send) depth 20, (search (sendable, tally.the_send) depth 20, tt))),
        ),
      ),
    )
