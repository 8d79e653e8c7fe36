-- An exporter may go to another thread.
use denote.Param.Send.{IsSend, sendable, view_send}
use denote.Param.SendFields.{declared_send, as_row_send}
use Rattle.std.proofs.Crossing.{crosses}
use Rattle.std.specs.contracts.snapshot.Snapshot as Snapshot
use Rattle.metrics_core.specs.contracts.keys.Key as Key
use Rattle.metrics_registry.proofs.registry.Registry.TheSendSync as registry
use Rattle.flushed_cells.proofs.counter.DsdCounter.TheSendSync as counters
use Rattle.flushed_cells.proofs.gauge.DsdGauge.TheSendSync as gauges
use Rattle.flushed_cells.proofs.pass.DsdPass.TheSendSync as passes
use Rattle.dsd_writer.specs.contracts.kept_keys.KeptKeys as KeptKeys
use Rattle.dsd_writer.specs.contracts.kept_keys.KeptKeys.TheInside as kept
use Rattle.dsd_writer.specs.contracts.kept_keys.KeptPlace as KeptPlace
use Rattle.dsd_exporter.proofs.configuration.StateConfiguration.TheSendSync as configuration
use Rattle.dsd_exporter.proofs.gauge_texts.GaugeLine.TheSendSync as line
use Rattle.dsd_exporter.proofs.kept_cells.KeptCell.TheSendSync as cells
use Rattle.dsd_exporter.proofs.queued.QueuedSamples.TheSendSync as queued
use Rattle.dsd_exporter.specs.contracts.gauge_texts.GaugeTexts as GaugeTexts
use Rattle.dsd_exporter.specs.contracts.gauge_texts.GaugeTexts.TheInside as texts
use Rattle.dsd_exporter.specs.contracts.state.State as State
use Rattle.dsd_exporter.specs.contracts.state.State.TheInside as stored

-- what is kept for the lines of gauges
place-send : IsSend KeptPlace.the_row
place-send = declared_send KeptPlace.the_type (search sendable, (search sendable, (search sendable, (as_row_send (Snapshot.the_field Key.the_row) (search (sendable, crosses) depth 20), tt))))

keys-send : IsSend KeptKeys.the_row
keys-send = view_send _ _ _ _ _ (declared_send kept.the_type (search (sendable, crosses) depth 20, (search (sendable, crosses, place-send) depth 20 fits 4000, tt)))

texts-send : IsSend GaugeTexts.the_row
texts-send =
    view_send _ _ _ _ _ (declared_send texts.the_type (
      as_row_send KeptKeys.the_field keys-send,
      (
        search (sendable, crosses) depth 20,
        (search (sendable, crosses) depth 20, (search (sendable, crosses, line.the_send) depth 20, tt)),
      ),
    ))

pub state-send : IsSend State.the_row
state-send =
    view_send _ _ _ _ _ (declared_send stored.the_type (
      search (sendable, crosses, configuration.the_send) depth 30 fits 4000,
      (
        search (sendable, crosses, registry.the_send, cells.the_send, counters.the_send, counters.the_sync, gauges.the_send, gauges.the_sync, passes.the_send, queued.the_send) depth 40 fits 20000,
        (as_row_send GaugeTexts.the_field texts-send, tt),
      ),
    ))
