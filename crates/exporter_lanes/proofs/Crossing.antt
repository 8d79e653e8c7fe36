-- Both exporters may go to another thread.
use denote.Param.Send.{IsSend, sendable}
use denote.Param.SendFields.{declared_send}
use Rattle.prom_exporter.proofs.Crossing.{state-send}
use Rattle.dsd_exporter.proofs.Crossing.{state-send as lines-send}
use Rattle.exporter_lanes.specs.contracts.exporters.Exporters as Exporters

pub exporters-send : IsSend Exporters.the_row
exporters-send = declared_send Exporters.the_type (search (sendable, state-send), (search (sendable, lines-send), tt))
