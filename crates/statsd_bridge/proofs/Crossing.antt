-- A bridge may go to another thread.
use denote.Param.Send.{IsSend, sendable, view_send}
use denote.Param.SendFields.{declared_send}
use Rattle.std.proofs.Crossing.{crosses}
use Rattle.dsd_receiver.proofs.Crossing.{receiver-send}
use Rattle.statsd_bridge.specs.contracts.bridge.Bridge as Bridged
use Rattle.statsd_bridge.specs.contracts.bridge.Bridge.TheInside as bridge

pub bridge-send : IsSend Bridged.the_row
bridge-send = view_send _ _ _ _ _ (declared_send bridge.the_type (receiver-send, (search (sendable, crosses) depth 20, (search (sendable, crosses) depth 20, tt))))
