-- A receiver may go to another thread.
use denote.Param.Send.{IsSend, sendable, view_send}
use denote.Param.SendFields.{declared_send}
use Rattle.std.proofs.Crossing.{crosses}
use Rattle.prom_exporter.proofs.Crossing.{state-send}
use Rattle.dsd_receiver.specs.contracts.receiver.Receiver as Received
use Rattle.dsd_receiver.specs.contracts.receiver.Receiver.TheInside as received

pub receiver-send : IsSend Received.the_row
receiver-send = view_send _ _ _ _ _ (declared_send received.the_type (state-send, tt))
