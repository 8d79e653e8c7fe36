-- A shared state may be used by several threads, and its passes may go to them.
use denote.Param.Send.{IsSend, IsSync, sendable}
use denote.Param.SendFields.{declared_send, declared_sync}
use Rattle.std.proofs.Crossing.{crosses}
use Rattle.dsd_exporter.proofs.Crossing.{state-send}
use Rattle.shared_turns.proofs.turns.Turns.TheSendSync as turns
use Rattle.shared_flushes.specs.contracts.state.SharedState as Shared

pub shared-send : IsSend Shared.the_row
shared-send = declared_send Shared.the_type (search (sendable, crosses, turns.the_send, state-send) depth 30 fits 4000, tt)

pub shared-sync : IsSync Shared.the_row
shared-sync = declared_sync Shared.the_type (search (sendable, crosses, turns.the_sync, state-send) depth 30 fits 4000, tt)
