use Rattle.std.proofs.Common.{◌≡◌}
use Rattle.shared_tests.proofs.turns.add.Given as goal

abbrev pub invariant-loop : goal.invariant-loop
invariant-loop g l = record { table : l.pass.seat.table_id ≡ l.initial.pass.seat.table_id; number : l.pass.seat.me.0.history.number ≡ l.initial.pass.seat.me.0.history.number }
