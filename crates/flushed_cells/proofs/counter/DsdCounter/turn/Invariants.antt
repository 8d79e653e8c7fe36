use Rattle.std.proofs.Common.{◌≡◌}
use Rattle.crossbeam_utils.specs.Seq.{cell_view}
use Rattle.flushed_cells.specs.Counters.{answered}
use Rattle.flushed_cells.proofs.counter.DsdCounter.turn.Given as goal

abbrev pub ghosts-exchange : goal.ghosts-exchange
ghosts-exchange g a = record { call = answered a.change a.old; expected = a.old }

abbrev pub invariant-loop : goal.invariant-loop
invariant-loop g l = record { cell : l.seat.table_id ≡ l.initial.seat.table_id; view : cell_view l.seat ≡ cell_view l.initial.seat }
