use Rattle.std.proofs.Common.{◌≡◌, ◌<◌, ℕ, length}
use mathlib.Core.Option.{some}
use lib.ListN.{get_elem?}
use Rattle.cell_lanes.specs.Lines.{LaneText}
use Rattle.cell_lanes.specs.Lanes.{done_of}
use Rattle.cell_lanes.proofs.round.all_done.Given as goal

abbrev pub invariant-loop-l : goal.invariant-loop-l
invariant-loop-l g l = (i : ℕ) (x : LaneText _) → i < l.l → get_elem? l.lanes i ≡ some x → done_of l.jobs i ≡ length x.lines
