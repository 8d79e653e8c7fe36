use Rattle.std.proofs.Common.{◌≡◌, ◌≤◌, [], length}
use Rattle.std.specs.Prelude.{All}
use Rattle.script_player.specs.declared.lanes.LaneSeries.{LaneSeries}
use Rattle.script_player.specs.LaneCalls.{lane_cells, lane_its}
use Rattle.script_player.proofs.lanes.empty_series.Given as goal

abbrev pub invariant-loop : goal.invariant-loop
invariant-loop l = record {
  many : length l.all.items ≡ l.counter;
  most : l.counter ≤ l.lanes;
  empty : All (λ (series : LaneSeries). (lane_cells series ≡ []) × (lane_its series ≡ [])) l.all.items;
}
