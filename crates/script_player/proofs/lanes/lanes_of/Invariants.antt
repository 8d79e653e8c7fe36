use Rattle.std.proofs.Common.{length, vec_len}
use Rattle.script_player.specs.LaneCalls.{ids_of}
use Rattle.script_player.specs.LaneTables.{AllNamed}
use Rattle.script_player.proofs.LaneTables.{AreFrom}
use Rattle.script_player.proofs.lanes.lanes_of.Given as goal

-- the lanes behind those that are left are made
abbrev pub invariant-loop-series : goal.invariant-loop-series
invariant-loop-series l = record {
  named : AllNamed (ids_of l.exporters) l.handles l.line_handles l.calls l.all.items;
  made : AreFrom l.exporters l.handles l.line_handles l.moment l.calls (length l.all.items) l.lanes.items;
}

abbrev pub decreases-loop-series : goal.decreases-loop-series
decreases-loop-series l = vec_len l.all
