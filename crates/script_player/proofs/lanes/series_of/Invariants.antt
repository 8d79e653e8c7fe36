use Rattle.std.proofs.Common.{◌≡◌, length, take}
use Rattle.script_player.specs.LaneCalls.{ids_of}
use Rattle.script_player.specs.LaneTables.{AllNamed}
use Rattle.script_player.proofs.lanes.series_of.Given as goal

-- the series of the calls so far are named
abbrev pub invariant-loop-line : goal.invariant-loop-line
invariant-loop-line l = record {
  many : length l.all.items ≡ length l.initial.all.items;
  named : AllNamed (ids_of l.exporters) l.handles l.line_handles (take l.line-index l.calls) l.all.items;
}
