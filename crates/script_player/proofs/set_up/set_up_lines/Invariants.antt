use Rattle.std.proofs.Common.{◌≡◌, Bool, List, fold, map}
use Rattle.std.specs.Vec.Iter.{drain_items}
use Rattle.drive_script.specs.Texts.{setup_of}
use Rattle.dsd_exporter.specs.Resting.{AllRest}
use Rattle.script_player.specs.Copies.{in_parts}
use Rattle.script_player.specs.Flushes.{register_step}
use Rattle.script_player.specs.Player.{lines_state}
use Rattle.script_player.proofs.set_up.set_up_lines.Given as goal

abbrev pub invariant-loop-part : goal.invariant-loop-part
invariant-loop-part g l = record {
  settings : l.lines.settings ≡ l.initial.lines.settings;
  rest : AllRest l.initial.lines → AllRest l.lines;
  registered : (marks : List Bool) → fold register_step (lines_state marks l.lines l.handles.items) (map setup_of (in_parts (drain_items l.part-iterator)))
      ≡ fold register_step (lines_state marks l.initial.lines l.initial.handles.items) (map setup_of (in_parts (drain_items l.initial.part-iterator)));
}
