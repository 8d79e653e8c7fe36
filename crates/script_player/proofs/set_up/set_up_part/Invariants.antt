use Rattle.std.proofs.Common.{◌≡◌, Bool, List, fold, map, reverse, vec_len}
use Rattle.drive_script.specs.Texts.{setup_of}
use Rattle.dsd_exporter.specs.Resting.{AllRest}
use Rattle.script_player.specs.Flushes.{register_step}
use Rattle.script_player.specs.Player.{lines_state}
use Rattle.script_player.proofs.set_up.set_up_part.Given as goal

abbrev pub invariant-loop-line : goal.invariant-loop-line
invariant-loop-line l = record {
  settings : l.lines.settings ≡ l.initial.lines.settings;
  rest : AllRest l.initial.lines → AllRest l.lines;
  registered : (marks : List Bool) → fold register_step (lines_state marks l.lines l.handles.items) (map setup_of (reverse l.setup.items))
      ≡ fold register_step (lines_state marks l.initial.lines l.initial.handles.items) (map setup_of l.fn.setup.items);
}

abbrev pub decreases-loop-line : goal.decreases-loop-line
decreases-loop-line l = vec_len l.setup
