use Rattle.std.proofs.Common.{◌≡◌, fold, map, reverse, vec_len}
use Rattle.drive_script.specs.Texts.{setup_of}
use Rattle.script_player.specs.Play.{setup_step}
use Rattle.script_player.specs.Player.{rows_state}
use Rattle.script_player.specs.Resting.{AllRest}
use Rattle.script_player.proofs.set_up.set_up_rows.Given as goal

abbrev pub invariant-loop-line : goal.invariant-loop-line
invariant-loop-line g l = record {
  settings : l.pages.settings ≡ l.initial.pages.settings;
  rest : AllRest l.initial.pages → AllRest l.pages;
  stepped : fold setup_step (rows_state l.pages l.handles.items) (map setup_of (reverse l.setup.items))
      ≡ fold setup_step (rows_state l.initial.pages l.initial.handles.items) (map setup_of l.fn.setup.items);
}

abbrev pub decreases-loop-line : goal.decreases-loop-line
decreases-loop-line g l = vec_len l.setup
