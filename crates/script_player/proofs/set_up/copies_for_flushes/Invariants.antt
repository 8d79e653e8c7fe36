use Rattle.std.proofs.Common.{◌≡◌, fold, map, take}
use Rattle.drive_script.specs.Texts.{setup_of}
use Rattle.script_player.specs.Flushes.{FlushPlay, register_step}
use Rattle.script_player.proofs.set_up.copies_for_flushes.Given as goal

abbrev pub invariant-loop-line : goal.invariant-loop-line
invariant-loop-line l = (p : FlushPlay) → fold register_step p (map setup_of l.copies.items) ≡ fold register_step p (map setup_of (take l.line-index l.setup))
