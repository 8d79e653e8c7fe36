use Rattle.std.specs.List.{AllZip}
use Rattle.script_player.specs.Copies.{IsMade}
use Rattle.script_player.proofs.set_up.all_made.Given as goal

abbrev pub invariant-loop-part : goal.invariant-loop-part
invariant-loop-part l = AllZip IsMade l.yielded l.made.items
