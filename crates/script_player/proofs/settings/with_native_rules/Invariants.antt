use Rattle.std.proofs.Common.{◌≡◌, ◌++◌, map}
use Rattle.std.specs.Vec.Iter.{into_iter_items}
use Rattle.script_player.specs.Told.{native_told}
use Rattle.script_player.proofs.settings.with_native_rules.Given as goal

abbrev pub invariant-loop-matcher : goal.invariant-loop-matcher
invariant-loop-matcher l =
    record l.builder { settings = record l.builder.settings { native_for = l.builder.settings.native_for ++ map native_told (into_iter_items l.matcher-iterator) } }
    ≡ record l.fn.builder { settings = record l.fn.builder.settings { native_for = l.fn.builder.settings.native_for ++ map native_told l.fn.rules.items } }
