use Rattle.std.proofs.Common.{◌≡◌, fold}
use Rattle.std.specs.Vec.Iter.{into_iter_items}
use Rattle.metrics_core.specs.Keys.{put_label}
use Rattle.prom_format.specs.LabelSets.{labels_of}
use Rattle.script_player.proofs.settings.with_globals.Given as goal

abbrev pub invariant-loop-key : goal.invariant-loop-key
invariant-loop-key l =
    record l.builder { settings = record l.builder.settings { globals = fold put_label l.builder.settings.globals (labels_of (into_iter_items l.key-iterator)) } }
    ≡ record l.fn.builder { settings = record l.fn.builder.settings { globals = fold put_label l.fn.builder.settings.globals (labels_of l.fn.globals.items) } }
