use Rattle.std.proofs.Common.{◌++◌, take, flat_map}
use Rattle.std.specs.Prelude.{codes}
use Rattle.std.specs.Fmt.{HasWritten, IsPlainFormatter}
use Rattle.metrics_core.specs.Keys.{label_text}
use Rattle.metrics_core.proofs.printed_keys.write_behind.Given as goal

abbrev pub invariant-loop-label : goal.invariant-loop-label
invariant-loop-label g l =
    IsPlainFormatter l.initial.f → HasWritten g.W.Write.write_str_gives l.initial.f (flat_map (λ label. codes ", " ++ label_text label) (take l.label-index l.labels)) l.f
