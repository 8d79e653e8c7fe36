use Rattle.std.proofs.Common.{◌≡◌, drop, map}
use Rattle.rule_eval.specs.Firing.{value_at}
use Rattle.page_relay.specs.Values.{label_of}
use Rattle.rule_eval.proofs.groups.value_at.Given as goal

-- the labels that are left tell as much as all
abbrev pub invariant-loop-label : goal.invariant-loop-label
invariant-loop-label l = value_at l.key (map label_of (drop l.label-index l.labels)) ≡ value_at l.key (map label_of l.labels)
