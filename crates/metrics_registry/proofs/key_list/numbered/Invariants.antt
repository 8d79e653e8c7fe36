use Rattle.std.proofs.Common.{◌≡◌, take}
use Rattle.metrics_registry.proofs.key_list.numbered.Given as goal

-- the keys so far stand in the list
abbrev pub invariant-loop-key : goal.invariant-loop-key
invariant-loop-key l = l.list.keys ≡ take l.key-index l.keys
