use Rattle.std.proofs.Common.{◌≡◌, ◌≤◌, map, take, length}
use Rattle.std.specs.Prelude.{string_bytes}
use Rattle.page_relay.specs.Values.{label_of}
use Rattle.rule_eval.specs.FiringText.{labels_of}
use Rattle.rule_eval.proofs.writer.labels_of.Given as goal

abbrev pub invariant-loop-place : goal.invariant-loop-place
invariant-loop-place l = (map label_of l.labels.items ≡ labels_of (map string_bytes (take l.place l.keys)) (map string_bytes l.values)) × (l.place ≤ length l.values)
