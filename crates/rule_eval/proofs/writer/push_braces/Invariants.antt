use Rattle.std.proofs.Common.{◌≡◌, ◌++◌, take, map}
use Rattle.page_relay.specs.Values.{label_of}
use Rattle.page_relay.proofs.Writing.{opened, mark}
use Rattle.rule_eval.proofs.writer.push_braces.Given as goal

abbrev pub invariant-loop-label : goal.invariant-loop-label
invariant-loop-label l = (l.text.items ≡ l.fn.text.items ++ opened (map label_of (take l.label-index l.fn.labels))) × (l.before ≡ mark (map label_of (take l.label-index l.fn.labels)))
