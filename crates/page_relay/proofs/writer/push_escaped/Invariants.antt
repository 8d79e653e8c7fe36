use Rattle.std.proofs.Common.{◌≡◌, ◌++◌, take}
use Rattle.page_relay.specs.Reading.{escaped}
use Rattle.page_relay.proofs.writer.push_escaped.Given as goal

abbrev pub invariant-loop-byte : goal.invariant-loop-byte
invariant-loop-byte l = l.text.items ≡ l.fn.text.items ++ escaped l.in_label (take l.byte-index l.byte-items)
