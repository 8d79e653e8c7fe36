use Rattle.std.proofs.Common.{◌≡◌, ◌++◌, take, map}
use Rattle.std.specs.Prelude.{flat_map}
use Rattle.prom_format.specs.Pages.{row_text}
use Rattle.page_relay.specs.Values.{row_of}
use Rattle.page_relay.proofs.writer.push_block.Given as goal

abbrev pub invariant-loop-row : goal.invariant-loop-row
invariant-loop-row l = l.text.items ≡ l.initial.text.items ++ flat_map row_text (map row_of (take l.row-index l.row-items))
