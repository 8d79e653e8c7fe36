use Rattle.std.proofs.Common.{map, take, true}
use Rattle.page_relay.specs.Gathering.{TakesRows}
use Rattle.page_relay.specs.Merge.{numbered_rows}
use Rattle.page_relay.specs.Values.{row_of}
use Rattle.page_relay.proofs.gathering.GatheredRows.add_all.Given as goal

abbrev pub invariant-loop-row : goal.invariant-loop-row
invariant-loop-row l = TakesRows l.shape l.fn.self l.self (numbered_rows l.page (map row_of (take l.row-index l.rows))) true
