use Rattle.std.proofs.Common.{map, rules}
use Rattle.std.specs.Prelude.{IsUtf8}
use Rattle.page_relay.specs.Values.{family_of}
use Rattle.page_relay.proofs.Readers.{between_given}
use Rattle.page_relay.proofs.progress.PagesSoFar.take_line.Goals as goal

pub returns-in-Between : goal.returns-in-Between
returns-in-Between c =
    let utf8 : IsUtf8 c.args.line.now = search rules in
    rw c.in-Between.is (λ sound. between_given _ (map family_of c.args.self.families.items) c.args.line.now c.begin_block.result (c.begin_block.ensures utf8 sound))
