use Rattle.page_relay.proofs.MergedPages.{conflict_refuses, one_conflict}
use Rattle.page_relay.proofs.laws.conflicts_refuse.Goals as goal

pub returns : goal.returns
returns c = record { no_merge = conflict_refuses; same = one_conflict }
