use Rattle.page_relay.proofs.MergedPages.{merged_stands}
use Rattle.page_relay.proofs.laws.merged_pages_stand.Goals as goal

pub returns : goal.returns
returns c = merged_stands
