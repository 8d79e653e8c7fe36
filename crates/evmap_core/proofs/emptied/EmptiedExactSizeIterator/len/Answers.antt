use Rattle.std.proofs.Common.{sym}
use Rattle.evmap_core.proofs.Samples.{entries_at-len}
use Rattle.evmap_core.proofs.emptied.EmptiedExactSizeIterator.len.Goals as goal

pub returns-clause-value : goal.returns-clause-value
returns-clause-value g c = sym (entries_at-len c.args.self.now.map.now.entries c.args.self.now.places.now c.args.self.now.within)
