use Rattle.std.proofs.Common.{subst}
use Rattle.std.specs.Arc.{arc_value}
use Rattle.value_bags.specs.Bags.{IsProper}
use Rattle.value_bags.proofs.Counted.{distinct-with_keys}
use Rattle.value_bags.proofs.counts.Counts.len.Goals as goal

pub returns-clause-proper : goal.returns-clause-proper
returns-clause-proper g c = subst (IsProper g.V.PartialEq.eq) c.self.view_is (c.self.invariant.1, distinct-with_keys g.V.PartialEq.eq arc_value c.self.inside.counts.entries c.len-distinct.ensures.unique)
