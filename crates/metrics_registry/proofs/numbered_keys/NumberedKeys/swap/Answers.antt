use Rattle.std.proofs.Common.{ap, ◌∙◌}
use Rattle.std.specs.Map.{values_of}
use Rattle.indexmap.proofs.ReorderLemmas.{map-swap}
use Rattle.metrics_registry.specs.NumberedKeys.{number_of}
use Rattle.metrics_registry.proofs.NumberedKeys.{numbered_swap}
use Rattle.metrics_registry.proofs.numbered_keys.NumberedKeys.swap.Goals as goal

pub invariant_of-self : goal.invariant_of-self
invariant_of-self c =
    record { numbered = rw c.swap_indices.ensures.entries (numbered_swap (number_of c.self.inside.start c.self.inside.numbers) c.self.inside.keys.entries c.args.first c.args.second c.self.invariant.numbered) }

pub returns : goal.returns
returns c = rw (← c.self.view_is) (ap values_of c.swap_indices.ensures.entries ∙ map-swap (λ e. e.1) c.self.inside.keys.entries c.args.first c.args.second)
