use Rattle.std.proofs.Common.{ap, ◌∙◌}
use Rattle.std.specs.Map.{values_of}
use Rattle.indexmap.proofs.SetLemmas.{map-remove}
use Rattle.metrics_registry.proofs.NumberedKeys.{numbered_removed}
use Rattle.metrics_registry.proofs.numbered_keys.NumberedKeys.remove.Goals as goal

pub invariant_of-self : goal.invariant_of-self
invariant_of-self c = record {
  numbered = numbered_removed c.self.inside.start c.self.inside.numbers c.forget.new.numbers c.in-Some.key c.in-Some.field-0-0 c.args.place c.self.inside.keys.entries c.shift_remove_index.new.self.entries
      c.self.invariant.numbered c.in-Some.ensures.entry c.in-Some.ensures.entries c.in-Some.ensures.updates.1 c.forget.ensures;
}

pub returns-in-Some : goal.returns-in-Some
returns-in-Some c = rw (← c.self.view_is) (ap values_of c.in-Some.ensures.entries ∙ map-remove (λ e. e.1) c.self.inside.keys.entries c.args.place)
