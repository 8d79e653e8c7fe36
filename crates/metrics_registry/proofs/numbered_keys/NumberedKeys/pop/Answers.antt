use Rattle.metrics_registry.proofs.NumberedKeys.{numbered_popped}
use Rattle.metrics_registry.proofs.numbered_keys.NumberedKeys.pop.Goals as goal

pub invariant_of-self : goal.invariant_of-self
invariant_of-self c = record {
  numbered = numbered_popped c.self.inside.start c.self.inside.numbers c.forget.new.numbers c.in-Some.key c.in-Some.field-0-0 c.self.inside.keys.entries c.pop.new.self.entries c.self.invariant.numbered c.in-Some.ensures.entries
      c.in-Some.ensures.updates.1 c.forget.ensures;
}
