use Rattle.std.proofs.Common.{sym, ap, ◌∙◌, ◌++◌, map}
use Rattle.std.specs.Arc.{arc_value}
use Rattle.std.specs.Map.{keys_of}
use Rattle.value_bags.proofs.Counted.{keys-with_keys}
use Rattle.value_bags.proofs.counts.Counts.distinct.Goals as goal

pub loop-value-init : goal.loop-value-init
loop-value-init g c =
    ap (λ l. map arc_value l ++ map arc_value c.into_iter-value-iterator.result) c.new-values.ensures.items
    ∙ ap (map arc_value) (c.into_iter-value-iterator.ensures.into_iter_gives ∙ c.keys-value-items.ensures.rest)
    ∙ sym (keys-with_keys arc_value c.self.inside.counts.entries) ∙ ap keys_of c.self.view_is
