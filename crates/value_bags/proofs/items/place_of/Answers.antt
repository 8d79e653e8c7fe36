use Rattle.std.proofs.Common.{rules}
use Rattle.std.specs.Arc.{arc_value}
use Rattle.std.proofs.lemmas.Iterator.{YieldsList-from_slice}
use Rattle.std.proofs.lemmas.Iterator.Search.{position_from_yields_List}
use Rattle.value_bags.proofs.items.place_of.Goals as goal

pub returns : goal.returns
returns g c = position_from_yields_List (λ item. g.V.PartialEq.eq c.args.value.now (arc_value item)) _ _ _ c.position.ensures.ran (YieldsList-from_slice c.args.items.now c.iter.ensures.rest) (λ x b q k. search rules)
