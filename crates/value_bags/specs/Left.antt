-- What is left of the values of a bag.
use Rattle.std.specs.Prelude.{List, map}
use Rattle.std.specs.Arc.{arc_value}
use Rattle.value_bags.specs.declared.listing.Rest.{Rest}
use Rattle.value_bags.specs.declared.listing.Rest.TheVariants.{Short, Long}

abbrev pub values_left : {V : Type 0} → Rest V → List V
values_left (Short items) = map arc_value items.now
values_left (Long repeats) = repeats
