-- How a bag is stored.
use Rattle.std.specs.Prelude.{map}
use Rattle.std.specs.Arc.{arc_value}
use Rattle.value_bags.specs.declared.bag.BagForm.{BagForm}
use Rattle.value_bags.specs.declared.bag.BagForm.TheVariants.{Short, Long}
use Rattle.value_bags.specs.declared.values.Form.{Form}
use Rattle.value_bags.specs.declared.values.Form.TheVariants as form

-- the bag that is stored so
abbrev pub bag_of : {V : Type 0} → Form V → BagForm V
bag_of (form.Short items) = Short (map arc_value items.items)
bag_of (form.Long counts) = Long counts
