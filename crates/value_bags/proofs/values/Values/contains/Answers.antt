use Rattle.std.proofs.Common.{nat_lt, sym, ap, ◌∙◌, map}
use Rattle.std.specs.Arc.{arc_value}
use Rattle.std.specs.List.{list_any}
use Rattle.value_bags.specs.Bags.{times}
use Rattle.value_bags.specs.Stored.{bag_of}
use Rattle.value_bags.proofs.Counted.{says_less, list_any-count}
use Rattle.value_bags.proofs.Listed.{list_any-seen}
use Rattle.value_bags.proofs.values.Values.contains.Goals as goal

pub returns-in-Short : goal.returns-in-Short
returns-in-Short g c =
    let eq = g.V.PartialEq.eq in
    let v = c.args.value.now in
    let xs = c.in-Short.items.items in
    says_less c.is_among.result 0 (times eq c.args.self.now v)
    (c.is_among.ensures ∙ ap (list_any (λ item. eq v (arc_value item))) c.deref.ensures.value ∙ list_any-seen arc_value (eq v) xs ∙ list_any-count eq (map arc_value xs) v ∙ ap (λ b. nat_lt 0 (times eq b v)) (ap bag_of (sym c.in-Short.is) ∙ c.self.view_is))

pub returns-in-Long : goal.returns-in-Long
returns-in-Long g c =
    let eq = g.V.PartialEq.eq in
    let v = c.args.value.now in
    says_less c.contains.result 0 (times eq c.args.self.now v) (c.contains.ensures ∙ ap (λ b. nat_lt 0 (times eq b v)) (ap bag_of (sym c.in-Long.is) ∙ c.self.view_is))
