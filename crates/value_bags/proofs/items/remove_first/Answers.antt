use Rattle.std.proofs.Common.{sym, ap, ◌∙◌, map, position}
use Rattle.std.specs.Arc.{arc_value}
use Rattle.value_bags.proofs.Listed.{without_first-found, without_first-missing}
use Rattle.value_bags.proofs.items.remove_first.Goals as goal

pub returns-in-Some : goal.returns-in-Some
returns-in-Some g c =
    let eq = g.V.PartialEq.eq in
    let v = arc_value c.args.value.now in
    ap (map arc_value) c.remove.ensures.items
    ∙ without_first-found arc_value (eq v) c.args.items.now.items c.in-Some.place (ap (λ w. position (λ item. eq w (arc_value item)) c.args.items.now.items) (sym c.deref-2.ensures) ∙ ap (position (λ item. eq c.deref-2.result.now (arc_value item))) (sym c.deref.ensures.value) ∙ sym c.place_of.ensures ∙ c.in-Some.is)

pub returns-in_default : goal.returns-in_default
returns-in_default g c =
    let eq = g.V.PartialEq.eq in
    let v = arc_value c.args.value.now in
    sym (without_first-missing arc_value (eq v) c.args.items.now.items (ap (λ w. position (λ item. eq w (arc_value item)) c.args.items.now.items) (sym c.deref-2.ensures) ∙ ap (position (λ item. eq c.deref-2.result.now (arc_value item))) (sym c.deref.ensures.value) ∙ sym c.place_of.ensures ∙ c.in_default.is))
