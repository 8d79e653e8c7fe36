use Rattle.std.proofs.Common.{sym, ap, ◌∙◌, map, nat_lt}
use Rattle.std.specs.Arc.{arc_value}
use Rattle.std.specs.List.{list_any}
use Rattle.value_bags.specs.Entries.{with_keys}
use Rattle.value_bags.specs.Bags.{counted_times}
use Rattle.value_bags.proofs.Counted.{keys-with_keys, list_any-counted}
use Rattle.value_bags.proofs.counts.Counts.contains.Goals as goal

pub loop-other-init : goal.loop-other-init
loop-other-init g c =
    let eq = g.V.PartialEq.eq in
    let v = c.args.value.now in
    let es = c.self.inside.counts.entries in
    ap (λ l. list_any (eq v) (map arc_value l)) (c.into_iter-other-iterator.ensures.into_iter_gives ∙ c.keys-other-items.ensures.rest)
    ∙ ap (list_any (eq v)) (sym (keys-with_keys arc_value es)) ∙ list_any-counted eq (with_keys arc_value es) v c.self.invariant.1 ∙ ap (λ l. nat_lt 0 (counted_times eq l v)) c.self.view_is
