use Rattle.std.proofs.Common.{rules, ◌<◌, sym, ap, ◌∙◌, subst, arith, filter}
use Rattle.std.specs.Arc.{arc_value}
use Rattle.std.specs.List.{All}
use Rattle.std.proofs.lemmas.Map.Made.{filter_same_pairs}
use Rattle.std.proofs.lemmas.List.Elements.{All-filter}
use Rattle.value_bags.specs.Entries.{with_keys}
use Rattle.value_bags.specs.Bags.{total}
use Rattle.value_bags.proofs.Counted.{filter-with_keys, total-filter, total-with_keys}
use Rattle.value_bags.proofs.counts.Counts.retain.Goals as goal

pub total_of-self-inside-requires : goal.total_of-self-inside-requires
total_of-self-inside-requires g c =
    let keeps = g.P.Keep.keeps c.args.test.now in
    let es = c.self.inside.counts.entries in
    let kept = ap (with_keys arc_value) (filter_same_pairs _ (λ e. keeps (arc_value e.0)) _ (λ k v b w f t. search rules) es c.retain.new.self.entries c.retain.ensures.filtered) ∙ filter-with_keys arc_value keeps es in
    let fewer = total-filter keeps (with_keys arc_value es) in
    let all = ap total kept in
    let same = total-with_keys arc_value c.retain.new.self.entries in
    let was = c.self.invariant.0 in
    omega arith

pub invariant_of-self : goal.invariant_of-self
invariant_of-self g c =
    let keeps = g.P.Keep.keeps c.args.test.now in
    let es = c.self.inside.counts.entries in
    let kept = ap (with_keys arc_value) (filter_same_pairs _ (λ e. keeps (arc_value e.0)) _ (λ k v b w f t. search rules) es c.retain.new.self.entries c.retain.ensures.filtered) ∙ filter-with_keys arc_value keeps es in
    (c.total_of-self-inside.ensures ∙ sym (total-with_keys arc_value c.retain.new.self.entries), subst (All (λ x. 0 < x.1)) (sym kept) (All-filter (λ x. keeps x.0) (λ x. 0 < x.1) (with_keys arc_value es) c.self.invariant.1))

pub returns : goal.returns
returns g c =
    let keeps = g.P.Keep.keeps c.args.test.now in
    let es = c.self.inside.counts.entries in
    ap (with_keys arc_value) (filter_same_pairs _ (λ e. keeps (arc_value e.0)) _ (λ k v b w f t. search rules) es c.retain.new.self.entries c.retain.ensures.filtered) ∙ filter-with_keys arc_value keeps es
    ∙ ap (filter (λ x. keeps x.0)) c.self.view_is
