use Rattle.std.proofs.Common.{◌≡◌, ◌+◌, ◌<◌, ℕ, slice_index_or}
use mathlib.Core.Path.{refl, subst, ◌∙◌}
use native.Mathlib.Omega.{arith}
use Rattle.std.proofs.lemmas.List.{get_or_default}
use Rattle.std.specs.Fork.{AcceptsAt, ChangesAt}
use Rattle.side_by_side.proofs.Places.{in_turn, at_places}
use Rattle.side_by_side.proofs.each.for_each_beside.Goals as goal

pub call_from-requires-clause-accepts : goal.call_from-requires-clause-accepts
call_from-requires-clause-accepts g c κs within =
    in_turn (AcceptsAt g.F.Fn c.args.f.now) 0 c.args.items.now (λ k d less p is.
    subst (λ n. g.F.Fn.pre c.args.f.now (n, (p, tt))) (omega arith) (c.requires.accepts k p less (is ∙ get_or_default c.args.items.now k d p.now less)))

pub returns : goal.returns
returns g c i d less = (
  refl,
  subst (λ n. ChangesAt g.F.Fn c.args.f.now n (slice_index_or c.args.items.now i d) (slice_index_or c.call_from.new.items i d)) (omega arith)
      (at_places (ChangesAt g.F.Fn c.args.f.now) 0 c.args.items.now c.call_from.new.items c.call_from.ensures i d less),
)
