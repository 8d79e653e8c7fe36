use Rattle.std.proofs.Common.{sym, ap, ◌∙◌}
use Rattle.left_right.specs.Sides.{view}
use Rattle.std.specs.Option.{option_map}
use Rattle.evmap_contents.specs.Fold.{after}
use Rattle.evmap_core.proofs.Fronts.{stays}
use Rattle.evmap_core.proofs.reader.ReadHandle.look.Goals as goal

pub enter_as-requires : goal.enter_as-requires
enter_as-requires g c x = stays g.K.KeyClone.plain (after g.K.KeyClone.same g.V.PartialEq.eq g.P.Keep.keeps) _ _ x

pub returns-in-Ok : goal.returns-in-Ok
returns-in-Ok g c = (view c.in-Some.reader.place, ap (option_map (λ r. view r.place)) (sym c.take.ensures.value ∙ c.in-Some.is), c.in-Ok.ensures.1)
