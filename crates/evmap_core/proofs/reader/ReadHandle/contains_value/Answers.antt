use Rattle.std.proofs.Common.{◌<◌, ◌↔◌, IsTrue, subst, refl, inr}
use Rattle.std.specs.Map.{lookup}
use Rattle.left_right.specs.Sides.{view}
use Rattle.evmap_contents.specs.Fold.{after}
use Rattle.evmap_contents.specs.Views.{contents}
use Rattle.evmap_core.specs.Asked.{times_at}
use Rattle.evmap_core.proofs.Readings.{answered}
use Rattle.evmap_core.proofs.reader.ReadHandle.contains_value.Goals as goal

pub returns-in-Some : goal.returns-in-Some
returns-in-Some g c =
    answered g.K.KeyClone.plain (after g.K.KeyClone.same g.V.PartialEq.eq g.P.Keep.keeps) _ _ _ _ c.in-Some.reading.part.value (view c.in-Some.reading.place) c.in-Some.ensures.0 c.in-Some.ensures.1 c.leave.ensures
    (subst (λ s. IsTrue c.contains_value-found.result ↔ (0 < times_at g.V.PartialEq.eq (lookup (g.K.KeyClone.same (g.K.KeyClone.plain c.args.key.now)) (contents g.K.KeyClone.plain s.inner).entries) c.args.value.now)) c.get.ensures c.contains_value-found.ensures)

pub returns-in-None : goal.returns-in-None
returns-in-None g c = inr (c.in-None.ensures, refl)
