use Rattle.std.proofs.Common.{ap, ◌∙◌, is_some, refl, inr}
use Rattle.std.specs.Map.{lookup}
use Rattle.left_right.specs.Sides.{view}
use Rattle.evmap_contents.specs.Fold.{after}
use Rattle.evmap_contents.specs.Views.{contents}
use Rattle.evmap_core.proofs.Readings.{answered}
use Rattle.evmap_core.proofs.reader.ReadHandle.contains_key.Goals as goal

pub returns-in-Some : goal.returns-in-Some
returns-in-Some g c =
    answered g.K.KeyClone.plain (after g.K.KeyClone.same g.V.PartialEq.eq g.P.Keep.keeps) _ _ _ _ c.in-Some.reading.part.value (view c.in-Some.reading.place) c.in-Some.ensures.0 c.in-Some.ensures.1 c.leave.ensures
    (c.contains_key-found.ensures ∙ ap (λ s. is_some (lookup (g.K.KeyClone.same (g.K.KeyClone.plain c.args.key.now)) (contents g.K.KeyClone.plain s.inner).entries)) c.get.ensures)

pub returns-in-None : goal.returns-in-None
returns-in-None g c = inr (c.in-None.ensures, refl)
