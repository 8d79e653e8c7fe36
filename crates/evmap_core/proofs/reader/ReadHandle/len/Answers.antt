use Rattle.std.proofs.Common.{ap, ◌∙◌, length, refl, inr}
use Rattle.left_right.specs.Sides.{view}
use Rattle.evmap_contents.specs.Fold.{after}
use Rattle.evmap_contents.specs.Views.{contents}
use Rattle.evmap_core.proofs.Readings.{answered}
use Rattle.evmap_core.proofs.reader.ReadHandle.len.Goals as goal

pub returns-in-Some : goal.returns-in-Some
returns-in-Some g c =
    answered g.K.KeyClone.plain (after g.K.KeyClone.same g.V.PartialEq.eq g.P.Keep.keeps) _ _ _ _ c.in-Some.reading.part.value (view c.in-Some.reading.place) c.in-Some.ensures.0 c.in-Some.ensures.1 c.leave.ensures
    (c.len-count.ensures ∙ ap (λ s. length (contents g.K.KeyClone.plain s.inner).entries) c.get.ensures)

pub returns-in-None : goal.returns-in-None
returns-in-None g c = inr (c.in-None.ensures, refl)
