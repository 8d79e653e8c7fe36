use Rattle.std.proofs.Common.{ap, ◌∙◌}
use Rattle.left_right.specs.Sides.{view}
use Rattle.evmap_contents.specs.Fold.{after}
use Rattle.evmap_core.proofs.Answering.{answered_same}
use Rattle.evmap_core.proofs.Readings.{answered}
use Rattle.evmap_core.proofs.reader.ReadHandle.map_into.Goals as goal

pub returns-in-Ok : goal.returns-in-Ok
returns-in-Ok g c =
    answered g.K.KeyClone.plain (after g.K.KeyClone.same g.V.PartialEq.eq g.P.Keep.keeps) _ _ _ _ c.in-Some.reading.part.value (view c.in-Some.reading.place) c.in-Some.ensures.0 c.in-Some.ensures.1 c.leave.ensures
    (answered_same g.K.KeyClone.plain _ g.F.FnMut c.args.f _ _ c.in-Ok.answers.items (c.iter.ensures.rest ∙ ap (λ s. s.inner.map.entries) c.get.ensures) c.in-Ok.ensures)

pub returns-in-Err : goal.returns-in-Err
returns-in-Err g c =
    answered g.K.KeyClone.plain (after g.K.KeyClone.same g.V.PartialEq.eq g.P.Keep.keeps) _ _ _ _ c.in-Some.reading.part.value (view c.in-Some.reading.place) c.in-Some.ensures.0 c.in-Some.ensures.1 c.leave.ensures tt
