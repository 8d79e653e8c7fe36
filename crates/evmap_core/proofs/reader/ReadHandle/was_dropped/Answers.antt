use Rattle.std.proofs.Common.{refl, inl}
use Rattle.left_right.specs.Sides.{view}
use Rattle.evmap_contents.specs.Fold.{after}
use Rattle.evmap_contents.specs.Views.{contents}
use Rattle.evmap_core.proofs.Readings.{reads}
use Rattle.evmap_core.proofs.reader.ReadHandle.was_dropped.Goals as goal

pub returns-in-Some : goal.returns-in-Some
returns-in-Some g c =
    let x = c.in-Some.reading.part.value in
    let w = view c.in-Some.reading.place in
    inl ((c.in-Some.ensures.0, w, contents g.K.KeyClone.plain x.inner, c.in-Some.ensures.1, c.leave.ensures, reads g.K.KeyClone.plain (after g.K.KeyClone.same g.V.PartialEq.eq g.P.Keep.keeps) c.in-Some.ensures.0 x w c.in-Some.ensures.2), refl)
