use Rattle.left_right.specs.Sides.{view}
use Rattle.std.proofs.Common.{sym, ap, ◌∙◌}
use Rattle.evmap_contents.specs.Fold.{after}
use Rattle.evmap_core.proofs.Readings.{unread-early}
use Rattle.evmap_core.proofs.reader.ReadHandle.begin.Goals as goal

pub returns-else-ready : goal.returns-else-ready
returns-else-ready g c =
    unread-early g.K.KeyClone.plain (after g.K.KeyClone.same g.V.PartialEq.eq g.P.Keep.keeps) _ _ c.in-Some.reading.part.value (view c.in-Some.reading.place) c.in-Some.ensures c.leave.ensures
    (sym (ap (λ s. s.inner.ready) c.get.ensures) ∙ c.if-ready.false)
