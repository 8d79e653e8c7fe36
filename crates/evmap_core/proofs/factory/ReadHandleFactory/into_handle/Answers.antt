use Rattle.evmap_contents.specs.Fold.{after}
use Rattle.evmap_core.proofs.Fronts.{admits}
use Rattle.evmap_core.proofs.factory.ReadHandleFactory.into_handle.Goals as goal

pub reader-requires : goal.reader-requires
reader-requires g c = admits g.K.KeyClone.plain (after g.K.KeyClone.same g.V.PartialEq.eq g.P.Keep.keeps)
