use Rattle.std.proofs.Common.{rules}
use Rattle.evmap_contents.specs.Fold.{after}
use Rattle.evmap_core.proofs.Fronts.{admits, forks, merges}
use Rattle.evmap_core.proofs.writer.WriteHandle.tell_reader.Goals as goal

pub reader-requires : goal.reader-requires
reader-requires g c = admits g.K.KeyClone.plain (after g.K.KeyClone.same g.V.PartialEq.eq g.P.Keep.keeps)

pub tell-requires : goal.tell-requires
tell-requires g c = forks g.K.KeyClone.plain (after g.K.KeyClone.same g.V.PartialEq.eq g.P.Keep.keeps) _ _

pub learn-requires : goal.learn-requires
learn-requires g c = record { own = search rules; rule = merges g.K.KeyClone.plain (after g.K.KeyClone.same g.V.PartialEq.eq g.P.Keep.keeps) _ _ _ _ }
