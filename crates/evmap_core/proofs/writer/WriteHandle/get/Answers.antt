use Rattle.std.proofs.Common.{ap, ◌∙◌}
use Rattle.std.proofs.Math.Logic.{∥∥₁_elim}
use base.Stored.{Coded-set}
use Rattle.std.specs.Map.{lookup}
use Rattle.evmap_contents.specs.contracts.write.Contents.{the_row}
use Rattle.evmap_contents.specs.Views.{contents}
use Rattle.evmap_core.proofs.writer.WriteHandle.get.Goals as goal

pub returns : goal.returns
returns g c = c.get.ensures ∙ ap (λ s. let z = contents g.K.KeyClone.plain s.inner in lookup (g.K.KeyClone.same (g.K.KeyClone.plain c.args.key.now)) z.entries) c.published.ensures ∙ ap (λ z. lookup (g.K.KeyClone.same (g.K.KeyClone.plain c.args.key.now)) z.entries) (∥∥₁_elim c.args.self.now.current (Coded-set (the_row g.row.K-Plain g.row.V g.row.M).coded _ _) (λ h. h.0))
