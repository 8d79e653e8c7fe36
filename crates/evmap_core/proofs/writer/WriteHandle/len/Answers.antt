use Rattle.std.proofs.Common.{ap, ◌∙◌, length}
use Rattle.std.proofs.Math.Logic.{∥∥₁_elim}
use base.Stored.{Coded-set}
use Rattle.evmap_contents.specs.contracts.write.Contents.{the_row}
use Rattle.evmap_contents.specs.Views.{contents}
use Rattle.evmap_core.proofs.writer.WriteHandle.len.Goals as goal

pub returns : goal.returns
returns g c = c.len.ensures ∙ ap (λ s. let z = contents g.K.KeyClone.plain s.inner in length z.entries) c.published.ensures ∙ ap (λ z. length z.entries) (∥∥₁_elim c.args.self.now.current (Coded-set (the_row g.row.K-Plain g.row.V g.row.M).coded _ _) (λ h. h.0))
