use Rattle.std.proofs.Common.{ap, ◌∙◌, subst}
use Rattle.std.proofs.Math.Logic.{∥∥₁_elim}
use base.Stored.{Coded-set}
use Rattle.std.specs.Map.{lookup}
use Rattle.std.specs.Option.{option_copied}
use Rattle.evmap_contents.specs.contracts.write.Contents.{the_row}
use Rattle.evmap_contents.specs.Views.{contents}
use Rattle.evmap_core.specs.Asked.{IsOneOf}
use Rattle.evmap_core.proofs.writer.WriteHandle.get_one.Goals as goal

pub returns : goal.returns
returns g c =
    subst (λ z. IsOneOf (lookup (g.K.KeyClone.same (g.K.KeyClone.plain c.args.key.now)) z.entries) (option_copied c.get_one.result))
    (ap (λ s. contents g.K.KeyClone.plain s.inner) c.published.ensures ∙ ∥∥₁_elim c.args.self.now.current (Coded-set (the_row g.row.K-Plain g.row.V g.row.M).coded _ _) (λ h. h.0)) c.get_one.ensures
