use Rattle.std.proofs.Common.{sym, ◌∙◌}
use Rattle.evmap_core.specs.Handles.{waiting}
use Rattle.evmap_core.proofs.Pending.{has-plain}
use Rattle.evmap_core.proofs.writer.WriteHandle.has_pending.Goals as goal

pub returns : goal.returns
returns g c = c.args.self.now.counted ∙ sym (has-plain g.K.KeyClone.plain (waiting c.args.self.now))
