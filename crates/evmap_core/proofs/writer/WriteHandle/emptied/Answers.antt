use Rattle.std.proofs.Common.{ap, ◌∙◌}
use Rattle.evmap_core.specs.Marked.{entries_at}
use Rattle.evmap_core.proofs.writer.WriteHandle.emptied.Goals as goal

pub returns : goal.returns
returns g c = c.at.ensures ∙ ap (λ s. entries_at s.inner.map.entries c.deref.result.now) c.published.ensures ∙ ap (entries_at c.args.self.now.writer.desk.shown.value.inner.map.entries) c.deref.ensures.value
