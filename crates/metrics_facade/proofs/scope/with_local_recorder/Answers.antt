use Rattle.std.proofs.Common.{refl}
use Rattle.metrics_facade.proofs.scope.with_local_recorder.Goals as goal

pub returns-clause-answer : goal.returns-clause-answer
returns-clause-answer g c = (_, record { shown = _; shows = c.set.ensures; left = _; met = c.f-answer.ensures; leaves = refl })
