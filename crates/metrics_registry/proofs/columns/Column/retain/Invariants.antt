use Rattle.metrics_registry.proofs.RetainedSeries.{IsKept}
use Rattle.metrics_registry.proofs.columns.Column.retain.Given as goal

abbrev pub invariant-loop-place : goal.invariant-loop-place
invariant-loop-place g l =
    goal.F-IsAlwaysCallable g l.keep
    × IsKept g.F.FnMut l.initial.keep l.initial.keys.keys l.initial.self.items.items l.keys.keys l.self.items.items l.kept l.place l.keep
