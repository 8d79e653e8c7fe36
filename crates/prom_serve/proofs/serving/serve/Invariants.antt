use Rattle.std.proofs.Common.{◌≤◌}
use Rattle.std.specs.Prelude.{option_copied}
use Rattle.page_answers.specs.Connections.{CountedOn}
use Rattle.prom_serve.specs.Serving.{Accepts}
use Rattle.prom_serve.proofs.serving.serve.Given as goal

abbrev pub invariant-loop-accepted : goal.invariant-loop-accepted
invariant-loop-accepted g l = record {
  few : l.failed ≤ l._accepted;
  lost : CountedOn (g.N.Listener.lost l.initial.listener) (g.N.Listener.lost l.listener) l.failed;
  served : Accepts (option_copied l.fn.allowed) l.fn.moment l._accepted 0 l.initial.state l.state
      (record { given = g.N.Listener.given l.initial.listener; finished = g.N.Listener.finished l.initial.listener })
      (record { given = g.N.Listener.given l.listener; finished = g.N.Listener.finished l.listener });
  never_falls : g.N.Listener.faults l.initial.listener ≤ g.N.Listener.faults l.listener;
}
