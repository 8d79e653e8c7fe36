use Rattle.std.proofs.Common.{◌≡◌, length}
use Rattle.std.specs.Prelude.{IfSome}
use Rattle.page_answers.proofs.Sent.{Sent}
use Rattle.page_answers.proofs.conns.write_whole.Given as goal

abbrev pub invariant-loop-rest : goal.invariant-loop-rest
invariant-loop-rest g l = record {
  sent : IfSome (g.C.Conn.told l.initial.conn) (λ before. Sent before (g.C.Conn.told l.conn) l.piece l.rest);
  who : g.C.Conn.who l.conn ≡ g.C.Conn.who l.initial.conn;
  no_fault : g.C.Conn.faults l.conn ≡ g.C.Conn.faults l.initial.conn;
}

abbrev pub decreases-loop-rest : goal.decreases-loop-rest
decreases-loop-rest g l = length l.rest
