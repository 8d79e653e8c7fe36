use Rattle.std.specs.Prelude.{option_copied}
use Rattle.prom_serve.proofs.Accepted.{ended_by}
use Rattle.prom_serve.proofs.serving.serve_next.Goals as goal

pub returns-in-Ok-answered-clause-served : goal.returns-in-Ok-answered-clause-served
returns-in-Ok-answered-clause-served g c = record {
  given = rw c.done.ensures.given c.in-Ok.ensures.given.one;
  renders = c.in-Ok-answered.ensures.renders;
  finished = ended_by (option_copied c.args.allowed) c.args.moment c.args.state.now c.answer_peer-answered.new.state (g.N.Conn.Conn.who c.in-Ok.conn) _ (g.N.Listener.finished c.args.listener.now) (g.N.Listener.finished c.done.new.self) (g.N.Conn.Conn.told c.in-Ok.conn) _ _
      c.in-Ok-answered.ensures.who c.in-Ok.ensures.fresh.fresh c.in-Ok.ensures.fresh.tells c.in-Ok-answered.ensures.tells c.in-Ok-answered.ensures.answered
      (rw c.in-Ok.ensures.finished at c.done.ensures.finished);
}
