use Rattle.std.proofs.Common.{refl, inl, inr}
use Rattle.std.specs.Prelude.{option_copied}
use Rattle.scrape_loops.proofs.Answered.{given_back, ended_by}
use Rattle.scrape_loops.proofs.serving.serve_one.Goals as goal

pub returns-in_default-clause-failed : goal.returns-in_default-clause-failed
returns-in_default-clause-failed g c is = record {
  moment = 0;
  drawn = inr c.in_default.ensures.kept;
  shown = inl refl;
  finished = given_back (g.N.Conn.Conn.who c.in_ok-conn.conn) _ _ (g.N.Conn.Conn.told c.in_ok-conn.conn) _ c.in_ok-conn.ensures.fresh.tells (rw c.in_ok-conn.ensures.finished at c.done.ensures.finished);
}

pub returns-in-Ok-answered-clause-served : goal.returns-in-Ok-answered-clause-served
returns-in-Ok-answered-clause-served g c is =
    let answered = c.in-Ok-answered.ensures in
    record {
      moment = c.in-Ok.moment;
      drawn = c.in-Ok.ensures.drawn;
      finished = ended_by g.P.Pages.shows (option_copied c.args.allowed) c.in-Ok.moment c.args.pages.now c.answer_peer-answered.new.pages (g.N.Conn.Conn.who c.in_ok-conn.conn) _ (g.N.Listener.finished c.args.listener.now) (g.N.Listener.finished c.done-2.new.self)
          (g.N.Conn.Conn.told c.in_ok-conn.conn) _ _ answered.who c.in_ok-conn.ensures.fresh.fresh c.in_ok-conn.ensures.fresh.tells answered.tells answered.answered (rw c.in_ok-conn.ensures.finished at c.done-2.ensures.finished);
    }

pub returns-in-Err-clause-failed : goal.returns-in-Err-clause-failed
returns-in-Err-clause-failed g c is =
    let given_up = c.in-Err.ensures in
    record {
      moment = c.in-Ok.moment;
      drawn = inl c.in-Ok.ensures.drawn;
      shown = given_up.shows;
      finished = given_back (g.N.Conn.Conn.who c.answer_peer-answered.new.conn) _ _ (g.N.Conn.Conn.told c.answer_peer-answered.new.conn) _ (λ tells. given_up.tells (c.in_ok-conn.ensures.fresh.tells tells)) (rw c.in_ok-conn.ensures.finished at c.done-2.ensures.finished);
    }
