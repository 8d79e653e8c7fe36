use Rattle.std.specs.Prelude.{option_copied}
use Rattle.scrape_loops.proofs.Answered.{answered_first, asked_either}
use Rattle.scrape_loops.proofs.serving.answer_peer.Goals as goal

pub returns-clause-answered : goal.returns-clause-answered
returns-clause-answered g c =
    answered_first g.P.Pages.shows (option_copied c.args.allowed) c.args.moment c.args.pages.now c.answer_to.new.pages (g.C.Conn.who c.args.conn.now) (g.C.Conn.told c.read.new.conn) (g.C.Conn.told c.write_whole.new.conn) c.is_allowed.result c.head.result.now c.as_slice.result.now
    (g.C.Conn.told c.args.conn.now) (rw (c.peer.ensures, c.in_ok-end.ensures.who) at c.is_allowed.ensures)
    (rw c.as_slice.ensures.value (asked_either g.P.Pages.shows c.args.moment c.args.pages.now c.answer_to.new.pages c.asked_by-asked.result c.is_allowed.result c.head.result.now _ c.asked_by-asked.ensures.answer c.in_ok-answer.ensures.answer))
    (rw c.head.ensures c.in_ok-end.ensures.read) c.in_ok-write_whole.ensures.wrote
