use Rattle.script_player.specs.Sent.{LinkTold}
use Rattle.script_player.proofs.SendSteps.{flush_delivers, flush_ready}
use Rattle.script_player.proofs.flushes.Flushes.hand_out.Goals as goal

pub returns-clause-sent : goal.returns-clause-sent
returns-clause-sent g c = λ settings to items written aims.
    let sent = c.send_written-sent in
    let told : LinkTold = record { sent = g.L.Link.sent c.args.link.now; faults = g.L.Link.faults c.args.link.now } in
    let tells : LinkTold = record { sent = g.L.Link.sent sent.new.link; faults = g.L.Link.faults sent.new.link } in
    flush_delivers settings to items _ _ written _ _ _ _ told tells sent.result c.args.self.now.report c.both-self.result sent.ensures.sent sent.ensures.dropped aims
    c.both-self.ensures.sent c.both-self.ensures.unsent c.both-self.ensures.dropped

pub returns-clause-ready : goal.returns-clause-ready
returns-clause-ready g c = λ settings to items written. flush_ready settings to items _ _ written _ c.send_written-sent.ensures.sent.emptied
