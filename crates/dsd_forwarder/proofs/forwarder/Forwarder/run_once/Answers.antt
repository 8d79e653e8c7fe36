use Rattle.std.proofs.Common.{inr}
use Rattle.dsd_forwarder.specs.Forwarding.{begun}
use Rattle.dsd_forwarder.proofs.Given.{on_err}
use Rattle.dsd_forwarder.proofs.Runs.{sends_from}
use Rattle.dsd_forwarder.proofs.forwarder.Forwarder.run_once.Goals as goal

pub returns-in_err-count-clause-refused : goal.returns-in_err-count-clause-refused
returns-in_err-count-clause-refused g c =
    let to_come = g.W.Words.to_come c.args.words.now in
    let left = g.W.Words.to_come c.send.new.words in
    let told = g.L.Link.sent c.args.link.now in
    let tells = g.L.Link.sent c.send.new.link in
    let faults = g.L.Link.faults c.args.link.now in
    let now_faults = g.L.Link.faults c.send.new.link in
    let sends = sends_from c.args.moment c.begin.new.self (begun c.args.self.now) c.send.new.self to_come left told (g.L.Link.sent c.aim.new.self) tells
    faults (g.L.Link.faults c.aim.new.self) now_faults c.in_ok-report.report c.in_ok-report.ensures.sent c.begin.ensures c.aim.ensures.sent c.aim.ensures.never_falls in
    on_err c.from_residual-in_err-count.result _ (inr (inr (record { report = c.in_ok-report.report; sent = c.send.new.self; sends = sends; uncounted = c.in_err-count.ensures.uncounted })))

pub returns-clause-run : goal.returns-clause-run
returns-clause-run g c = record {
  sent = c.send.new.self;
  sends = sends_from c.args.moment c.begin.new.self (begun c.args.self.now) c.send.new.self (g.W.Words.to_come c.args.words.now) (g.W.Words.to_come c.send.new.words)
      (g.L.Link.sent c.args.link.now) (g.L.Link.sent c.aim.new.self) (g.L.Link.sent c.send.new.link)
      (g.L.Link.faults c.args.link.now) (g.L.Link.faults c.aim.new.self) (g.L.Link.faults c.send.new.link) c.in_ok-report.report
      c.in_ok-report.ensures.sent c.begin.ensures c.aim.ensures.sent c.aim.ensures.never_falls;
  counted = c.count.new.self;
  counts = c.in_ok-count.ensures.counted;
  ended = c.end.ensures;
}
