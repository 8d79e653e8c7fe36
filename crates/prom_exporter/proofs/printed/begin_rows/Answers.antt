use Rattle.std.proofs.Common.{subst, sym}
use Rattle.prom_exporter.specs.Printed.{AreKept}
use Rattle.prom_exporter.proofs.Printing.{kept-push}
use Rattle.prom_exporter.proofs.printed.begin_rows.Goals as goal

pub returns-in_ok-push-clause-rows : goal.returns-in_ok-push-clause-rows
returns-in_ok-push-clause-rows c name sets places are =
    subst (AreKept name sets places) (sym c.in_ok-push.ensures.items) (kept-push name sets places c.args.rows.now.items c.new.result c.new.ensures.values c.new.ensures.text are)
