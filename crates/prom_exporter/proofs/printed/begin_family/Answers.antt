use Rattle.std.proofs.Common.{subst, sym, arith}
use Rattle.prom_exporter.specs.Printed.{ArePrinted}
use Rattle.prom_exporter.proofs.Printing.{printed-push}
use Rattle.prom_exporter.proofs.printed.begin_family.Goals as goal

pub loop-alloc-preserved : goal.loop-alloc-preserved
loop-alloc-preserved c = record {
  printed = λ sets families within are.
      subst (ArePrinted sets families) (sym c.in_ok-push.ensures.items)
      (printed-push sets families c.loop-alloc.printed.items c.new.result (omega (arith, within, c.loop-alloc-test.true)) c.new.ensures (c.loop-alloc.invariant.printed sets families within are));
}
