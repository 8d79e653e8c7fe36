use Rattle.std.proofs.Common.{subst}
use Rattle.prom_exporter.specs.Lending.{LendsGauge}
use Rattle.exporter_tests.proofs.Lent.{gauge_back, stays_of}
use Rattle.exporter_tests.proofs.exporter.a_lent_gauge.Goals as goal

pub give_back_gauge-requires : goal.give_back_gauge-requires
give_back_gauge-requires g c = record {
  lent = gauge_back c.in_ok-id.id c.in-Some.lent c.register_gauge-2.new.self c.lend_gauge.new.self c.set-in_range.new.pass
      (subst (λ l. LendsGauge c.in_ok-id.id l c.register_gauge-2.new.self c.lend_gauge.new.self) c.in-Some.is c.in_ok-lent.ensures.lent)
      (λ cell is. stays_of _ _ _ cell _ _ _ is c.set-in_range.ensures.1);
}
