use Rattle.std.proofs.Common.{subst}
use Rattle.prom_exporter.specs.Lending.{LendsCounter}
use Rattle.exporter_tests.proofs.Lent.{counter_back, stays_of}
use Rattle.exporter_tests.proofs.exporter.a_lent_counter.Goals as goal

pub give_back_counter-requires : goal.give_back_counter-requires
give_back_counter-requires g c = record {
  lent = counter_back c.in_ok-id.id c.in-Some.lent c.register_counter-2.new.self c.lend_counter.new.self c.increment.new.pass
      (subst (λ l. LendsCounter c.in_ok-id.id l c.register_counter-2.new.self c.lend_counter.new.self) c.in-Some.is c.in_ok-lent.ensures.lent)
      (λ cell is. stays_of _ _ _ cell _ _ _ is c.increment.ensures);
}
