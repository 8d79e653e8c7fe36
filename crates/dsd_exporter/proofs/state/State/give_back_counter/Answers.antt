use Rattle.std.proofs.Common.{refl, sym, subst, inr}
use Rattle.dsd_exporter.specs.Lending.{LentCounter}
use Rattle.dsd_exporter.proofs.state.State.give_back_counter.Goals as goal

pub take_pass-requires-clause-pass : goal.take_pass-requires-clause-pass
take_pass-requires-clause-pass c κs =
    let lent = subst (λ e. LentCounter e c.args.lent) (sym c.self.view_is) c.requires.lent in
    lent c.in-Some.counter.now (sym c.in-Some.ensures.value)

pub returns-in-Some : goal.returns-in-Some
returns-in-Some c = record { taken = rw (← c.self.view_is) (inr (c.in-Some.counter.now, c.take_pass.new.self, sym c.in-Some.ensures.value, c.take_pass.ensures, refl)) }
