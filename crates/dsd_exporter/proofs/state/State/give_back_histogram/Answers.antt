use Rattle.std.proofs.Common.{refl, sym, inr}
use Rattle.dsd_exporter.proofs.state.State.give_back_histogram.Goals as goal

pub returns-in-Some : goal.returns-in-Some
returns-in-Some c = record { taken = rw (← c.self.view_is) (inr (c.in-Some.histogram.now, c.take_back.new.self, sym c.in-Some.ensures.value, c.take_back.ensures, refl)) }
