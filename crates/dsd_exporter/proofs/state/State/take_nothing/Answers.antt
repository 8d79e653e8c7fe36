use Rattle.std.proofs.Common.{List, refl, ap, ◌∙◌}
use Rattle.std.proofs.lemmas.Bool.{OnTrue_at, OnTrue_from, OnFalse_at, OnFalse_from}
use Rattle.metrics_registry.specs.Live.{LiveSeries}
use Rattle.metrics_registry.specs.Places.{with_cell_at}
use Rattle.dsd_exporter.specs.Exporter.{CounterThing, settings_of}
use Rattle.dsd_exporter.proofs.Taken.{with-same}
use Rattle.dsd_exporter.proofs.state.State.take_nothing.Goals as goal

pub returns-clause-taken : goal.returns-clause-taken
returns-clause-taken g c = OnTrue_from c.take_nothing.result _ λ is.
    let taken = OnTrue_at is c.take_nothing.ensures.taken in
    rw (← c.self.view_is) (taken.0, taken.1, taken.2, (c.counter_at.result.now, c.take_nothing.new.self, c.counter_at.ensures.value, taken.3, refl))

pub returns-clause-none : goal.returns-clause-none
returns-clause-none g c = OnFalse_from c.take_nothing.result _ λ is.
    let counters = c.self.inside.series.counters in
    rw (← c.self.view_is) (ap (λ (live : List (LiveSeries CounterThing)). record { settings = settings_of c.self.inside.configuration; series = record c.self.inside.series { counters = live } })
    (ap (with_cell_at counters c.args.place) (OnFalse_at is c.take_nothing.ensures.none) ∙ with-same counters c.args.place c.counter_at.result.now c.counter_at.ensures.value))
