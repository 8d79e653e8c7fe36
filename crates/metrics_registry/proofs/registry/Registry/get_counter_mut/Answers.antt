use Rattle.std.proofs.Common.{refl, sym, ap, ◌∙◌, inl}
use Rattle.metrics_registry.proofs.Found.{cell_of-place, cell_of-none, with_cell-place}
use Rattle.metrics_registry.proofs.registry.Registry.get_counter_mut.Goals as goal

pub returns-in-Some : goal.returns-in-Some
returns-in-Some g c = (
  ap (λ f. inl (c.counter_at.result.ghost_name, λ cell. record c.args.self.now { counters = f cell })) (with_cell-place c.args.id c.args.self.now.counters c.in-Some.place c.in-Some.ensures.numbered.counters.0 c.in-Some.ensures.place),
  record {
    writes_back = tt;
    value = sym (cell_of-place c.args.id c.args.self.now.counters c.in-Some.place c.in-Some.ensures.numbered.counters.0 c.in-Some.ensures.place ∙ c.counter_at.ensures.value);
    numbered = c.in-Some.ensures.numbered;
  },
)

pub returns-in-None : goal.returns-in-None
returns-in-None g c = (refl, record { writes_back = tt; value = sym (cell_of-none c.args.id c.args.self.now.counters c.in-None.ensures.place); numbered = c.in-None.ensures.numbered })
