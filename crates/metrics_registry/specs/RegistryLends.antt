-- What a registry ends as, where a reference to a cell is returned.
use Rattle.std.specs.Prelude.{ℕ, Option}
use Rattle.std.specs.Borrow.{Lends, LendsIf, Fml, RattleType, MutBor}
use Rattle.metrics_core.specs.declared.kinds.SeriesId.{SeriesId}
use Rattle.metrics_registry.specs.Live.{RegistryText, with_cell}
use Rattle.metrics_registry.specs.Places.{with_cell_at}
use Rattle.metrics_registry.specs.contracts.registry.Registry.{the_row}

module _ (C G H : RattleType) (registry : MutBor (RegistryText C.Denot G.Denot H.Denot)) where
  -- the counter with the id has the last cell written through r; at `None` the registry stays as it is
  abbrev pub lends_counter : SeriesId → Option (MutBor C.Denot) → Fml
  lends_counter id r = LendsIf (the_row C G H) C registry r (λ cell. record registry.now { counters = with_cell id registry.now.counters cell }) registry.now

  -- the counter at a place has the last cell written through r
  abbrev pub lends_counter_at : ℕ → MutBor C.Denot → Fml
  lends_counter_at place r = Lends (the_row C G H) C registry r (λ cell. record registry.now { counters = with_cell_at registry.now.counters place cell })

  -- the gauge with the id has the last cell written through r; at `None` the registry stays as it is
  abbrev pub lends_gauge : SeriesId → Option (MutBor G.Denot) → Fml
  lends_gauge id r = LendsIf (the_row C G H) G registry r (λ cell. record registry.now { gauges = with_cell id registry.now.gauges cell }) registry.now

  -- the gauge at a place has the last cell written through r
  abbrev pub lends_gauge_at : ℕ → MutBor G.Denot → Fml
  lends_gauge_at place r = Lends (the_row C G H) G registry r (λ cell. record registry.now { gauges = with_cell_at registry.now.gauges place cell })

  -- the histogram with the id has the last cell written through r; at `None` the registry stays as it is
  abbrev pub lends_histogram : SeriesId → Option (MutBor H.Denot) → Fml
  lends_histogram id r = LendsIf (the_row C G H) H registry r (λ cell. record registry.now { histograms = with_cell id registry.now.histograms cell }) registry.now

  -- the histogram at a place has the last cell written through r
  abbrev pub lends_histogram_at : ℕ → MutBor H.Denot → Fml
  lends_histogram_at place r = Lends (the_row C G H) H registry r (λ cell. record registry.now { histograms = with_cell_at registry.now.histograms place cell })
