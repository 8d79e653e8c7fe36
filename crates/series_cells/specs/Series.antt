-- Counters and gauges as a state keeps them and lends them to lanes.
use Rattle.std.specs.Prelude.{◌≡◌, ℕ, List, [], ◌∷◌, ◌++◌}
use Rattle.legal_history.specs.declared.history.View.{View}
use Rattle.legal_history.specs.History.{calls}
use Rattle.legal_history.specs.Order.{taken, IsOrder}
use Rattle.metrics_core.specs.declared.calls.SeriesCall.{SeriesCall}
use Rattle.metrics_core.specs.declared.calls.SeriesCall.TheVariants.{Increment, Absolute, Add, Subtract, Set, Record}
use Rattle.metrics_core.specs.declared.numbers.Fixed.{Fixed as FixedOf}
use Rattle.metrics_core.specs.Calls.{counter_value, gauge_value}
use Rattle.series_cells.specs.Values.{calls_of}

-- the calls that a call on a counter makes: one of another kind makes none
abbrev pub as_counter : SeriesCall → List SeriesCall
as_counter (Increment n) = Increment n ∷ []
as_counter (Absolute n) = Absolute n ∷ []
as_counter (Add v) = []
as_counter (Subtract v) = []
as_counter (Set v) = []
as_counter (Record value moment count) = []

-- those that a call on a gauge makes
abbrev pub as_gauge : SeriesCall → List SeriesCall
as_gauge (Increment n) = []
as_gauge (Absolute n) = []
as_gauge (Add v) = Add v ∷ []
as_gauge (Subtract v) = Subtract v ∷ []
as_gauge (Set v) = Set v ∷ []
as_gauge (Record value moment count) = []

abbrev pub StandsAsCounter : SeriesCall → List SeriesCall → Type 0
StandsAsCounter call made = made ≡ as_counter call

abbrev pub StandsAsGauge : SeriesCall → List SeriesCall → Type 0
StandsAsGauge call made = made ≡ as_gauge call

-- all that were made, one call after the other
abbrev pub all_as : (SeriesCall → List SeriesCall) → List SeriesCall → List SeriesCall
all_as makes [] = []
all_as makes (c ∷ cs) = makes c ++ all_as makes cs

-- a reading of the value stands in the history as no call
abbrev pub no_call : {R : Type 0} → R → List SeriesCall
no_call reading = []

-- the value that a list of calls leaves
abbrev pub counted : List SeriesCall → ℕ
counted cs = counter_value (calls_of cs)

abbrev pub gauged : List SeriesCall → FixedOf
gauged cs = record { 0 = gauge_value (calls_of cs) }

-- the value after the calls that the root had seen and then, in one order, what the lanes asked for
abbrev pub PlayedByCounter : (ℕ → List SeriesCall) → View SeriesCall → ℕ → Type 0
PlayedByCounter asked v n = (order : List ℕ) × IsOrder order (λ l. all_as as_counter (asked l)) × (n ≡ counted (calls v.seen ++ taken order (λ l. all_as as_counter (asked l))))

abbrev pub PlayedByGauge : (ℕ → List SeriesCall) → View SeriesCall → FixedOf → Type 0
PlayedByGauge asked v value = (order : List ℕ) × IsOrder order (λ l. all_as as_gauge (asked l)) × (value ≡ gauged (calls v.seen ++ taken order (λ l. all_as as_gauge (asked l))))
