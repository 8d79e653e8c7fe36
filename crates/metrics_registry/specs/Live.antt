-- The live series of a registry, as its contracts see them (this project's rule).
use Rattle.std.specs.Prelude.{◌≡◌, ℕ, ◌+◌, ◌<◌, Bool, ◌&&◌, ◌==◌, not, List, [], ◌∷◌, ◌++◌, map, filter, find, Option, Some, None, option_map, if◌then◌else◌, ◌⊎◌}
use Rattle.std.specs.List.{list_any}
use Rattle.metrics_core.specs.declared.kinds.MetricKind.{MetricKind}
use Rattle.metrics_core.specs.declared.kinds.MetricKind.TheVariants.{Counter, Gauge, Histogram}
use Rattle.metrics_core.specs.declared.kinds.SeriesId.{SeriesId}
use Rattle.metrics_core.specs.Kinds.{kind_eq}
use Rattle.metrics_core.specs.Keys.{KeyText, key_eq}

-- a live series: its id, its key and its cell
pub record LiveSeries (X : Type 0) : Type 0 where
  pub id : SeriesId
  pub key : KeyText
  pub cell : X

abbrev pub id_eq : SeriesId → SeriesId → Bool
id_eq a b = kind_eq a.kind b.kind && (a.number == b.number)

module _ {X : Type 0} where
  abbrev pub has_id : SeriesId → LiveSeries X → Bool
  has_id id series = id_eq series.id id

  abbrev pub has_key : KeyText → LiveSeries X → Bool
  has_key key series = key_eq series.key key

  -- the id of the series with an equal key
  abbrev pub id_of_key : KeyText → List (LiveSeries X) → Option SeriesId
  id_of_key key live = option_map (λ series. series.id) (find (has_key key) live)

  -- the cell of the series with the id
  abbrev pub cell_of : SeriesId → List (LiveSeries X) → Option X
  cell_of id live = option_map (λ series. series.cell) (find (has_id id) live)

  abbrev pub is_live : SeriesId → List (LiveSeries X) → Bool
  is_live id live = list_any (has_id id) live

  -- the series and one more, which goes last
  abbrev pub with_last : List (LiveSeries X) → SeriesId → KeyText → X → List (LiveSeries X)
  with_last live id key cell = live ++ record { id = id; key = key; cell = cell } ∷ []

  -- a key is registered: the id of the series with an equal key is given and nothing changes, or else a new series with such
  -- a cell goes last under a new id
  abbrev pub Registers : (X → Type 0) → KeyText → SeriesId → SeriesId → List (LiveSeries X) → List (LiveSeries X) → Type 0
  Registers IsMade key new given before now =
      ((id_of_key key before ≡ Some given) × (now ≡ before))
      ⊎ ((id_of_key key before ≡ None) × (given ≡ new) × ((cell : X) × IsMade cell × (now ≡ with_last before new key cell)))

  -- the series with another cell at the id
  abbrev pub set_cell : SeriesId → X → LiveSeries X → LiveSeries X
  set_cell id cell series = if has_id id series then record series { cell = cell } else series

  abbrev pub with_cell : SeriesId → List (LiveSeries X) → X → List (LiveSeries X)
  with_cell id live cell = map (set_cell id cell) live

  -- all series but the one with the id, in their order
  abbrev pub without : SeriesId → List (LiveSeries X) → List (LiveSeries X)
  without id live = filter (λ series. not (has_id id series)) live

  -- the numbers rise: each is greater than those of the series before it
  abbrev pub IsBelowAll : ℕ → List (LiveSeries X) → Type 0
  IsBelowAll n [] = Unit {0}
  IsBelowAll n (series ∷ live) = (n < series.id.number) × IsBelowAll n live

  abbrev pub Rises : List (LiveSeries X) → Type 0
  Rises [] = Unit {0}
  Rises (series ∷ live) = IsBelowAll series.id.number live × Rises live

  -- each series is of the kind, and its number is below n
  abbrev pub AreOf : MetricKind → ℕ → List (LiveSeries X) → Type 0
  AreOf kind n [] = Unit {0}
  AreOf kind n (series ∷ live) = (series.id.kind ≡ kind) × (series.id.number < n) × AreOf kind n live

-- the live series of each kind, in order of registration, and how many series were ever made
pub record RegistryText (C G H : Type 0) : Type 0 where
  pub counters : List (LiveSeries C)
  pub gauges : List (LiveSeries G)
  pub histograms : List (LiveSeries H)
  pub made : ℕ

-- in each list the ids are of its kind, and their numbers rise and are below the number of series made
pub record IsNumbered {C G H : Type 0} (registry : RegistryText C G H) : Type 0 where
  pub counters : Rises registry.counters × AreOf Counter registry.made registry.counters
  pub gauges : Rises registry.gauges × AreOf Gauge registry.made registry.gauges
  pub histograms : Rises registry.histograms × AreOf Histogram registry.made registry.histograms

module _ {C G H : Type 0} where
  -- the registry with one more series of a kind, which goes last
  abbrev pub with_counter : RegistryText C G H → KeyText → C → RegistryText C G H
  with_counter before key cell = record before {
    counters = with_last before.counters (record { kind = Counter; number = before.made }) key cell;
    made = before.made + 1;
  }

  abbrev pub with_gauge : RegistryText C G H → KeyText → G → RegistryText C G H
  with_gauge before key cell = record before {
    gauges = with_last before.gauges (record { kind = Gauge; number = before.made }) key cell;
    made = before.made + 1;
  }

  abbrev pub with_histogram : RegistryText C G H → KeyText → H → RegistryText C G H
  with_histogram before key cell = record before {
    histograms = with_last before.histograms (record { kind = Histogram; number = before.made }) key cell;
    made = before.made + 1;
  }

  -- a key of a kind is registered: the id of the live series with an equal key is given and nothing changes, or else a new
  -- series with such a cell goes last
  abbrev pub RegistersCounter : (C → Type 0) → KeyText → SeriesId → RegistryText C G H → RegistryText C G H → Type 0
  RegistersCounter IsMade key id before now =
      ((id_of_key key before.counters ≡ Some id) × (now ≡ before))
      ⊎ ((id_of_key key before.counters ≡ None) × (id ≡ record { kind = Counter; number = before.made }) × ((cell : C) × IsMade cell × (now ≡ with_counter before key cell)))

  abbrev pub RegistersGauge : (G → Type 0) → KeyText → SeriesId → RegistryText C G H → RegistryText C G H → Type 0
  RegistersGauge IsMade key id before now =
      ((id_of_key key before.gauges ≡ Some id) × (now ≡ before))
      ⊎ ((id_of_key key before.gauges ≡ None) × (id ≡ record { kind = Gauge; number = before.made }) × ((cell : G) × IsMade cell × (now ≡ with_gauge before key cell)))

  abbrev pub RegistersHistogram : (H → Type 0) → KeyText → SeriesId → RegistryText C G H → RegistryText C G H → Type 0
  RegistersHistogram IsMade key id before now =
      ((id_of_key key before.histograms ≡ Some id) × (now ≡ before))
      ⊎ ((id_of_key key before.histograms ≡ None) × (id ≡ record { kind = Histogram; number = before.made }) × ((cell : H) × IsMade cell × (now ≡ with_histogram before key cell)))

  -- the last series that was made is of a kind, and the registry was this before it
  abbrev pub MadeCounterLast : RegistryText C G H → RegistryText C G H → Type 0
  MadeCounterLast before now = (key : KeyText) × (cell : C) × IsNumbered before × (now ≡ with_counter before key cell)

  abbrev pub MadeGaugeLast : RegistryText C G H → RegistryText C G H → Type 0
  MadeGaugeLast before now = (key : KeyText) × (cell : G) × IsNumbered before × (now ≡ with_gauge before key cell)

  abbrev pub MadeHistogramLast : RegistryText C G H → RegistryText C G H → Type 0
  MadeHistogramLast before now = (key : KeyText) × (cell : H) × IsNumbered before × (now ≡ with_histogram before key cell)
