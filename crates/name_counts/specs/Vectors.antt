-- Worked rows.
use Rattle.std.specs.Prelude.{◌≡◌, ℕ, [], ◌∷◌, true, false, Some, None, refl}
use Rattle.metrics_core.specs.declared.kinds.MetricKind.{MetricKind}
use Rattle.metrics_core.specs.declared.kinds.MetricKind.TheVariants.{Counter, Gauge}
use Rattle.name_counts.specs.Counts.{NameCount, count_of, raised, lowered, has_room}

-- so many of a kind and the name 7 or 8
abbrev many : MetricKind → ℕ → ℕ → NameCount
many kind name n = record { kind = kind; name = name ∷ []; count = n }

-- a name is counted for each kind apart, in the order of first counting
three : raised Counter (7 ∷ []) (raised Gauge (7 ∷ []) (raised Counter (7 ∷ []) [])) ≡ many Counter 7 2 ∷ many Gauge 7 1 ∷ []
three = refl

-- what was never counted is counted 0 times
none : count_of Counter (8 ∷ []) (many Counter 7 2 ∷ many Gauge 8 1 ∷ []) ≡ 0
none = refl

-- the last count that fits is followed by 0
wraps : raised Counter (7 ∷ []) (many Counter 7 18446744073709551615 ∷ []) ≡ many Counter 7 0 ∷ []
wraps = refl

-- a pair whose count went down to 0 stays, and counts again in its place
stays : raised Counter (7 ∷ []) (lowered Counter (7 ∷ []) (many Counter 7 1 ∷ many Gauge 7 1 ∷ [])) ≡ many Counter 7 1 ∷ many Gauge 7 1 ∷ []
stays = refl

-- there is room for a pair that is counted, and for the one that is reserved
room : has_room (record { entries = many Counter 7 1 ∷ []; reserved = Some (Gauge, 7 ∷ []) }) Gauge (7 ∷ []) ≡ true
room = refl

no_room : has_room (record { entries = many Counter 7 1 ∷ []; reserved = None }) Gauge (7 ∷ []) ≡ false
no_room = refl
