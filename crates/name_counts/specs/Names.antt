-- Pairs of a kind and a name, as they are stored.
use Rattle.std.specs.Prelude.{ℕ, Bool, ◌&&◌, List, Option, bytes_eq, option_map, string_bytes}
use Rattle.metrics_core.specs.declared.kinds.MetricKind.{MetricKind}
use Rattle.metrics_core.specs.Kinds.{kind_eq}
use Rattle.name_counts.specs.declared.names.CountedName.{CountedName}
use Rattle.name_counts.specs.Counts.{NameCount, is_reserved}

-- the pair that is stored
abbrev pub named : CountedName → MetricKind × List ℕ
named key = (key.kind, string_bytes key.name)

-- whether it is that of a kind and name
abbrev pub is_named : MetricKind → List ℕ → CountedName → Bool
is_named kind name key = kind_eq key.kind kind && bytes_eq (string_bytes key.name) name

-- whether the one that is ready, if any, is that of a kind and name
abbrev pub is_ready : MetricKind → List ℕ → Option CountedName → Bool
is_ready kind name ready = is_reserved kind name (option_map named ready)

-- a stored pair with its count
abbrev pub counted : CountedName × ℕ → NameCount
counted entry = record { kind = entry.0.kind; name = string_bytes entry.0.name; count = entry.1 }
