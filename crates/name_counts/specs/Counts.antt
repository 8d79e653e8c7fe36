-- How often something happened, by kind and name, in the order of first happening (this project's rule).
use Rattle.std.specs.Prelude.{ℕ, Bool, false, ◌+◌, ◌-◌, ◌&&◌, ◌||◌, List, [], ◌∷◌, Option, None, Some, is_some, find, bytes_eq, option_map, unwrap_or, if◌then◌else◌}
use Rattle.metrics_core.specs.declared.kinds.MetricKind.{MetricKind}
use Rattle.metrics_core.specs.Kinds.{kind_eq}
use Rattle.metrics_core.specs.Numbers.{in_64_bits}

pub record NameCount : Type 0 where
  pub kind : MetricKind
  pub name : List ℕ
  pub count : ℕ

-- whether a count is that of a kind and name
abbrev pub is_of : MetricKind → List ℕ → NameCount → Bool
is_of kind name c = kind_eq c.kind kind && bytes_eq c.name name

-- the count of a kind and name, 0 where there is none
abbrev pub count_of : MetricKind → List ℕ → List NameCount → ℕ
count_of kind name counts = unwrap_or (option_map (λ c. c.count) (find (is_of kind name) counts)) 0

-- one more, modulo 2^64; a new pair of kind and name goes last
abbrev pub raised : MetricKind → List ℕ → List NameCount → List NameCount
raised kind name [] = record { kind = kind; name = name; count = 1 } ∷ []
raised kind name (c ∷ counts) = if is_of kind name c then record c { count = in_64_bits (c.count + 1) } ∷ counts else c ∷ raised kind name counts

-- one less; the pair stays
abbrev pub lowered : MetricKind → List ℕ → List NameCount → List NameCount
lowered kind name [] = []
lowered kind name (c ∷ counts) = if is_of kind name c then record c { count = c.count - 1 } ∷ counts else c ∷ lowered kind name counts

-- the counts, and the pair of a kind and name, if any, that can be counted first without asking for memory
pub record Counts : Type 0 where
  pub entries : List NameCount
  pub reserved : Option (MetricKind × List ℕ)

-- whether a pair that is reserved is that of a kind and name
abbrev pub is_reserved : MetricKind → List ℕ → Option (MetricKind × List ℕ) → Bool
is_reserved kind name None = false
is_reserved kind name (Some pair) = kind_eq pair.0 kind && bytes_eq pair.1 name

-- whether adding one of a kind and name asks for no memory
abbrev pub has_room : Counts → MetricKind → List ℕ → Bool
has_room counts kind name = is_some (find (is_of kind name) counts.entries) || is_reserved kind name counts.reserved
