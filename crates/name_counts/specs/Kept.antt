-- How counts are kept: in a map, with a pair that may be ready to go into it.
use Rattle.std.specs.Prelude.{ℕ, Option, None, map, nat_lt, option_map, if◌then◌else◌}
use Rattle.indexmap.specs.IndexMap.{IndexMap, spare}
use Rattle.name_counts.specs.declared.names.CountedName.{CountedName}
use Rattle.name_counts.specs.Counts.{Counts}
use Rattle.name_counts.specs.Names.{counted, named}

-- a pair that is ready is reserved where the map has a free place
abbrev pub counts_kept : {S : Type 0} → IndexMap CountedName ℕ S → Option CountedName → Counts
counts_kept counts ready = record {
  entries = map counted counts.entries;
  reserved = if nat_lt 0 (spare counts) then option_map named ready else None;
}
