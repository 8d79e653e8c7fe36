-- Worked examples, computed.
use Rattle.std.specs.Prelude.{◌≡◌, ℕ, List, codes, refl, [], ◌∷◌, ℤ, pos, None, map}
use Rattle.std.specs.Fmt.{digits}
use Rattle.prom_format.specs.Pages.{Family, page_text}
use Rattle.prom_format.specs.declared.families.FamilyType.TheVariants.{Counter, Gauge}
use Rattle.page_relay.specs.Streams.{ended_lines, first_lines}
use Rattle.page_relay.specs.Merge.{numbered, merged}

abbrev pub basic : Family
basic = record {
  help = None;
  name = codes "basic_counter";
  type = Counter;
  rows = record { name = codes "basic_counter"; labels = []; value = pos 42000000000 } ∷ [];
}

pub basic_page : page_text (basic ∷ []) ≡ codes "# TYPE basic_counter counter\nbasic_counter 42\n\n# EOF\n"
unfolding digits
basic_page = refl

pub three_newlines : ended_lines (codes "a\n\nb\nc") ≡ codes "a" ∷ [] ∷ codes "b" ∷ []
three_newlines = refl

pub newlines_included : first_lines 2 (codes "a\n\nb\nc") ≡ codes "a\n\n"
newlines_included = refl

pub no_bytes : ended_lines [] ≡ []
no_bytes = refl

-- ---- what pages become

-- the values of the rows, and the values of their labels
abbrev pub values : List Family → List (List ℤ)
values families = map (λ family. map (λ row. row.value) family.rows) families

abbrev pub labels : List Family → List (List (List (List ℕ)))
labels families = map (λ family. map (λ row. map (λ label. label.value) row.labels) family.rows) families

abbrev pub gauge_page : ℕ → List Family
gauge_page n = record {
  help = None;
  name = codes "g";
  type = Gauge;
  rows = record { name = codes "g"; labels = []; value = pos n } ∷ [];
} ∷ []

abbrev pub gauges : List Family
gauges = merged (numbered (gauge_page 1 ∷ gauge_page 2 ∷ []))

pub counters_add : values (merged (numbered ((basic ∷ []) ∷ (basic ∷ []) ∷ []))) ≡ (pos 84000000000 ∷ []) ∷ []
counters_add = refl

pub gauges_stand : values gauges ≡ (pos 1 ∷ pos 2 ∷ []) ∷ []
gauges_stand = refl

pub gauges_have_pages : labels gauges ≡ ((codes "1" ∷ []) ∷ (codes "2" ∷ []) ∷ []) ∷ []
unfolding digits
gauges_have_pages = refl

pub nothing_merges : merged (numbered []) ≡ []
nothing_merges = refl
