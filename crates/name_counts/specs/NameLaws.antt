-- A stored pair is found by its own kind and name, and by no other.
use Rattle.std.proofs.Common.{◌≡◌, ℕ, Bool, ◌&&◌, List, true, refl, sym, ◌∙◌}
use Rattle.std.specs.Prelude.{bytes_eq, string_bytes}
use Rattle.std.specs.Cmp.Lexicographic.{nat_list_eq_equiv}
use Rattle.std.proofs.lemmas.Slice.Eq.{bytes_eq-Decides}
use Rattle.std.proofs.lemmas.Bool.{and_parts}
use denote.Enum.Bare.{sameb}
use Rattle.metrics_core.specs.contracts.kinds.MetricKind.{the_type}
use Rattle.metrics_core.specs.declared.kinds.MetricKind.{MetricKind}
use Rattle.metrics_core.specs.declared.kinds.MetricKind.TheVariants.{Counter, Gauge, Histogram}
use Rattle.metrics_core.specs.Kinds.{kind_eq}
use Rattle.metrics_core.proofs.KindTests.{kind_eq-same}
use Rattle.name_counts.specs.declared.names.CountedName.{CountedName}
use Rattle.name_counts.specs.Names.{is_named}

-- the derived test of two kinds
derived : (a b : MetricKind) → kind_eq b a ≡ sameb the_type a b
derived Counter Counter = refl
derived Counter Gauge = refl
derived Counter Histogram = refl
derived Gauge Counter = refl
derived Gauge Gauge = refl
derived Gauge Histogram = refl
derived Histogram Counter = refl
derived Histogram Gauge = refl
derived Histogram Histogram = refl

-- the derived test of two stored pairs
abbrev pub pair_eq : CountedName → CountedName → Bool
pair_eq first second = sameb the_type first.kind second.kind && bytes_eq (string_bytes first.name) (string_bytes second.name)

is_named_own : (first second : CountedName) → is_named first.kind (string_bytes first.name) second ≡ pair_eq first second
is_named_own first second = λ j. derived first.kind second.kind j && nat_list_eq_equiv.symm (string_bytes second.name) (string_bytes first.name) j

-- what is said of a kind and a name is said of the pair that is found by them
pub same_of : {X : Type 0} (f : MetricKind → List ℕ → X) (kind : MetricKind) (name : List ℕ) (key : CountedName) → is_named kind name key ≡ true → f kind name ≡ f key.kind (string_bytes key.name)
same_of f kind name key same =
    let parts = and_parts (kind_eq key.kind kind) (bytes_eq (string_bytes key.name) name) same in
    λ j. f (sym (kind_eq-same key.kind kind parts.0) j) (sym ((bytes_eq-Decides (string_bytes key.name) name).0 parts.1) j)

-- pairs equal to one that is found are found with it
pub respects_pairs : (kind : MetricKind) (name : List ℕ) (first second : CountedName) → is_named kind name first ≡ true → is_named kind name second ≡ pair_eq first second
respects_pairs kind name first second same = same_of (λ kind name. is_named kind name second) kind name first same ∙ is_named_own first second
