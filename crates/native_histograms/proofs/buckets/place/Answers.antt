use Rattle.std.proofs.Common.{◌≡◌, ◌+◌, ◌&&◌, nat_lt, length, Bool, true, false, List, map, w32, sym, ap, subst, ◌∙◌, rules}
use Rattle.std.specs.Prelude.{ℕ, ℤ, FitsSigned, is_none}
use Rattle.std.specs.Int.{cast_signed, cast_unsigned}
use Rattle.std.specs.Map.{lookup}
use Rattle.std.specs.List.{AllByRecursion}
use Rattle.std.specs.Ordering.{int_eq}
use Rattle.std.proofs.lemmas.Int.{to_z-of_z}
use Rattle.std.proofs.lemmas.Result.{on_ok_weaker}
use Rattle.native_histograms.specs.Native.{buckets_of}
use Rattle.native_histograms.specs.Placed.{half_up, IsIndex, Sides, sides_behind, Raises, Places}
use Rattle.native_histograms.proofs.Indices.{IsIndex-half_up}
use Rattle.native_histograms.proofs.Bucketed.{full_is, all-map-half_up}
use Rattle.native_histograms.proofs.buckets.place.Goals as goal

-- `raised` is what is asked of a bucket that opens
places : (max_buckets depth : ℕ) (side other : List (ℤ × ℕ)) (k : ℤ) (n : ℕ) (full : Bool) (new : Sides)
    → full ≡ (nat_lt depth 4 && (is_none (lookup (int_eq k) side) && nat_lt max_buckets (length side + length other + 1)))
    → ((found others : List ℤ) → AllByRecursion IsIndex found → AllByRecursion IsIndex others → IsIndex k → side ≡ buckets_of found → other ≡ buckets_of others → new ≡ sides_behind full depth found others (k, n))
    → Places max_buckets (record { depth = depth; side = side; other = other }) (k, n) new
places max_buckets depth side other k n full new is made found others all all' index stands stands' =
    made found others all all' index stands stands'
    ∙ ap (λ b. sides_behind b depth found others (k, n)) (is ∙ full_is max_buckets depth side other k found others all stands stands')

pub returns-in_ok-raise-clause-placed : goal.returns-in_ok-raise-clause-placed
returns-in_ok-raise-clause-placed c =
    let k = c.args.index in
    let depth = c.args.depth.now in
    let side = c.args.side.now.entries in
    let other = c.args.other.now.entries in
    let own : cast_signed w32 (cast_unsigned w32 k) ≡ k = to_z-of_z w32 k c.ranges.index in
    let fits : FitsSigned w32 c.half_up.result = search rules in
    let half : cast_signed w32 (cast_unsigned w32 c.half_up.result) ≡ half_up k = to_z-of_z w32 c.half_up.result fits ∙ c.half_up.ensures ∙ ap half_up own in
    let full : true ≡ (nat_lt depth 4 && (is_none (lookup (int_eq k) side) && nat_lt c.args.max_buckets (length side + length other + 1))) =
    sym c.if-is_full.true ∙ c.is_full.ensures.full ∙ ap (λ i. nat_lt depth 4 && (is_none (lookup (int_eq i) side) && nat_lt c.args.max_buckets (length side + length other + 1))) own in
    places c.args.max_buckets depth side other k c.args.count true (record { depth = depth + 1; side = c.raise.new.buckets.entries; other = c.in_ok-others.others.entries }) full
    (λ found others all all' index stands stands'. λ j. record {
      depth = depth + 1;
      side = subst (λ i. Raises c.in_ok-merged.merged.entries (i, c.args.count) c.raise.new.buckets.entries) half c.in_ok-raise.ensures.raised (map half_up found) (all-map-half_up found all) (IsIndex-half_up k index) (c.in_ok-merged.ensures found all stands) j;
      other = c.in_ok-others.ensures others all' stands' j;
    })

pub returns-else-is_full-clause-placed : goal.returns-else-is_full-clause-placed
returns-else-is_full-clause-placed c =
    let k = c.args.index in
    let depth = c.args.depth.now in
    let side = c.args.side.now.entries in
    let other = c.args.other.now.entries in
    let own : cast_signed w32 (cast_unsigned w32 k) ≡ k = to_z-of_z w32 k c.ranges.index in
    let full : false ≡ (nat_lt depth 4 && (is_none (lookup (int_eq k) side) && nat_lt c.args.max_buckets (length side + length other + 1))) =
    sym c.if-is_full.false ∙ c.is_full.ensures.full ∙ ap (λ i. nat_lt depth 4 && (is_none (lookup (int_eq i) side) && nat_lt c.args.max_buckets (length side + length other + 1))) own in
    let new = c.raise-else-is_full.new.buckets.entries in
    on_ok_weaker c.raise-else-is_full.result (λ raised.
    places c.args.max_buckets depth side other k c.args.count false (record { depth = depth; side = new; other = other }) full
    (λ found others all all' index stands stands'. λ j. record {
      depth = depth;
      side = subst (λ i. Raises side (i, c.args.count) new) own raised found all index stands j;
      other = stands' j;
    }))
    c.raise-else-is_full.ensures.raised
