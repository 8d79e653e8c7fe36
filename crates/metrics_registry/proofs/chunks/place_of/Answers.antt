use Rattle.std.proofs.Common.{◌≡◌, ◌≤ℤ◌, ◌<◌, true, false, Some, length, refl, sym, ap, subst, rules, arith, w64}
use Rattle.std.specs.Prelude.{int_le, slice_get, slice_set}
use Rattle.std.specs.List.Sorted.{IsPartitionPoint}
use Rattle.std.proofs.lemmas.List.Sorted.{IsPartitionPoint-from_clause}
use Rattle.std.proofs.lemmas.Int.{to_z-of_z}
use Rattle.std.proofs.lemmas.Option.{slice_get_read}
use Rattle.metrics_registry.specs.Chunks.{AreOrdered, IsPlace}
use Rattle.metrics_registry.proofs.Chunked.{first-above, first-ordered, first-place, partitioned, place-found}
use Rattle.metrics_registry.proofs.chunks.place_of.Goals as goal
use Rattle.metrics_registry.proofs.chunks.place_of.Goals.{After-chunks-1}

pub returns-then-behind-gt0-clause-place : goal.returns-then-behind-gt0-clause-place
returns-then-behind-gt0-clause-place c =
    let cs = c.args.chunks.now.items in
    let value = c.args.value in
    let behind = c.partition_point-behind.result in
    let point = IsPartitionPoint-from_clause (λ chunk. int_le chunk.least c.args.value) c.deref.result.now behind c.partition_point-behind.ensures.partitioned
    (partitioned value c.deref.result.now (subst AreOrdered (sym c.deref.ensures.value) c.requires)) (λ a r f' called. search rules) in
    place-found value cs behind
    (subst (λ l. IsPartitionPoint (λ chunk. int_le chunk.least value ≡ true) (λ chunk. int_le chunk.least value ≡ false) l behind) c.deref.ensures.value point)
    (omega (arith, c.partition_point-behind.ensures.bound, ap length c.deref.ensures.value)) c.if-behind-gt0.true

-- the first chunk begins above the value
above : (c : After-chunks-1) → (slice_get c.args.chunks.now.items 0 ≡ Some c.index_mut.result.now) × (c.args.value ≤ℤ c.index_mut.result.now.least)
above c =
    let cs = c.args.chunks.now.items in
    let value = c.args.value in
    let behind = c.partition_point-behind.result in
    let first = c.index_mut.result.now in
    let some : 0 < length c.args.chunks.now.items = search rules in
    let at : slice_get cs 0 ≡ Some first = slice_get_read cs (length cs) 0 first refl some c.index_mut.ensures.value in
    let point = IsPartitionPoint-from_clause (λ chunk. int_le chunk.least c.args.value) c.deref.result.now behind c.partition_point-behind.ensures.partitioned
    (partitioned value c.deref.result.now (subst AreOrdered (sym c.deref.ensures.value) c.requires)) (λ a r f' called. search rules) in
    let here = subst (λ l. IsPartitionPoint (λ chunk. int_le chunk.least value ≡ true) (λ chunk. int_le chunk.least value ≡ false) l behind) c.deref.ensures.value point in
    (at, first-above value cs behind first here (omega (arith, c.if-behind-gt0.false)) at)

pub returns-clause-ordered : goal.returns-clause-ordered
returns-clause-ordered c =
    let cs = c.args.chunks.now.items in
    let first = c.index_mut.result.now in
    let own = to_z-of_z w64 c.args.value c.ranges.value in
    subst (λ v. AreOrdered (slice_set cs 0 (record { least = v; entries = first.entries; count = first.count }))) (sym own)
    (first-ordered c.args.value cs first (above c).0 (above c).1 c.requires)

pub returns-clause-place : goal.returns-clause-place
returns-clause-place c =
    let cs = c.args.chunks.now.items in
    let first = c.index_mut.result.now in
    let own = to_z-of_z w64 c.args.value c.ranges.value in
    subst (λ v. IsPlace c.args.value (slice_set cs 0 (record { least = v; entries = first.entries; count = first.count })) 0) (sym own)
    (first-place c.args.value cs first (above c).0 (above c).1 c.requires)
