use Rattle.std.proofs.Common.{◌≡◌, ◌/◌, ◌∙◌, List, Some, length, drop, take, refl, sym, ap, subst, rules, arith, w64}
use Rattle.std.specs.Prelude.{FitsSigned, slice_get, slice_set}
use Rattle.std.proofs.lemmas.Int.{to_z-of_z}
use Rattle.std.proofs.lemmas.Option.{slice_get_read}
use Rattle.metrics_registry.specs.declared.chunks.Chunk.{Chunk}
use Rattle.metrics_registry.specs.Bags.{repeated}
use Rattle.metrics_registry.specs.Chunks.{AreOrdered, IsChunkOf, entries_of}
use Rattle.metrics_registry.proofs.Chunked.{length-at, length-halves, split-ordered, split-same}
use Rattle.metrics_registry.proofs.chunks.split.Goals as goal
use Rattle.metrics_registry.proofs.chunks.split.Goals.{After-drop-index_mut}

pub of-requires : goal.of-requires
of-requires c =
    let cs = c.args.chunks.now.items in
    let chunk = c.index-chunk.result.now in
    let half = c.len-half.result / 2 in
    let at = slice_get_read cs (length cs) c.args.place chunk refl c.requires.within c.index-chunk.ensures in
    let upper : c.split_at.result.1.now ≡ drop half chunk.entries.items = c.split_at.ensures.back ∙ ap (drop half) c.as_slice.ensures.value in
    omega (arith, length-halves half chunk.entries.items, length-at cs c.args.place chunk at, ap (λ es. length (repeated es)) upper, c.requires.fits)

pub of-requires-2 : goal.of-requires-2
of-requires-2 c =
    let cs = c.args.chunks.now.items in
    let chunk = c.index-chunk.result.now in
    let half = c.len-half.result / 2 in
    let at = slice_get_read cs (length cs) c.args.place chunk refl c.requires.within c.index-chunk.ensures in
    let lower : c.split_at.result.0.now ≡ take half chunk.entries.items = c.split_at.ensures.front ∙ ap (take half) c.as_slice.ensures.value in
    omega (arith, length-halves half chunk.entries.items, length-at cs c.args.place chunk at, ap (λ es. length (repeated es)) lower, c.requires.fits)

-- the lower half, from where the chunk began
below-is : (c : After-drop-index_mut) → IsChunkOf c.index-chunk.result.now.least (take (c.len-half.result / 2) c.index-chunk.result.now.entries.items) c.in_ok-below.below
below-is c =
    let chunk = c.index-chunk.result.now in
    let half = c.len-half.result / 2 in
    let lower : c.split_at.result.0.now ≡ take half chunk.entries.items = c.split_at.ensures.front ∙ ap (take half) c.as_slice.ensures.value in
    let fits : FitsSigned w64 c.index-chunk.result.now.least = search rules in
    subst (λ es. IsChunkOf chunk.least es c.in_ok-below.below) lower
    (subst (λ k. IsChunkOf k c.split_at.result.0.now c.in_ok-below.below) (to_z-of_z w64 chunk.least fits) c.in_ok-below.ensures)

-- the upper half, from its first value
above-is : (c : After-drop-index_mut) → IsChunkOf c.in-Some.field-0.now.0 (drop (c.len-half.result / 2) c.index-chunk.result.now.entries.items) c.in_ok-above.above
above-is c =
    let chunk = c.index-chunk.result.now in
    let half = c.len-half.result / 2 in
    let upper : c.split_at.result.1.now ≡ drop half chunk.entries.items = c.split_at.ensures.back ∙ ap (drop half) c.as_slice.ensures.value in
    let fits : FitsSigned w64 c.in-Some.field-0.now.0 = search rules in
    subst (λ es. IsChunkOf c.in-Some.field-0.now.0 es c.in_ok-above.above) upper
    (subst (λ k. IsChunkOf k c.split_at.result.1.now c.in_ok-above.above) (to_z-of_z w64 c.in-Some.field-0.now.0 fits) c.in_ok-above.ensures)

pub returns-clause-ordered : goal.returns-clause-ordered
returns-clause-ordered c =
    let cs = c.args.chunks.now.items in
    let chunk = c.index-chunk.result.now in
    let half = c.len-half.result / 2 in
    let at = slice_get_read cs (length cs) c.args.place chunk refl c.requires.within c.index-chunk.ensures in
    let upper : c.split_at.result.1.now ≡ drop half chunk.entries.items = c.split_at.ensures.back ∙ ap (drop half) c.as_slice.ensures.value in
    let first : slice_get (drop half chunk.entries.items) 0 ≡ Some c.in-Some.field-0.now = ap (λ es. slice_get es 0) (sym upper) ∙ sym c.in-Some.ensures.value in
    subst (λ l. AreOrdered (slice_set l c.args.place c.in_ok-below.below)) (sym c.in_ok-insert.ensures.items)
    (split-ordered c.in-Some.field-0.now.0 c.in-Some.field-0.now.1 cs c.args.place half chunk c.in_ok-below.below c.in_ok-above.above at (below-is c) (above-is c) first c.requires.ordered)

pub returns-clause-same : goal.returns-clause-same
returns-clause-same c =
    let cs = c.args.chunks.now.items in
    let chunk = c.index-chunk.result.now in
    let half = c.len-half.result / 2 in
    let at = slice_get_read cs (length cs) c.args.place chunk refl c.requires.within c.index-chunk.ensures in
    ap (λ (l : List Chunk). repeated (entries_of (slice_set l c.args.place c.in_ok-below.below))) c.in_ok-insert.ensures.items
    ∙ split-same c.in-Some.field-0.now.0 c.in-Some.field-0.now.1 cs c.args.place half chunk c.in_ok-below.below c.in_ok-above.above at (below-is c) (above-is c)
