use Rattle.std.proofs.Common.{◌∙◌, length, refl, ap, subst, rules, arith, w64}
use Rattle.std.specs.Prelude.{count_by, slice_set}
use Rattle.std.specs.Ordering.{int_eq}
use Rattle.std.proofs.lemmas.Int.{to_z-of_z}
use Rattle.std.proofs.lemmas.Option.{slice_get_read}
use Rattle.metrics_registry.specs.Bags.{repeated}
use Rattle.metrics_registry.specs.Chunks.{IsPlace, IsRaised, entries_of}
use Rattle.metrics_registry.proofs.Chunked.{counted-at, length-at, raised-chunk, raised-copies, raised-ordered, rise-at, same-entries, same-ordered}
use Rattle.metrics_registry.proofs.chunks.raise.Goals as goal

pub raise-requires-clause-rise : goal.raise-requires-clause-rise
raise-requires-clause-rise c =
    let cs = c.place_with_room.new.chunks.items in
    let chunk = c.index_mut.result.now in
    let at = slice_get_read cs (length cs) c.in_ok-place.place chunk refl c.in_ok-place.ensures.place.within c.index_mut.ensures.value in
    rise-at cs c.in_ok-place.place chunk at c.place_with_room.ensures.ordered

pub raise-requires-clause-counted : goal.raise-requires-clause-counted
raise-requires-clause-counted c =
    let cs = c.place_with_room.new.chunks.items in
    let chunk = c.index_mut.result.now in
    let at = slice_get_read cs (length cs) c.in_ok-place.place chunk refl c.in_ok-place.ensures.place.within c.index_mut.ensures.value in
    counted-at cs c.in_ok-place.place chunk at c.place_with_room.ensures.ordered

pub raise-requires-clause-fits : goal.raise-requires-clause-fits
raise-requires-clause-fits c =
    let cs = c.place_with_room.new.chunks.items in
    let chunk = c.index_mut.result.now in
    let at = slice_get_read cs (length cs) c.in_ok-place.place chunk refl c.in_ok-place.ensures.place.within c.index_mut.ensures.value in
    omega (arith, counted-at cs c.in_ok-place.place chunk at c.place_with_room.ensures.ordered, length-at cs c.in_ok-place.place chunk at, ap length c.place_with_room.ensures.same, c.requires.fits)

pub returns-in_err-raise-clause-ordered : goal.returns-in_err-raise-clause-ordered
returns-in_err-raise-clause-ordered c =
    let cs = c.place_with_room.new.chunks.items in
    let chunk = c.index_mut.result.now in
    let at = slice_get_read cs (length cs) c.in_ok-place.place chunk refl c.in_ok-place.ensures.place.within c.index_mut.ensures.value in
    same-ordered cs c.in_ok-place.place chunk c.raise.new.self at c.place_with_room.ensures.ordered c.raise.ensures.least c.in_err-raise.ensures.refused.0 c.in_err-raise.ensures.refused.1

pub returns-in_err-raise-clause-refused : goal.returns-in_err-raise-clause-refused
returns-in_err-raise-clause-refused c =
    let cs = c.place_with_room.new.chunks.items in
    let chunk = c.index_mut.result.now in
    let at = slice_get_read cs (length cs) c.in_ok-place.place chunk refl c.in_ok-place.ensures.place.within c.index_mut.ensures.value in
    let same = ap repeated (same-entries cs c.in_ok-place.place chunk c.raise.new.self at c.raise.ensures.least c.in_err-raise.ensures.refused.0) ∙ c.place_with_room.ensures.same in
    search (rules, same)

pub returns-clause-ordered : goal.returns-clause-ordered
returns-clause-ordered c =
    let cs = c.place_with_room.new.chunks.items in
    let chunk = c.index_mut.result.now in
    let new = c.raise.new.self in
    let at = slice_get_read cs (length cs) c.in_ok-place.place chunk refl c.in_ok-place.ensures.place.within c.index_mut.ensures.value in
    let own = to_z-of_z w64 c.args.value c.ranges.value in
    raised-ordered c.args.value c.args.count cs c.in_ok-place.place chunk new at c.place_with_room.ensures.ordered
    (subst (λ v. IsPlace v cs c.in_ok-place.place) own c.in_ok-place.ensures.place) c.raise.ensures.least
    (subst (λ v. IsRaised v c.args.count chunk.entries.items new.entries.items) own c.in_ok-raise.ensures.raised) c.in_ok-raise.ensures.counted

pub returns-clause-raised : goal.returns-clause-raised
returns-clause-raised c = λ v.
    let cs = c.place_with_room.new.chunks.items in
    let chunk = c.index_mut.result.now in
    let new = c.raise.new.self in
    let at = slice_get_read cs (length cs) c.in_ok-place.place chunk refl c.in_ok-place.ensures.place.within c.index_mut.ensures.value in
    let own = to_z-of_z w64 c.args.value c.ranges.value in
    let raised = raised-chunk c.args.value c.args.count cs c.in_ok-place.place chunk new at c.place_with_room.ensures.ordered
    (subst (λ v. IsPlace v cs c.in_ok-place.place) own c.in_ok-place.ensures.place) c.raise.ensures.least
    (subst (λ v. IsRaised v c.args.count chunk.entries.items new.entries.items) own c.in_ok-raise.ensures.raised) in
    omega (arith, raised-copies v c.args.value c.args.count (entries_of cs) (entries_of (slice_set cs c.in_ok-place.place new)) raised, ap (count_by (int_eq v)) c.place_with_room.ensures.same)
