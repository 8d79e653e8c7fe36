use Rattle.std.proofs.Common.{◌≡◌, ℕ, ◌<◌, ◌∙◌, Equal, get_or, length, refl, sym, ap, subst, rules, arith, w64}
use Rattle.std.specs.Prelude.{ℤ, Err, insert}
use Rattle.std.specs.Ordering.{int_cmp}
use Rattle.std.specs.List.Sorted.{IsBinarySearchResult}
use Rattle.std.proofs.lemmas.Int.{to_z-of_z}
use Rattle.std.proofs.lemmas.List.Sorted.{answers_always}
use Rattle.std.proofs.lemmas.Option.{slice_get_read}
use Rattle.metrics_registry.specs.Chunks.{IsRaised}
use Rattle.metrics_registry.proofs.Chunked.{entry-within, raised-found, raised-new, searchable}
use Rattle.metrics_registry.proofs.chunks.raise_entry.Goals as goal

pub overflow_add-index_mut : goal.overflow_add-index_mut
overflow_add-index_mut c =
    let es = c.args.entries.now.items in
    let within : c.in-Ok.place < length es = omega (arith, c.in-Ok.ensures.bound, ap length c.deref.ensures.value) in
    let at = slice_get_read es (length es) c.in-Ok.place c.index_mut.result.now refl within c.index_mut.ensures.value in
    omega (arith, entry-within es c.in-Ok.place c.index_mut.result.now at, c.requires.fits)

pub returns-in-Ok-clause-raised : goal.returns-in-Ok-clause-raised
returns-in-Ok-clause-raised c =
    let es = c.args.entries.now.items in
    let e = c.index_mut.result.now in
    let searched = c.in-Ok.ensures.position (λ e. e.0) (answers_always _ _ _ (λ f a r g' h. search rules)) in
    let own = to_z-of_z w64 c.args.value c.ranges.value in
    let same : get_or c.deref.result.now c.in-Ok.place e ≡ e = ap (λ l. get_or l c.in-Ok.place e) c.deref.ensures.value ∙ sym c.index_mut.ensures.value in
    let equal : int_cmp e.0 c.args.value ≡ Equal = sym (λ j. int_cmp (same j).0 (own j)) ∙ searched e in
    let within : c.in-Ok.place < length es = omega (arith, c.in-Ok.ensures.bound, ap length c.deref.ensures.value) in
    raised-found c.args.value c.args.count es c.in-Ok.place e (slice_get_read es (length es) c.in-Ok.place e refl within c.index_mut.ensures.value) equal

pub returns-in_ok-insert-in-Err-clause-raised : goal.returns-in_ok-insert-in-Err-clause-raised
returns-in_ok-insert-in-Err-clause-raised c =
    let es = c.args.entries.now.items in
    let value = c.args.value in
    let count = c.args.count in
    let place = c.in-Err.place in
    let own = to_z-of_z w64 value c.ranges.value in
    let searched = subst (λ v. IsBinarySearchResult (λ (e : ℤ × ℕ). int_cmp e.0 v) c.deref.result.now (Err place)) own
    (c.in-Err.ensures.position (λ e. e.0) (answers_always _ _ _ (λ f a r g' h. search rules))) in
    let here = subst (λ l. IsBinarySearchResult (λ (e : ℤ × ℕ). int_cmp e.0 value) l (Err place)) c.deref.ensures.value searched in
    subst (IsRaised value count es) (sym (c.in_ok-insert-in-Err.ensures.items ∙ ap (λ k. insert es place (k, count)) own))
    (raised-new value count es place (here (searchable value es c.requires.rise)))
