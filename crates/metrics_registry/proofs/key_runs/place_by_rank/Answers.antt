use Rattle.std.proofs.Common.{◌≡◌, false, Some, length, rules, refl, sym, subst, ◌∙◌}
use Rattle.std.specs.Prelude.{position, Ok, Err}
use Rattle.std.specs.Ordering.{nat_cmp}
use Rattle.std.specs.List.{list_any}
use Rattle.std.specs.List.Sorted.{IsBinarySearchResult}
use Rattle.std.proofs.lemmas.List.Sorted.{answers_always}
use Rattle.std.proofs.lemmas.Option.{slice_get_read}
use Rattle.metrics_core.specs.Keys.{key_eq}
use Rattle.metrics_registry.specs.KeyRuns.{key_rank}
use Rattle.metrics_registry.proofs.NumberedKeys.{no_place}
use Rattle.metrics_registry.proofs.KeyRuns.{none_beside, none_searched, place_equal, searched_rank}
use Rattle.metrics_registry.proofs.key_runs.place_by_rank.Goals as goal
use Rattle.metrics_registry.proofs.key_runs.place_by_rank.Goals.{Then-eq, Else-eq, In-Err}

-- the key of the rank is equal
there : (c : Then-eq) → Some c.in-Ok.place ≡ position (key_eq c.args.key.now) c.args.keys.now
there c =
    let ks = c.args.keys.now in
    let k = c.index-keys-place.result in
    place_equal c.args.key.now ks c.in-Ok.place k c.requires
    (slice_get_read ks (length ks) c.in-Ok.place k refl c.in-Ok.ensures.bound c.index-keys-place.is)
    (sym c.eq.ensures.value ∙ c.if-eq.true)

-- the key of the rank isn't equal
none_there : (c : Else-eq) → list_any (key_eq c.args.key.now) c.args.keys.now ≡ false
none_there c =
    let ks = c.args.keys.now in
    let k = c.index-keys-place.result in
    let searched = subst (λ rank. IsBinarySearchResult (λ held. nat_cmp (key_rank held) rank) ks (Ok c.in-Ok.place)) c.rank_of-rank.ensures
    (c.in-Ok.ensures.position key_rank (answers_always _ _ _ (λ f a r g' h. search rules))) in
    none_beside c.args.key.now ks c.in-Ok.place k c.requires
    (slice_get_read ks (length ks) c.in-Ok.place k refl c.in-Ok.ensures.bound c.index-keys-place.is)
    (searched_rank c.args.key.now ks c.in-Ok.place k searched c.index-keys-place.is)
    (sym c.eq.ensures.value ∙ c.if-eq.false)

-- no key has the rank
none_found : (c : In-Err) → list_any (key_eq c.args.key.now) c.args.keys.now ≡ false
none_found c =
    let ks = c.args.keys.now in
    none_searched c.args.key.now ks c.in-Err.field-0 c.requires
    (subst (λ rank. IsBinarySearchResult (λ held. nat_cmp (key_rank held) rank) ks (Err c.in-Err.field-0)) c.rank_of-rank.ensures
    (c.in-Err.ensures.position key_rank (answers_always _ _ _ (λ f a r g' h. search rules))))

pub returns-then-eq-clause-index : goal.returns-then-eq-clause-index
returns-then-eq-clause-index c = there c

pub returns-else-eq-clause-index : goal.returns-else-eq-clause-index
returns-else-eq-clause-index c = sym (no_place (key_eq c.args.key.now) c.args.keys.now (none_there c))

pub returns-in-Err-clause-index : goal.returns-in-Err-clause-index
returns-in-Err-clause-index c = sym (no_place (key_eq c.args.key.now) c.args.keys.now (none_found c))
