use Rattle.std.proofs.Common.{sym, ap, ◌∙◌, arith}
use Rattle.std.specs.Prelude.{option_map}
use Rattle.std.proofs.lemmas.Option.{slice_get-map}
use Rattle.dsd_writer.specs.declared.kept_keys.KeptPlace.{KeptPlace}
use Rattle.dsd_writer.proofs.KeptTexts.{found-at}
use Rattle.dsd_writer.proofs.kept_keys.KeptKeys.get.Goals as goal

pub slice_bounds-name-count : goal.slice_bounds-name-count
slice_bounds-name-count c =
    let found = found-at c.self.inside.text.items c.as_slice-text.result.now c.self.inside.places.items c.as_slice-places.result.now c.args.index c.in_ok-place.place.now
    c.as_slice-text.ensures.value c.as_slice-places.ensures.value c.in_ok-place.ensures.lookup.0 c.in_ok-place.ensures.lookup.1 c.self.invariant in
    found.0.begins

pub slice_bounds-name-start : goal.slice_bounds-name-start
slice_bounds-name-start c =
    let found = found-at c.self.inside.text.items c.as_slice-text.result.now c.self.inside.places.items c.as_slice-places.result.now c.args.index c.in_ok-place.place.now
    c.as_slice-text.ensures.value c.as_slice-places.ensures.value c.in_ok-place.ensures.lookup.0 c.in_ok-place.ensures.lookup.1 c.self.invariant in
    found.0.begins

pub slice_bounds-name-end : goal.slice_bounds-name-end
slice_bounds-name-end c =
    let found = found-at c.self.inside.text.items c.as_slice-text.result.now c.self.inside.places.items c.as_slice-places.result.now c.args.index c.in_ok-place.place.now
    c.as_slice-text.ensures.value c.as_slice-places.ensures.value c.in_ok-place.ensures.lookup.0 c.in_ok-place.ensures.lookup.1 c.self.invariant in
    omega (arith, found.0.ends, found.0.within)

pub slice_bounds-tags-count : goal.slice_bounds-tags-count
slice_bounds-tags-count c =
    let found = found-at c.self.inside.text.items c.as_slice-text.result.now c.self.inside.places.items c.as_slice-places.result.now c.args.index c.in_ok-place.place.now
    c.as_slice-text.ensures.value c.as_slice-places.ensures.value c.in_ok-place.ensures.lookup.0 c.in_ok-place.ensures.lookup.1 c.self.invariant in
    found.0.ends

pub slice_bounds-tags-start : goal.slice_bounds-tags-start
slice_bounds-tags-start c =
    let found = found-at c.self.inside.text.items c.as_slice-text.result.now c.self.inside.places.items c.as_slice-places.result.now c.args.index c.in_ok-place.place.now
    c.as_slice-text.ensures.value c.as_slice-places.ensures.value c.in_ok-place.ensures.lookup.0 c.in_ok-place.ensures.lookup.1 c.self.invariant in
    found.0.ends

pub slice_bounds-tags-end : goal.slice_bounds-tags-end
slice_bounds-tags-end c =
    let found = found-at c.self.inside.text.items c.as_slice-text.result.now c.self.inside.places.items c.as_slice-places.result.now c.args.index c.in_ok-place.place.now
    c.as_slice-text.ensures.value c.as_slice-places.ensures.value c.in_ok-place.ensures.lookup.0 c.in_ok-place.ensures.lookup.1 c.self.invariant in
    found.0.within

pub invariant_of-result : goal.invariant_of-result
invariant_of-result c =
    let found = found-at c.self.inside.text.items c.as_slice-text.result.now c.self.inside.places.items c.as_slice-places.result.now c.args.index c.in_ok-place.place.now
    c.as_slice-text.ensures.value c.as_slice-places.ensures.value c.in_ok-place.ensures.lookup.0 c.in_ok-place.ensures.lookup.1 c.self.invariant in
    (found.0.name, found.0.tags)

pub returns : goal.returns
returns c =
    let found = found-at c.self.inside.text.items c.as_slice-text.result.now c.self.inside.places.items c.as_slice-places.result.now c.args.index c.in_ok-place.place.now
    c.as_slice-text.ensures.value c.as_slice-places.ensures.value c.in_ok-place.ensures.lookup.0 c.in_ok-place.ensures.lookup.1 c.self.invariant in
    rw (← c.self.view_is)
    (sym (slice_get-map (λ (place : KeptPlace). place.key.value) c.self.inside.places.items c.args.index ∙ ap (option_map (λ (place : KeptPlace). place.key.value)) found.1))
