use Rattle.std.proofs.Common.{sym, ap, ◌∙◌, fold}
use Rattle.value_bags.specs.Entries.{with_keys}
use Rattle.evmap_contents.specs.Fold.{without_place}
use Rattle.evmap_contents.proofs.Altered.{without_place-plain}
use Rattle.evmap_contents.proofs.entries.remove_places.Goals as goal

pub loop-place-preserved-in-Some : goal.loop-place-preserved-in-Some
loop-place-preserved-in-Some g c =
    let es = c.loop-place.map.entries in
    let r = c.swap_remove_index.ensures in
    ap (λ l. fold without_place l c.next.new.self) (without_place-plain g.K.KeyClone.plain es c.swap_remove_index.new.self.entries c.in-Some.place.now c.swap_remove_index.result r.entry r.entries r.unchanged)
    ∙ ap (fold without_place (with_keys g.K.KeyClone.plain es)) (sym c.in-Some.ensures.steps) ∙ c.loop-place.invariant

pub loop-place-preserved : goal.loop-place-preserved
loop-place-preserved g c =
    let es = c.loop-place.map.entries in
    let r = c.swap_remove_index.ensures in
    ap (λ l. fold without_place l c.next.new.self) (without_place-plain g.K.KeyClone.plain es c.swap_remove_index.new.self.entries c.in-Some.place.now c.swap_remove_index.result r.entry r.entries r.unchanged)
    ∙ ap (fold without_place (with_keys g.K.KeyClone.plain es)) (sym c.in-Some.ensures.steps) ∙ c.loop-place.invariant
