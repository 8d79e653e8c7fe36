use Rattle.std.proofs.Common.{◌≡◌, refl}
use Rattle.evmap_contents.specs.Fold.{after}
use Rattle.evmap_core.specs.Asked.{bag_under, count_at}
use Rattle.evmap_core.proofs.Found.{IsFilledPlaceOf, shows, finds-one, none-found}
use Rattle.evmap_core.proofs.reader.ReadHandle.get_one.Goals as goal

pub returns-in-Some : goal.returns-in-Some
returns-in-Some g c =
    let plain = g.K.KeyClone.plain in
    let same = g.K.KeyClone.same in
    let step = after same g.V.PartialEq.eq g.P.Keep.keeps in
    let key = plain c.args.key.now in
    let reading = c.in-Some.reading in
    let place = c.filled_place_of-place.result in
    let entry = c.entry_at.ensures.entry in
    let found = c.filled_place_of-place.ensures in (
      (
        refl,
        c.entry_at.follows.holds,
        none-found plain step same key reading place (IsFilledPlaceOf same key) (λ z. count_at (bag_under same key z) ≡ 0) _ _ _ c.get.result.now c.entry_at.result (λ z h. h) c.in-Some.ensures.0 c.in-Some.ensures.1 c.get.ensures found entry c.entry_at.follows.holds-at-none,
      ),
      record {
        rests = tt;
        same_reference = c.entry_at.ensures.same_reference;
        front = shows plain step same key reading place _ c.entry_at.result c.in-Some.ensures.0 c.in-Some.ensures.1 entry;
        bag = finds-one plain step same key reading place c.get.result.now c.entry_at.result c.get.ensures found entry;
      },
    )
