use Rattle.std.proofs.Common.{◌≡◌, None, refl, sym}
use Rattle.evmap_contents.specs.Fold.{after}
use Rattle.evmap_contents.specs.Views.{contents}
use Rattle.evmap_core.specs.Asked.{bag_under}
use Rattle.evmap_core.proofs.Found.{IsPlaceOf, shows, finds-bag, none-found}
use Rattle.evmap_core.proofs.reader.ReadHandle.get.Goals as goal

pub returns-in-Some : goal.returns-in-Some
returns-in-Some g c =
    let plain = g.K.KeyClone.plain in
    let same = g.K.KeyClone.same in
    let step = after same g.V.PartialEq.eq g.P.Keep.keeps in
    let key = plain c.args.key.now in
    let reading = c.in-Some.reading in
    let place = c.place_of-place.result in
    let entry = c.entry_at.ensures.entry in
    let found : IsPlaceOf same key (contents plain c.get.result.now.inner) place = (c.place_of-place.ensures.bag, c.place_of-place.ensures.found) in (
      (
        refl,
        c.entry_at.follows.holds,
        none-found plain step same key reading place (IsPlaceOf same key) (λ z. bag_under same key z ≡ None) _ _ _ c.get.result.now c.entry_at.result (λ z h. sym h.0) c.in-Some.ensures.0 c.in-Some.ensures.1 c.get.ensures found entry c.entry_at.follows.holds-at-none,
      ),
      record {
        rests = tt;
        same_reference = c.entry_at.ensures.same_reference;
        front = shows plain step same key reading place _ c.entry_at.result c.in-Some.ensures.0 c.in-Some.ensures.1 entry;
        bag = finds-bag plain step same key reading place c.get.result.now c.entry_at.result c.get.ensures found entry;
      },
    )
