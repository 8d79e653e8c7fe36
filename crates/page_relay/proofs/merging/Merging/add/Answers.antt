use Rattle.std.proofs.Common.{◌≡◌, set, sym, refl, ◌∙◌, length, Some}
use Rattle.std.specs.Prelude.{slice_get}
use Rattle.std.specs.Vec.{with_item}
use Rattle.std.proofs.lemmas.Bool.{false≢true, lt-ltb, ltb-true}
use Rattle.std.proofs.lemmas.Option.{slice_get_read}
use Rattle.page_relay.specs.Gathering.{TakesMember, TakesFamily}
use Rattle.page_relay.specs.Values.{family_of}
use Rattle.page_relay.proofs.Gathered.{family_step, ok_map, place_within}
use Rattle.page_relay.proofs.merging.Merging.add.Goals as goal

pub returns-in_default : goal.returns-in_default
returns-in_default c before stand merges =
    let mid = c.place_in.new.self in
    let within = place_within mid before (record { page = c.args.page; family = family_of c.args.family.now }) c.in_ok-place.place (c.in_ok-place.ensures c.args.page before stand) in
    false≢true (c.in_default.ensures.item.0 ∙ lt-ltb c.in_ok-place.place (length mid.families.items) within)

pub returns : goal.returns
returns c =
    let mid = c.place_in.new.self in
    let place = c.in_ok-place.place in
    let member = c.in-Some.same.now in
    let there : slice_get mid.families.items place ≡ Some member =
    slice_get_read mid.families.items (length mid.families.items) place member (λ _. length mid.families.items) (ltb-true place (length mid.families.items) (sym c.in-Some.ensures.item.0)) c.in-Some.ensures.value in
    ok_map c.add.result (TakesMember member c.add.new.self (record { page = c.args.page; family = family_of c.args.family.now }))
    (TakesFamily c.args.self.now (record { families = with_item mid.families place c.add.new.self; places = mid.places }) (record { page = c.args.page; family = family_of c.args.family.now }))
    (family_step c.args.self.now mid (record { families = with_item mid.families place c.add.new.self; places = mid.places }) (record { page = c.args.page; family = family_of c.args.family.now }) place member c.add.new.self
    c.in_ok-place.ensures there (λ _. set mid.families.items place c.add.new.self) refl) c.add.ensures
