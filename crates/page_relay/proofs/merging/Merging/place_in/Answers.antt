use Rattle.std.proofs.Common.{rules, ◌≡◌, [], ap, sym, subst, refl, ◌∙◌, unwrap_or, length}
use Rattle.std.specs.Prelude.{option_map, string_bytes}
use Rattle.std.specs.String.{string_eq}
use Rattle.indexmap.specs.IndexMap.{get}
use Rattle.page_relay.specs.Gathering.{RowsSoFar}
use Rattle.page_relay.specs.Values.{family_of}
use Rattle.page_relay.proofs.Gathered.{new_stands, placed_new, placed_there}
use Rattle.page_relay.proofs.merging.Merging.place_in.Goals as goal

pub returns-in_ok-push : goal.returns-in_ok-push
returns-in_ok-push c page before stand =
    let old = c.args.self.now in
    let name = c.in_ok-text_of.field-0 in
    let made = c.new.result in
    let len : c.len-next.result ≡ length old.families.items = search rules in
    let at = c.in_ok-place.ensures.place ∙ ap (unwrap_or (get string_eq old.places name)) len in
    let next = c.if-place-next.true ∙ len in
    placed_new old (record { families = c.push.new.self; places = c.place_of.new.places }) before stand (record { page = page; family = family_of c.args.family.now })
    name c.in_ok-place.place c.in_ok-text_of.ensures at c.in_ok-place.ensures.updates.0 made next c.in_ok-push.ensures.items
    (new_stands old (record { families = c.push.new.self; places = c.place_of.new.places }) before stand (record { page = page; family = family_of c.args.family.now })
    name c.in_ok-place.place c.in_ok-text_of.ensures at c.in_ok-place.ensures.updates.0 made next (ap string_bytes c.new.ensures.name ∙ c.in_ok-name.ensures) c.new.ensures.shape
    (ap (option_map string_bytes) c.new.ensures.help) (subst (λ s. RowsSoFar s made.rows []) (sym c.new.ensures.shape) c.new.ensures.rows))

pub returns-else-place-next : goal.returns-else-place-next
returns-else-place-next c page before stand =
    let old = c.args.self.now in
    let name = c.in_ok-text_of.field-0 in
    let len : c.len-next.result ≡ length old.families.items = search rules in
    placed_there old (record { families = old.families; places = c.place_of.new.places }) before stand (record { page = page; family = family_of c.args.family.now })
    name c.in_ok-place.place c.in_ok-text_of.ensures (c.in_ok-place.ensures.place ∙ ap (unwrap_or (get string_eq old.places name)) len) c.in_ok-place.ensures.updates.0
    (λ e. c.if-place-next.false (e ∙ sym len)) refl
