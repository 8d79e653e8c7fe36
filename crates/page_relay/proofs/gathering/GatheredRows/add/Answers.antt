use Rattle.std.proofs.Common.{rules, ◌≡◌, [], ◌∷◌, ◌++◌, map, length, ap, subst, sym, refl, ◌∙◌, unwrap_or}
use Rattle.std.specs.Int.{w128}
use Rattle.std.specs.Int.RustNames.{FitsSigned}
use Rattle.std.proofs.lemmas.Int.{to_z-of_z}
use Rattle.std.proofs.lemmas.List.{map_push}
use Rattle.indexmap.specs.IndexMap.{get}
use Rattle.page_relay.specs.Gathering.{AddsValue, row_key_eq, keyed}
use Rattle.page_relay.specs.Values.{row_of}
use Rattle.page_relay.proofs.MergedRows.{same_row_is}
use Rattle.page_relay.proofs.Gathered.{kept_step, new_step, value_step}
use Rattle.page_relay.proofs.gathering.GatheredRows.add.Goals as goal

pub returns-then-is_kept : goal.returns-then-is_kept
returns-then-is_kept c =
    let old = c.args.self.now in
    let made = c.in_ok-row_with_page.field-0 in
    let rows = ap (map row_of) c.in_ok-push.ensures.items ∙ map_push row_of old.rows.items made ∙ ap (λ r. map row_of old.rows.items ++ r ∷ []) c.in_ok-row_with_page.ensures in
    kept_step c.args.shape old (record { rows = c.push.new.self; places = old.places }) (record { page = c.args.page; row = row_of c.args.row.now })
    (sym c.is_kept.ensures ∙ c.if-is_kept.true) rows refl

pub returns-then-place-len : goal.returns-then-place-len
returns-then-place-len c =
    let old = c.args.self.now in
    let row = row_of c.args.row.now in
    let key = c.in_ok-key.key in
    let made = c.in_ok-copy_of.field-0 in
    let fits : FitsSigned w128 row.value = search rules in
    let len : c.len.result ≡ length old.rows.items = search rules in
    let len_again : c.len-2.result ≡ length old.rows.items = search rules in
    let rows = ap (map row_of) c.in_ok-push-2.ensures.items ∙ map_push row_of old.rows.items made ∙ ap (λ r. map row_of old.rows.items ++ r ∷ []) c.in_ok-copy_of.ensures in
    new_step c.args.shape old (record { rows = c.push-then-place-len.new.self; places = c.place_of.new.places }) (record { page = c.args.page; row = row })
    key ((same_row_is (keyed key) row).1 (c.in_ok-key.ensures.name, c.in_ok-key.ensures.labels)) (sym c.is_kept.ensures ∙ c.if-is_kept.false)
    c.in_ok-place.place (c.in_ok-place.ensures.place ∙ ap (unwrap_or (get row_key_eq old.places key)) len) c.in_ok-place.ensures.updates.0
    (c.if-place-len.true ∙ len_again) fits rows

pub returns : goal.returns
returns c =
    let old = c.args.self.now in
    let row = row_of c.args.row.now in
    let key = c.in_ok-key.key in
    let fits : FitsSigned w128 row.value = search rules in
    let value = to_z-of_z w128 row.value fits in
    let len : c.len.result ≡ length old.rows.items = search rules in
    let len_again : c.len-2.result ≡ length old.rows.items = search rules in
    value_step c.args.shape old (record { rows = c.add_value.new.rows; places = c.place_of.new.places }) (record { page = c.args.page; row = row })
    key ((same_row_is (keyed key) row).1 (c.in_ok-key.ensures.name, c.in_ok-key.ensures.labels)) (sym c.is_kept.ensures ∙ c.if-is_kept.false)
    c.in_ok-place.place (c.in_ok-place.ensures.place ∙ ap (unwrap_or (get row_key_eq old.places key)) len) c.in_ok-place.ensures.updates.0
    (λ e. c.if-place-len.false (e ∙ sym len_again)) c.add_value.result
    (subst (λ v. AddsValue (map row_of old.rows.items) (map row_of c.add_value.new.rows.items) c.in_ok-place.place v c.add_value.result) value c.add_value.ensures)
