use Rattle.std.proofs.Common.{rules, ◌≡◌, ◌<◌, ℕ, ℤ, List, Some, map, set, length, ap, ◌∙◌, sym, subst, ◌+ℤ◌, option_map}
use Rattle.std.specs.Prelude.{slice_get}
use Rattle.std.specs.Int.{w128}
use Rattle.std.specs.Int.RustNames.{FitsSigned}
use Rattle.std.proofs.lemmas.Bool.{ltb-true}
use Rattle.std.proofs.lemmas.Int.{to_z-of_z}
use Rattle.std.proofs.lemmas.List.{map-set}
use Rattle.std.proofs.lemmas.Option.{slice_get-map, slice_get_read}
use Rattle.page_relay.specs.Gathering.{with_value}
use Rattle.page_relay.specs.Values.{row_of}
use Rattle.page_relay.specs.declared.pages.PageRow.{PageRow}
use Rattle.page_relay.proofs.gathering.add_value.Goals as goal

write : (rows : List PageRow) (place : ℕ) (row : PageRow) (x y : ℤ) → x ≡ y → map row_of (set rows place (record { name = row.name; labels = row.labels; value = x })) ≡ set (map row_of rows) place (with_value (row_of row) y)
write rows place row x y e =
    map-set row_of rows place (record { name = row.name; labels = row.labels; value = x }) ∙ ap (λ v. set (map row_of rows) place (with_value (row_of row) v)) e

pub returns : goal.returns
returns c =
    let rows = c.args.rows.now.items in
    let row = c.in-Some.row.now in
    let row_fits : FitsSigned w128 row.value = search rules in
    let value_fits : FitsSigned w128 c.args.value = search rules in
    let left = to_z-of_z w128 row.value row_fits in
    let right = to_z-of_z w128 c.args.value value_fits in
    let checked = c.in-Some-checked_add.ensures in
    let sum : c.in-Some-checked_add.sum ≡ row.value +ℤ c.args.value = checked.1 ∙ (λ j. left j +ℤ right j) in
    let sum_fits : FitsSigned w128 (row.value +ℤ c.args.value) = subst (FitsSigned w128) (λ j. left j +ℤ right j) checked.0 in
    let stored = to_z-of_z w128 c.in-Some-checked_add.sum (subst (FitsSigned w128) (sym sum) sum_fits) in
    let within : c.args.place < length rows = ltb-true c.args.place (length rows) (sym c.in-Some.ensures.item.0) in
    let there : slice_get rows c.args.place ≡ Some row = slice_get_read rows (length rows) c.args.place row (λ _. length rows) within c.in-Some.ensures.value in
    (row_of row, slice_get-map row_of rows c.args.place ∙ ap (option_map row_of) there, sum_fits, write rows c.args.place row _ _ (stored ∙ sum))
