use Rattle.std.proofs.Common.{◌≡◌, ◌++◌, ℕ, List, ap, ◌∙◌, subst, append_assoc}
use Rattle.std.specs.Prelude.{OnOk, Some, None, codes, string_bytes}
use Rattle.std.specs.Int.{w128}
use Rattle.std.proofs.lemmas.Int.{to_z-of_z}
use Rattle.metrics_core.specs.Numbers.{whole}
use Rattle.prom_format.specs.PrintedRows.{row_line}
use Rattle.distribution_rows.proofs.parts.push_sum_and_count.Goals as goal

pub returns : goal.returns
returns c =
    let name = c.args.name.now in
    let labels = c.args.labels.now in
    let P : List ℕ → Type 0 = λ text. OnOk c.write_row-2.result (string_bytes c.write_row-2.new.buffer ≡ text) in
    let first : string_bytes c.write_row.new.buffer ≡ string_bytes c.args.buffer.now ++ row_line name None (Some (codes "sum")) labels None c.args.sum =
    c.in_ok-write_row.ensures.ok ∙ ap (λ s. string_bytes c.args.buffer.now ++ row_line name None (Some (codes "sum")) labels None s) (to_z-of_z w128 c.args.sum c.ranges.sum) in
    let count = to_z-of_z w128 c.whole_value.result (record { sfits = c.whole_value.type_inv }) ∙ c.whole_value.ensures in
    subst P
    ((λ j. first j ++ row_line name None (Some (codes "count")) labels None (count j))
    ∙ append_assoc (string_bytes c.args.buffer.now) (row_line name None (Some (codes "sum")) labels None c.args.sum) (row_line name None (Some (codes "count")) labels None (whole c.args.count)))
    c.write_row-2.ensures.ok
