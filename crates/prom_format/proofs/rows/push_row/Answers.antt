use Rattle.std.proofs.Common.{◌++◌, string_bytes, ap, ◌∙◌}
use Rattle.std.specs.Prelude.{codes}
use Rattle.std.specs.Int.{w128}
use Rattle.std.specs.Option.{option_copied}
use Rattle.std.proofs.lemmas.Int.{to_z-of_z}
use Rattle.metrics_core.specs.Numbers.{page_number}
use Rattle.prom_format.specs.Names.{full_name}
use Rattle.prom_format.specs.Lines.{lent_label}
use Rattle.prom_format.specs.PrintedRows.{label_set_with}
use Rattle.prom_format.proofs.PrintedRows.{pieces}
use Rattle.prom_format.proofs.rows.push_row.Goals as goal

pub returns-clause-ok : goal.returns-clause-ok
returns-clause-ok c =
    c.in_ok-push_str-2.ensures.bytes
    ∙ ap (λ bytes. bytes ++ codes "\n")
    (c.in_ok-push_fixed.ensures.ok
    ∙ ap (λ value. string_bytes c.push_str.new.self ++ page_number value) (to_z-of_z w128 c.args.value c.ranges.value)
    ∙ ap (λ bytes. bytes ++ page_number c.args.value)
    (c.in_ok-push_str.ensures.bytes
    ∙ ap (λ bytes. bytes ++ codes " ") (c.in_ok-push_label_set.ensures.ok ∙ ap (λ bytes. bytes ++ label_set_with c.args.labels.now (lent_label c.args.additional_label)) c.in_ok-push_full_name.ensures.ok)))
    ∙ pieces (string_bytes c.args.buffer.now) (full_name c.args.name.now c.args.unit (option_copied c.args.suffix)) (label_set_with c.args.labels.now (lent_label c.args.additional_label)) (codes " ") (page_number c.args.value) (codes "\n")
