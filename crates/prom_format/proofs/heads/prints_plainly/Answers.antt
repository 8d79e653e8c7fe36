use Rattle.std.proofs.Common.{◌≡◌, ◌++◌, sym, ap, ◌∙◌}
use Rattle.std.specs.List.{list_all}
use Rattle.std.proofs.lemmas.Bool.{false≢true}
use Rattle.metrics_core.specs.Keys.{label_set}
use Rattle.prom_format.specs.LabelSets.{labels_of}
use Rattle.prom_format.specs.Names.{begins_metric_name, is_name}
use Rattle.prom_format.specs.PlainKeys.{is_plain_label}
use Rattle.prom_format.proofs.NameLaws.{sanitized_metric_name-of_name}
use Rattle.prom_format.proofs.PlainKeys.{shown_behind}
use Rattle.prom_format.proofs.heads.prints_plainly.Goals as goal
use Rattle.prom_format.proofs.heads.prints_plainly.Goals.{then-is_name, else-is_name}

pub returns-then-are_plain : goal.returns-then-are_plain
returns-then-are_plain c = λ own.
    let key = c.args.key.now in
    let globals = labels_of c.args.globals.now.entries in
    let labels_are = c.as_slice-labels.ensures.value ∙ c.labels.ensures.rest in
    let set : label_set globals key.labels ≡ globals ++ key.labels =
    ap (label_set globals) (sym labels_are) ∙ c.have_own_keys.ensures own ∙ ap (λ labels. globals ++ labels) labels_are in
    elim c.if-is_name.branch [
      | then-is_name w ↦ record {
        named = sanitized_metric_name-of_name key.name (ap (is_name begins_metric_name) (sym c.name.ensures.text) ∙ sym c.is_name.ensures ∙ w.if-is_name.true);
        labelled = shown_behind globals key.labels (ap (list_all is_plain_label) (sym labels_are) ∙ sym w.are_plain.ensures ∙ sym w.value-is ∙ c.if-are_plain.true) set;
      }
      | else-is_name w ↦ absurd (false≢true (sym w.if-is_name.false ∙ sym w.value-is ∙ c.if-are_plain.true))
    ]
