use Rattle.std.proofs.Common.{◌≡◌, [], ◌∷◌, ◌++◌, map, length, sym, ap, ◌∙◌}
use Rattle.std.proofs.lemmas.List.{length-map}
use Rattle.prom_format.specs.LabelSets.{labels_of}
use Rattle.prom_format.specs.Names.{sanitized_metric_name}
use Rattle.prom_exporter.specs.Rows.{RowsText, family_kept, label_set_of}
use Rattle.prom_exporter.specs.Values.{with_member}
use Rattle.prom_exporter.proofs.KeptRows.{rows-push}
use Rattle.prom_exporter.proofs.Printing.{printed-longer}
use Rattle.prom_exporter.proofs.rows.Rows.add.Goals as goal

pub returns-clause-added : goal.returns-clause-added
returns-clause-added c keys is =
    let globals = labels_of c.args.globals.now.entries in
    let key = c.args.key.now in
    let kept = c.self.view_is ∙ is in
    let label_sets = ap (λ (r : RowsText). r.label_sets) kept in
    let families = ap (λ (r : RowsText). r.families) kept in
    let place : c.len-place.result ≡ length keys = c.len-place.ensures ∙ ap length label_sets ∙ length-map keys (label_set_of globals) in
    let head_more : c.push.new.self ≡ map (label_set_of globals) keys ++ label_set_of globals key ∷ [] =
    c.in_ok-push.ensures.pushed ∙ ap (λ l. l ++ label_set_of globals key ∷ []) label_sets in
    let name = ap sanitized_metric_name c.name.ensures.text in
    let family_more = c.in_default.ensures.added ∙ (λ j. with_member (families j) (name j) (place j)) in
    (λ j. record { label_sets = head_more j; families = family_more j }) ∙ sym (rows-push globals keys key)

pub invariant_of-self-in_default : goal.invariant_of-self-in_default
invariant_of-self-in_default c =
    rw (c.in_ok-push.ensures.pushed, c.in_default.ensures.added)
    (printed-longer c.self.inside.label_sets (label_set_of (labels_of c.args.globals.now.entries) c.args.key.now ∷ []) (map family_kept c.self.inside.families.entries) (sanitized_metric_name c.name.result.now) c.len-place.result
    c.self.inside.printed.items c.self.invariant)
