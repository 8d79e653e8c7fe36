use Rattle.std.proofs.Common.{◌++◌, false, ap, ◌∙◌, string_bytes}
use Rattle.prom_format.specs.Lines.{additional_text, any_behind, label_texts, lent_label, separated}
use Rattle.prom_format.proofs.BracedLabels.{texts_closed, texts_joined}
use Rattle.prom_format.proofs.lines.push_braced_labels.Goals as goal

pub returns-clause-ok : goal.returns-clause-ok
returns-clause-ok c =
    let old = string_bytes c.args.buffer.now in
    let texts = label_texts c.args.labels.now in
    let more = additional_text (lent_label c.args.additional_label) in
    let written = c.in_ok-any.ensures.ok ∙ ap (λ labels. old ++ separated false (label_texts labels)) c.entries.ensures in
    let any = c.in_ok-any.ensures.any ∙ ap (λ labels. any_behind false (label_texts labels)) c.entries.ensures in
    let joined = texts_joined old (string_bytes c.push_entries.new.buffer) (string_bytes c.push_additional.new.buffer) c.in_ok-any.any c.in_ok-any-2.any texts more
    written any c.in_ok-any-2.ensures.ok c.in_ok-any-2.ensures.any in
    texts_closed old (string_bytes c.push_additional.new.buffer) _ c.in_ok-any-2.any (texts ++ more) joined.0 joined.1 c.in_ok-close_braces.ensures.ok
