use Rattle.std.proofs.Common.{◌≡◌, ◌++◌, false, sym, ap, ◌∙◌, string_bytes}
use Rattle.metrics_core.specs.Keys.{label_set}
use Rattle.prom_format.specs.LabelSets.{labels_of}
use Rattle.prom_format.specs.Lines.{any_behind, label_texts, separated}
use Rattle.prom_format.proofs.BracedLabels.{labels_closed, labels_joined}
use Rattle.prom_format.proofs.heads.push_label_set.Goals as goal
use Rattle.prom_format.proofs.heads.push_label_set.Goals.{then-have_own_keys+in_ok-any+in_ok-any-2, else-have_own_keys+in_ok-labels+in_ok-any-3}

pub returns-clause-ok : goal.returns-clause-ok
returns-clause-ok c =
    let old = string_bytes c.args.buffer.now in
    let globals = labels_of c.args.globals.now.entries in
    let set = label_set globals c.args.key.now.labels in
    let labels_are = c.as_slice-labels.ensures.value ∙ c.labels.ensures.rest in
    let written : (string_bytes c.if-have_own_keys.buffer ≡ old ++ separated false (label_texts set)) × (c.if-have_own_keys.any ≡ any_behind false (label_texts set)) =
    elim c.if-have_own_keys.branch [
      | then-have_own_keys+in_ok-any+in_ok-any-2 w ↦
          let whole : globals ++ c.as_slice-labels.result.now ≡ set = sym (c.have_own_keys.ensures w.if-have_own_keys.true) ∙ ap (label_set globals) labels_are in
          let joined = labels_joined old (string_bytes w.push_entries.new.buffer) (string_bytes w.push_labels.new.buffer) w.in_ok-any.any w.in_ok-any-2.any globals c.as_slice-labels.result.now
          w.in_ok-any.ensures.ok w.in_ok-any.ensures.any w.in_ok-any-2.ensures.ok w.in_ok-any-2.ensures.any in (
            ap string_bytes w.buffer-is ∙ joined.0 ∙ ap (λ labels. old ++ separated false (label_texts labels)) whole,
            w.any-is ∙ joined.1 ∙ ap (λ labels. any_behind false (label_texts labels)) whole,
          )
      | else-have_own_keys+in_ok-labels+in_ok-any-3 w ↦
          let whole = w.in_ok-labels.ensures.labels in (
            ap string_bytes w.buffer-is ∙ w.in_ok-any-3.ensures.ok ∙ ap (λ labels. old ++ separated false (label_texts labels)) whole,
            w.any-is ∙ w.in_ok-any-3.ensures.any ∙ ap (λ labels. any_behind false (label_texts labels)) whole,
          )
    ] in
    labels_closed old (string_bytes c.if-have_own_keys.buffer) _ c.if-have_own_keys.any set written.0 written.1 c.in_ok-close_braces.ensures.ok
