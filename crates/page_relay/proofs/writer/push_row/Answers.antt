use Rattle.std.proofs.Common.{◌≡◌, [], ◌∷◌, ◌++◌, map, ap, ◌∙◌, rules}
use Rattle.std.specs.Int.{w128}
use Rattle.std.specs.Int.RustNames.{FitsSigned}
use Rattle.std.proofs.lemmas.Int.{to_z-of_z}
use Rattle.std.specs.Prelude.{string_bytes}
use Rattle.metrics_core.specs.Numbers.{page_number}
use Rattle.prom_format.specs.Pages.{label_set_text}
use Rattle.page_relay.specs.Values.{label_of}
use Rattle.page_relay.proofs.Writing.{row_parts}
use Rattle.page_relay.proofs.writer.push_row.Goals as goal

pub returns : goal.returns
returns c =
    let old = c.args.text.now.items in
    let row = c.args.row.now in
    let labels = label_set_text (map label_of row.labels.items) in
    let named = c.in_ok-extend_from_slice.ensures.items ∙ ap (λ n. old ++ n) c.as_bytes.ensures.value in
    let labelled = c.in_ok-push_label_set.ensures ∙ (λ j. named j ++ label_set_text (map label_of (c.as_slice.ensures.value j))) in
    let spaced = c.in_ok-push.ensures.items ∙ ap (λ l. l ++ 32 ∷ []) labelled in
    let fits : FitsSigned w128 row.value = search rules in
    let value = to_z-of_z w128 row.value fits in
    let pushed = rw value at c.in_ok-push_fixed.ensures.ok in
    let number : c.as_bytes-2.result.now ≡ page_number row.value = c.as_bytes-2.ensures.value ∙ pushed ∙ ap (λ l. l ++ page_number row.value) c.new-number.ensures.bytes in
    let numbered = c.in_ok-extend_from_slice-2.ensures.items ∙ (λ j. spaced j ++ number j) in
    c.in_ok-push-2.ensures.items ∙ ap (λ l. l ++ 10 ∷ []) numbered ∙ row_parts old (string_bytes row.name) labels (page_number row.value)
