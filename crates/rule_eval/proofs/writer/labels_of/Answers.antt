use Rattle.std.proofs.Common.{◌≡◌, ◌∷◌, [], ◌++◌, ◌<◌, ◌≤◌, map, get_or, length, sym, ap, ◌∙◌, arith}
use Rattle.std.specs.Prelude.{string_bytes}
use Rattle.std.proofs.lemmas.Bool.{ltb-true, ltb-false}
use Rattle.std.proofs.lemmas.List.{map_push}
use Rattle.prom_format.specs.Names.{sanitized_label_name}
use Rattle.page_relay.specs.Values.{label_of}
use Rattle.rule_eval.proofs.Pairs.{labels_more, labels_end}
use Rattle.rule_eval.proofs.writer.labels_of.Goals as goal

pub returns-in_default : goal.returns-in_default
returns-in_default c =
    let i = c.loop-place.place in
    let keys = c.args.keys.now in
    let values = c.args.values.now in
    let within : i ≤ length keys = omega (arith, c.loop-place-test.true) in
    let short : length values ≤ i = ltb-false i (length values) (sym c.in_default.ensures.lookup.0) in
    c.loop-place.invariant.0 ∙ labels_end string_bytes string_bytes keys values i within short

pub loop-place-preserved : goal.loop-place-preserved
loop-place-preserved c =
    let i = c.loop-place.place in
    let keys = c.args.keys.now in
    let values = c.args.values.now in
    let more : i < length values = ltb-true i (length values) (sym c.in-Some.ensures.lookup.0) in
    let key : string_bytes c.in_ok-key.key ≡ sanitized_label_name (string_bytes c.index-keys-place.result) = c.in_ok-key.ensures ∙ ap sanitized_label_name c.as_str.ensures.value in
    let text : string_bytes c.in_ok-from_str.field-0 ≡ string_bytes c.in-Some.value.now = c.in_ok-from_str.ensures.ok ∙ c.as_str-in-loop-place.ensures.value in
    let found : string_bytes c.in-Some.value.now ≡ string_bytes (get_or values i c.in-Some.value.now) = ap string_bytes c.in-Some.ensures.lookup.1 in
    let at : string_bytes c.index-keys-place.result ≡ string_bytes (get_or keys i c.index-keys-place.result) = ap string_bytes c.index-keys-place.is in (
      ap (map label_of) c.in_ok-push.ensures.items ∙ map_push label_of c.loop-place.labels.items (c.in_ok-key.key, c.in_ok-from_str.field-0)
          ∙ (λ j. c.loop-place.invariant.0 j ++ record { key = (key ∙ ap sanitized_label_name at) j; value = (text ∙ found) j } ∷ [])
          ∙ sym (labels_more string_bytes string_bytes keys values i c.index-keys-place.result c.in-Some.value.now c.loop-place-test.true more),
      omega (arith, more),
    )
