use Rattle.std.proofs.Common.{◌≡◌, ◌+◌, ◌<◌, ◌∷◌, ◌++◌, take, drop, length, sym, ap, ◌∙◌, arith, length-append}
use Rattle.std.specs.Prelude.{pos}
use Rattle.std.proofs.lemmas.List.{at_drop_more, map-append, take-append-drop}
use Rattle.metrics_core.specs.declared.numbers.Fixed.{Fixed as FixedOf}
use Rattle.metrics_core.specs.Numbers.{dogstatsd_number}
use Rattle.dsd_writer.specs.Lines.{spelled_values, values_text}
use Rattle.dsd_writer.specs.Runs.{short_values}
use Rattle.dsd_writer.proofs.Running.{values_text-kept}
use Rattle.dsd_writer.proofs.many.push_values.Goals as goal

pub push_value-requires : goal.push_value-requires
push_value-requires c =
    let values = c.args.values.now in
    let i = c.loop-value.value-index in
    let text = c.of_value-text.result in
    let zero : FixedOf = record { 0 = pos 0 } in
    let next : spelled_values (drop i values) ≡ text ∷ spelled_values (drop (i + 1) values) =
    at_drop_more spelled_values values i zero c.loop-value-test.true ∙ ap (λ t. t ∷ spelled_values (drop (i + 1) values)) (sym c.of_value-text.ensures) in
    let all : spelled_values values ≡ spelled_values (take i values) ++ text ∷ spelled_values (drop (i + 1) values) =
    ap spelled_values (sym (take-append-drop i values)) ∙ map-append (λ (value : FixedOf). dogstatsd_number value.0) (take i values) (drop i values) ∙ ap (λ rest. spelled_values (take i values) ++ rest) next in
    let low : length text < c.args.room = omega (arith, c.if-len-room.true, c.len.ensures.len) in
    let size = ap (λ texts. length (values_text (short_values c.args.room texts))) all ∙ values_text-kept c.args.room (spelled_values (take i values)) (spelled_values (drop (i + 1) values)) text low in
    omega (
      arith,
      size,
      ap length c.loop-value.invariant.written,
      length-append c.args.bytes.now.items (values_text (short_values c.args.room (spelled_values (take i values)))),
      c.loop-value.invariant.capacity,
      c.requires,
    )
