use Rattle.std.proofs.Common.{◌≡◌, Some, None, sym, ap, ◌∙◌}
use Rattle.std.specs.Prelude.{string_bytes, slice_get}
use Rattle.prom_exporter.proofs.PieceTexts.{found-at, no_piece-at, past-end}
use Rattle.prom_exporter.proofs.label_sets.LabelSets.get.Goals as goal

pub returns-in_err-end : goal.returns-in_err-end
returns-in_err-end c =
    let ends = c.self.inside.ends.items in
    let none : slice_get ends c.args.place ≡ None = ap (λ l. slice_get l c.args.place) (sym c.as_slice-ends.ensures.value) ∙ past-end c.as_slice-ends.result.now c.args.place c.in_err-end.ensures.lookup.0 in
    rw (c.from_residual.ensures, ← c.self.view_is) (sym (no_piece-at (string_bytes c.self.inside.text) 0 ends c.args.place none))

pub range-requires-clause-start_le_end : goal.range-requires-clause-start_le_end
range-requires-clause-start_le_end c = (found-at (string_bytes c.self.inside.text) c.as_str-text.result.now c.self.inside.ends.items c.as_slice-ends.result.now c.args.place c.begin_at-begin.result c.in_ok-end.field-0.now c.as_str-text.ensures.value c.as_str-text.utf8 c.as_slice-ends.ensures.value c.in_ok-end.ensures.lookup.0 c.in_ok-end.ensures.lookup.1 c.begin_at-begin.ensures c.self.invariant).up

pub range-requires-clause-start_boundary : goal.range-requires-clause-start_boundary
range-requires-clause-start_boundary c = λ some. (found-at (string_bytes c.self.inside.text) c.as_str-text.result.now c.self.inside.ends.items c.as_slice-ends.result.now c.args.place c.begin_at-begin.result c.in_ok-end.field-0.now c.as_str-text.ensures.value c.as_str-text.utf8 c.as_slice-ends.ensures.value c.in_ok-end.ensures.lookup.0 c.in_ok-end.ensures.lookup.1 c.begin_at-begin.ensures c.self.invariant).front

pub range-requires-clause-end_boundary : goal.range-requires-clause-end_boundary
range-requires-clause-end_boundary c = (found-at (string_bytes c.self.inside.text) c.as_str-text.result.now c.self.inside.ends.items c.as_slice-ends.result.now c.args.place c.begin_at-begin.result c.in_ok-end.field-0.now c.as_str-text.ensures.value c.as_str-text.utf8 c.as_slice-ends.ensures.value c.in_ok-end.ensures.lookup.0 c.in_ok-end.ensures.lookup.1 c.begin_at-begin.ensures c.self.invariant).back

pub returns : goal.returns
returns c = ap Some (c.range.ensures.value) ∙ sym (found-at (string_bytes c.self.inside.text) c.as_str-text.result.now c.self.inside.ends.items c.as_slice-ends.result.now c.args.place c.begin_at-begin.result c.in_ok-end.field-0.now c.as_str-text.ensures.value c.as_str-text.utf8 c.as_slice-ends.ensures.value c.in_ok-end.ensures.lookup.0 c.in_ok-end.ensures.lookup.1 c.begin_at-begin.ensures c.self.invariant).text ∙ ap (λ l. slice_get l c.args.place) c.self.view_is
