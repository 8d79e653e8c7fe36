use Rattle.std.proofs.Common.{◌∙◌, sym, Bor}
use Rattle.std.specs.Cmp.Lexicographic.{slice_cmp}
use Rattle.std.specs.Cmp.Derive.Mapped.{lex_map}
use Rattle.metrics_core.specs.Keys.{LabelText, label_cmp}
use Rattle.metrics_core.proofs.labels.compare_sorted.Goals as goal

abbrev text : Bor LabelText → LabelText
text label = label.now

-- references compare as the labels do
pub returns : goal.returns
returns c =
    c.cmp.ensures
    ∙ (λ i. slice_cmp (λ a b. label_cmp (text a) (text b)) (c.as_slice.ensures.value i) (c.as_slice-2.ensures.value i))
    ∙ sym (lex_map text label_cmp c.in_ok-labels.labels.items c.in_ok-others.others.items)
    ∙ (λ i. slice_cmp label_cmp (c.in_ok-labels.ensures i) (c.in_ok-others.ensures i))
