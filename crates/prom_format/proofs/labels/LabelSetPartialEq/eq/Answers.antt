use Rattle.std.proofs.Common.{Bool, sym, ◌∙◌}
use Rattle.std.specs.Cmp.Derive.Mapped.{pointwise-map}
use Rattle.std.specs.Cmp.Lexicographic.{pointwise}
use Rattle.std.specs.declared.alloc.Global.{Global}
use Rattle.std.specs.declared.string.String.{String}
use Rattle.metrics_core.specs.Keys.{label_eq}
use Rattle.prom_format.specs.LabelSets.{label_of_entry}
use Rattle.prom_format.proofs.labels.LabelSetPartialEq.eq.Goals as goal

abbrev same_entry : String Global × String Global → String Global × String Global → Bool
same_entry p q = label_eq (label_of_entry p) (label_of_entry q)

pub returns : goal.returns
returns c =
    c.eq.ensures
    ∙ (λ i. pointwise same_entry (c.as_slice.ensures.entries i) (c.as_slice-2.ensures.entries i))
    ∙ sym (pointwise-map label_of_entry label_eq c.self.inside.labels.entries c.other.inside.labels.entries)
    ∙ (λ i. pointwise label_eq (c.self.view_is i) (c.other.view_is i))
