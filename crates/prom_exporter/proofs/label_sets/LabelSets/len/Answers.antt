use Rattle.std.proofs.Common.{sym, ap, ◌∙◌, length}
use Rattle.std.specs.Prelude.{string_bytes}
use Rattle.prom_exporter.proofs.PieceTexts.{length-pieces}
use Rattle.prom_exporter.proofs.label_sets.LabelSets.len.Goals as goal

pub returns : goal.returns
returns c = c.len.ensures ∙ c.self.inside.ends.ok.0 ∙ sym (length-pieces (string_bytes c.self.inside.text) 0 c.self.inside.ends.items) ∙ ap length c.self.view_is
