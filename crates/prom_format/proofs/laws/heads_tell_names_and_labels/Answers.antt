use Rattle.prom_format.proofs.PagesReadOnce.{row_head_told}
use Rattle.prom_format.proofs.laws.heads_tell_names_and_labels.Goals as goal

pub returns : goal.returns
returns c = row_head_told
