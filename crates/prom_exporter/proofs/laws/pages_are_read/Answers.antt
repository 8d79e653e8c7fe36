use Rattle.prom_exporter.proofs.Printable.{page_reads}
use Rattle.prom_exporter.proofs.laws.pages_are_read.Goals as goal

pub returns : goal.returns
returns c = page_reads
