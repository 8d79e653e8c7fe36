use Rattle.prom_exporter.specs.Vectors as vectors
use Rattle.prom_exporter.proofs.laws.basic_page.Goals as goal

pub returns : goal.returns
returns c = vectors.basic_page
