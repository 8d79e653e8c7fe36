use Rattle.prom_format.proofs.PagesReadOnce.{page_told, body_told}
use Rattle.prom_format.proofs.laws.one_reading.Goals as goal

pub returns : goal.returns
returns c = record { page = page_told; body = body_told }
