use Rattle.prom_format.proofs.PrintedRows.{set_with}
use Rattle.prom_format.proofs.rows.printed_rows_are_rows.Goals as goal

pub returns : goal.returns
returns c = set_with
