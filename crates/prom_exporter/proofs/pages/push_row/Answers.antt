use Rattle.std.proofs.Common.{sym}
use Rattle.prom_exporter.proofs.Written.{row_at-found}
use Rattle.prom_exporter.proofs.pages.push_row.Goals as goal

pub returns : goal.returns
returns g c =
    rw (row_at-found g.C.Shown.shown c.args.name.now c.args.label_sets.now c.args.series.now c.args.place c.in-Some.labels.now c.in-Some-cell.cell.now (sym c.in-Some.ensures) c.in-Some-cell.ensures) c.push_line.ensures
