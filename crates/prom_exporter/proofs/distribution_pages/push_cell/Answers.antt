use Rattle.std.proofs.Common.{◌++◌, ap, ◌∙◌}
use Rattle.std.specs.Prelude.{flat_map, string_bytes}
use Rattle.std.proofs.lemmas.Result.{on_ok_weaker}
use Rattle.prom_format.specs.Pages.{row_text}
use Rattle.histogram_series.specs.Series.{recorded}
use Rattle.distribution_rows.specs.Series.{series_row}
use Rattle.prom_exporter.proofs.distribution_pages.push_cell.Goals as goal

pub returns : goal.returns
returns c =
    let cell = c.args.cell.now in
    on_ok_weaker c.push_rows.result
    (λ is set printed.
    (let rows = c.distributions_show_what_is_recorded.ensures (series_row c.args.name.now set) c.args.moment cell.series.kind (recorded cell.series) c.distribution.result.now c.distribution.ensures.recorded in
    is set printed ∙ ap (λ l. string_bytes c.args.buffer.now ++ flat_map row_text l) rows))
    c.push_rows.ensures
