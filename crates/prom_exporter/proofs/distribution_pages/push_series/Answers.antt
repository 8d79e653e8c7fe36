use Rattle.std.proofs.Common.{◌≡◌, ◌++◌, Some, sym, ap, ◌∙◌}
use Rattle.std.specs.Prelude.{slice_get, string_bytes}
use Rattle.std.proofs.lemmas.Result.{on_ok_weaker}
use Rattle.prom_format.specs.Lines.{shown_label_set}
use Rattle.prom_exporter.specs.Rows.{RowsText}
use Rattle.prom_exporter.proofs.SampledPages.{found-at, found-lines}
use Rattle.prom_exporter.proofs.distribution_pages.push_series.Goals as goal

pub push_cell-requires : goal.push_cell-requires
push_cell-requires c =
    let rows = c.args.rows.now in
    let place = c.args.place in
    let at : slice_get rows.label_sets place ≡ Some c.in-Some.labels.now = ap (λ (r : RowsText). slice_get r.label_sets place) (sym c.rows.view_is) ∙ sym c.in-Some.ensures in
    let found = found-at c.requires.kept.0 c.args.series.now rows place c.in-Some.labels.now c.in-Some-cell.cell.now c.requires.kept.1 at c.in-Some-cell.ensures in
    record { labels = (shown_label_set c.requires.kept.0 found.series.key.labels, found.labels_are) }

pub returns : goal.returns
returns c =
    let rows = c.args.rows.now in
    let live = c.args.series.now in
    let name = c.args.name.now in
    let place = c.args.place in
    let labels = c.in-Some.labels.now in
    let cell = c.in-Some-cell.cell.now in
    let at : slice_get rows.label_sets place ≡ Some labels = ap (λ (r : RowsText). slice_get r.label_sets place) (sym c.rows.view_is) ∙ sym c.in-Some.ensures in
    on_ok_weaker c.push_cell.result
    (λ is globals shown.
    (let found = found-at globals live rows place labels cell shown at c.in-Some-cell.ensures in
    is (shown_label_set globals found.series.key.labels) found.labels_are
    ∙ ap (λ l. string_bytes c.args.buffer.now ++ l) (found-lines globals c.args.moment live name place labels cell found)))
    c.push_cell.ensures
