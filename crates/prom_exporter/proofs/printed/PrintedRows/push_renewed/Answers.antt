use Rattle.std.proofs.Common.{◌≡◌, ◌++◌, ◌-◌, length, length-drop, take, drop, sym, ap, ◌∙◌, arith}
use Rattle.std.specs.Prelude.{flat_map, string_bytes}
use Rattle.std.proofs.lemmas.Result.{on_ok_weaker}
use Rattle.prom_exporter.specs.Rows.{row_at}
use Rattle.prom_exporter.proofs.PieceTexts.{take-everything}
use Rattle.prom_exporter.proofs.Printing.{few-rows, rows-shown}
use Rattle.prom_exporter.proofs.Written.{rows-rest}
use Rattle.prom_exporter.proofs.printed.PrintedRows.push_renewed.Goals as goal

pub returns-clause-pushed : goal.returns-clause-pushed
returns-clause-pushed g c rows =
    let name = c.args.name.now in
    let sets = c.args.label_sets.now in
    let places = c.args.places.now in
    let live = c.args.series.now in
    let row = row_at g.C.Shown.shown name sets live in
    let values = c.renew.new.self.values.items in
    let buffer = string_bytes c.args.buffer.now in
    let kept = c.renew.ensures.rows rows in
    let text = rows-shown name sets g.C.Shown.shown live places values (string_bytes c.renew.new.self.text) kept c.renew.ensures.shown in
    let few = few-rows name sets places values (string_bytes c.renew.new.self.text) kept in
    let many : c.min-kept.result ≡ length values = omega (arith, few, c.min-kept.ensures, c.len.ensures) in
    let pushed = c.in_ok-push_str.ensures.bytes ∙ ap (λ l. buffer ++ l) (c.as_str.ensures.value ∙ text) in
    let kept_count = c.min-kept.result in
    let others = take-everything (length places - kept_count) (drop kept_count places) (omega (arith, length-drop kept_count places)) in
    on_ok_weaker c.push_rows.result
    (λ (is : string_bytes c.push_rows.new.buffer ≡ string_bytes c.push_str.new.self ++ flat_map row (take (length places - kept_count) (drop kept_count places))).
    is ∙ (λ j. pushed j ++ flat_map row (others j)) ∙ ap (λ n. (buffer ++ flat_map row (take (length values) places)) ++ flat_map row (drop n places)) many ∙ sym (rows-rest row places buffer (length values))) c.push_rows.ensures
