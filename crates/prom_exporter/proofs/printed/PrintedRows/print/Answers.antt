use Rattle.std.proofs.Common.{◌≡◌, ◌+◌, [], ◌∷◌, length, take, get_or, ap, sym, ◌∙◌, arith, length-append}
use Rattle.std.specs.Prelude.{string_bytes}
use Rattle.std.proofs.lemmas.List.{length-take, take_more}
use Rattle.prom_exporter.proofs.Printing.{found_shown, rows-more, rows-of_front, shows-more, shows-of_front}
use Rattle.prom_exporter.proofs.printed.PrintedRows.print.Goals as goal

pub returns-in_default-clause-rows : goal.returns-in_default-clause-rows
returns-in_default-clause-rows g c = rows-of_front c.args.name.now c.args.label_sets.now c.loop-place.place-index c.args.places.now c.loop-place.self.values.items (string_bytes c.loop-place.self.text) c.loop-place.invariant.rows

pub returns-in_default-clause-shown : goal.returns-in_default-clause-shown
returns-in_default-clause-shown g c = shows-of_front g.C.Shown.shown c.args.series.now c.loop-place.place-index c.args.places.now c.loop-place.self.values.items c.loop-place.invariant.shown

pub returns-in_default-cell-clause-rows : goal.returns-in_default-cell-clause-rows
returns-in_default-cell-clause-rows g c = rows-of_front c.args.name.now c.args.label_sets.now c.loop-place.place-index c.args.places.now c.loop-place.self.values.items (string_bytes c.loop-place.self.text) c.loop-place.invariant.rows

pub returns-in_default-cell-clause-shown : goal.returns-in_default-cell-clause-shown
returns-in_default-cell-clause-shown g c = shows-of_front g.C.Shown.shown c.args.series.now c.loop-place.place-index c.args.places.now c.loop-place.self.values.items c.loop-place.invariant.shown

pub loop-place-preserved : goal.loop-place-preserved
loop-place-preserved g c =
    let shown = g.C.Shown.shown in
    let i = c.loop-place.place-index in
    let places = c.args.places.now in
    let values = c.loop-place.self.values.items in
    let cell = c.in-Some-cell.cell.now in
    let many = c.loop-place.invariant.many in
    let here = c.loop-place-test.true in
    let alike : length (take i places) ≡ length values = omega (arith, here, many, length-take i places) in
    let value = c.billionths.result in
    record {
      rows = rw (c.in_ok-push.ensures.items, c.in_ok-push_line.ensures, take_more places i 0 (omega (arith, here)), ← c.billionths.ensures)
          (rows-more c.args.name.now c.args.label_sets.now (take i places) values (string_bytes c.loop-place.self.text) c.in-Some.labels.now (get_or places i 0) value alike (sym c.in-Some.ensures) c.loop-place.invariant.rows);
      shown = rw (c.in_ok-push.ensures.items, take_more places i 0 (omega (arith, here)))
          (shows-more shown c.args.series.now (take i places) values (get_or places i 0) value alike (found_shown shown c.args.series.now cell value.0 _ c.billionths.ensures c.in-Some-cell.ensures) c.loop-place.invariant.shown);
      many = ap length c.in_ok-push.ensures.items ∙ length-append values (value ∷ []) ∙ ap (λ n. n + 1) many;
    }
