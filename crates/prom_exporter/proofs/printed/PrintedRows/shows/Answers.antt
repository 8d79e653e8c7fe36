use Rattle.std.proofs.Common.{rules, ap, ◌≡◌, length, take, get_or, sym, ◌∙◌, arith}
use Rattle.std.proofs.lemmas.List.{length-take, take_more}
use Rattle.prom_exporter.specs.declared.cells.Billionths.{Billionths}
use Rattle.prom_exporter.proofs.Printing.{found_shown, shows-more}
use Rattle.prom_exporter.proofs.printed.PrintedRows.shows.Goals as goal

pub loop-index-preserved : goal.loop-index-preserved
loop-index-preserved g c =
    let shown = g.C.Shown.shown in
    let i = c.loop-index.index in
    let places = c.args.places.now in
    let values = c.args.self.now.values.items in
    let value = c.index.result.now in
    let many = c.loop-index.invariant.many in
    let here = c.loop-index-test.true in
    let alike : length (take i places) ≡ length (take i values) = omega (arith, here, many, length-take i places, length-take i values) in
    let by_value : value.0 ≡ shown c.in-Some.cell.now = search rules in
    let found = found_shown shown c.args.series.now c.in-Some.cell.now (get_or values i value).0 _ (ap (λ (b : Billionths). b.0) (sym c.index.ensures) ∙ by_value) c.in-Some.ensures in
    record {
      shown = rw (take_more places i 0 (omega (arith, here)), take_more values i value (omega (arith, here, many)))
          (shows-more shown c.args.series.now (take i places) (take i values) (get_or places i 0) (get_or values i value) alike found c.loop-index.invariant.shown);
      many = many;
    }
