use Rattle.std.proofs.Common.{◌≡◌, ℕ, List, [], Some, refl}
use Rattle.std.specs.Prelude.{slice_get, string_bytes}
use Rattle.std.proofs.lemmas.Option.{slice_get_within}
use Rattle.std.proofs.lemmas.Result.{err_from_is_err_and}
use Rattle.prom_exporter.specs.Printed.{ArePrinted}
use Rattle.prom_exporter.proofs.Printing.{kept-before, printed-after}
use Rattle.prom_exporter.proofs.Progress.{sends_none, sends_stopped}
use Rattle.prom_exporter.proofs.pages.write_family.Given.{Over}
use Rattle.prom_exporter.proofs.pages.write_family.Goals as goal
use Rattle.prom_exporter.proofs.pages.write_family.Goals.{In_ok-begin_family}

-- what is kept of families, with a place for this one
begun : (g : Over) (c : In_ok-begin_family g) (families : List (List ℕ × List ℕ)) (family : List ℕ) → slice_get families c.args.index ≡ Some (family, c.args.places.now) → ArePrinted c.args.label_sets.now families c.args.printed.now.items
    → ArePrinted c.args.label_sets.now families c.begin_family.new.printed.items
begun g c families family at are = c.in_ok-begin_family.ensures.printed c.args.label_sets.now families (slice_get_within families c.args.index (family, c.args.places.now) at) are

pub returns-in_err-begin_family-clause-printed : goal.returns-in_err-begin_family-clause-printed
returns-in_err-begin_family-clause-printed g c families family at are =
    c.begin_family.ensures.printed c.args.label_sets.now families (slice_get_within families c.args.index (family, c.args.places.now) at) are

pub returns-in_err-begin_family-clause-sends : goal.returns-in_err-begin_family-clause-sends
returns-in_err-begin_family-clause-sends g c families family at are =
    let refusal = err_from_is_err_and c.from_residual.result c.from_residual.ensures.1 in
    rw refusal.1 (tt, sends_stopped _ _ _ _ [] _ (sends_none (g.K.Sink.written c.args.sink.now) (string_bytes c.args.buffer.now)))

pub returns-clause-printed : goal.returns-clause-printed
returns-clause-printed g c families family at are =
    printed-after c.args.label_sets.now families c.begin_family.new.printed.items c.args.index (family, c.args.places.now) c.index_mut-rows.result.now c.args.places.now refl c.in_ok-begin_family.ensures.index at (begun g (goal.at.returns-clause-printed g c).In_ok-begin_family families family at are) c.index_mut-rows.ensures.value c.write_rows.new.printed c.write_rows.ensures.kept

pub returns-clause-sends : goal.returns-clause-sends
returns-clause-sends g c families family at are =
    c.write_rows.ensures.sends (kept-before c.args.label_sets.now families c.begin_family.new.printed.items c.args.index (family, c.args.places.now) c.index_mut-rows.result.now c.args.places.now refl c.in_ok-begin_family.ensures.index at (begun g (goal.at.returns-clause-sends g c).In_ok-begin_family families family at are) c.index_mut-rows.ensures.value)
