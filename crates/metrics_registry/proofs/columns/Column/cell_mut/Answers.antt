use Rattle.std.proofs.Common.{refl, ap}
use Rattle.std.specs.Prelude.{option_map}
use Rattle.std.proofs.lemmas.Option.{slice_get_read}
use Rattle.metrics_registry.proofs.columns.Column.cell_mut.Goals as goal

pub returns : goal.returns
returns g c =
    let read = slice_get_read _ _ _ _ refl c.requires c.index_mut-series.ensures.value in
    ((refl, λ w. rw read), record { writes_back = tt; value = ap (option_map (λ series. series.cell)) read })
