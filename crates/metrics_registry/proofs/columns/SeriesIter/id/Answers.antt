use Rattle.std.proofs.Common.{sym, ap}
use Rattle.std.specs.Prelude.{option_map}
use Rattle.metrics_registry.specs.Live.{LiveSeries}
use Rattle.metrics_registry.proofs.StoredSeries.{series-no_key, series-no_cell, series-both, stands-at, past-end}
use Rattle.metrics_registry.proofs.columns.SeriesIter.id.Goals as goal

pub returns-in_err-_key : goal.returns-in_err-_key
returns-in_err-_key g c =
    let none = series-no_key c.self.inside.keys.now c.self.inside.series.now c.args.place (past-end c.self.inside.keys.now c.args.place c.in_err-_key.ensures.lookup.0) in
    rw (c.from_residual.ensures, ← c.self.view_is) (sym (ap (option_map (λ (s : LiveSeries _). s.id)) none))

pub returns-in_err-get : goal.returns-in_err-get
returns-in_err-get g c =
    let none = series-no_cell c.self.inside.keys.now c.self.inside.series.now c.args.place (past-end c.self.inside.series.now c.args.place c.in_err-get.ensures.lookup.0) in
    rw (c.from_residual-in_err-get.ensures, ← c.self.view_is) (sym (ap (option_map (λ (s : LiveSeries _). s.id)) none))

pub returns : goal.returns
returns g c =
    let keys = c.self.inside.keys.now in
    let series = c.self.inside.series.now in
    let key = stands-at keys c.args.place c.in_ok-_key._key.now c.in_ok-_key.ensures.lookup.0 c.in_ok-_key.ensures.lookup.1 in
    let at = stands-at series c.args.place c.in_ok-get.field-0.now c.in_ok-get.ensures.lookup.0 c.in_ok-get.ensures.lookup.1 in
    rw (← c.self.view_is) (sym (ap (option_map (λ (s : LiveSeries _). s.id)) (series-both keys series c.args.place c.in_ok-_key._key.now c.in_ok-get.field-0.now key at)))
