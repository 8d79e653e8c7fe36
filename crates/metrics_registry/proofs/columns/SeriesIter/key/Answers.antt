use Rattle.std.proofs.Common.{sym, ap}
use Rattle.std.specs.Prelude.{option_map}
use Rattle.metrics_registry.specs.Live.{LiveSeries}
use Rattle.metrics_registry.proofs.StoredSeries.{series-no_key, series-no_cell, series-both, stands-at, past-end}
use Rattle.metrics_registry.proofs.columns.SeriesIter.key.Goals as goal

pub returns-in_err-_series : goal.returns-in_err-_series
returns-in_err-_series g c =
    let none = series-no_cell c.self.inside.keys.now c.self.inside.series.now c.args.place (past-end c.self.inside.series.now c.args.place c.in_err-_series.ensures.lookup.0) in
    rw (c.from_residual.ensures, ← c.self.view_is) (sym (ap (option_map (λ (s : LiveSeries _). s.key)) none))

pub returns-in_err-key : goal.returns-in_err-key
returns-in_err-key g c =
    let none = series-no_key c.self.inside.keys.now c.self.inside.series.now c.args.place (past-end c.self.inside.keys.now c.args.place c.in_err-key.ensures.lookup.0) in
    rw (c.from_residual-in_err-key.ensures, ← c.self.view_is) (sym (ap (option_map (λ (s : LiveSeries _). s.key)) none))

pub returns : goal.returns
returns g c =
    let keys = c.self.inside.keys.now in
    let series = c.self.inside.series.now in
    let key = stands-at keys c.args.place c.in_ok-key.key.now c.in_ok-key.ensures.lookup.0 c.in_ok-key.ensures.lookup.1 in
    let at = stands-at series c.args.place c.in_ok-_series._series.now c.in_ok-_series.ensures.lookup.0 c.in_ok-_series.ensures.lookup.1 in
    rw (← c.self.view_is) (sym (ap (option_map (λ (s : LiveSeries _). s.key)) (series-both keys series c.args.place c.in_ok-key.key.now c.in_ok-_series._series.now key at)))
