-- What registering does to the series of the flushes.
use Rattle.std.proofs.Common.{◌≡◌, Bool, true, false, cond, List, [], ◌∷◌, map, refl, sym, ap}
use Rattle.std.specs.Prelude.{Some, find, option_map, unwrap_or}
use Rattle.metrics_core.specs.Keys.{KeyText}
use Rattle.metrics_core.specs.declared.kinds.MetricKind.{MetricKind}
use Rattle.metrics_core.specs.declared.kinds.MetricKind.TheVariants as kinds
use Rattle.metrics_registry.specs.Live.{LiveSeries, has_key, id_of_key}
use Rattle.dsd_exporter.specs.Exporter.{Cells, counter_seen, gauge_seen, samples_seen, series_seen}
use Rattle.dsd_exporter.specs.State.{number_given, with_cell_of}

-- a series is found by its key whatever stands in place of its cell
id_seen : {X Y : Type 0} (f : X → Y) (key : KeyText) (live : List (LiveSeries X)) → id_of_key key (map (with_cell_of f) live) ≡ id_of_key key live
id_seen f key [] = refl
id_seen {X} {Y} f key (s ∷ live) = by (has_key key s) (id_seen f key live)
  where
    by : (b : Bool) → id_of_key key (map (with_cell_of f) live) ≡ id_of_key key live
        → option_map (λ (x : LiveSeries Y). x.id) (cond b (Some (with_cell_of f s)) (find (has_key key) (map (with_cell_of f) live)))
        ≡ option_map (λ (x : LiveSeries X). x.id) (cond b (Some s) (find (has_key key) live))
    by true rest = refl
    by false rest = rest

-- the number that is given is that of the sequential state
pub number_seen : (kind : MetricKind) (key : KeyText) (cells : Cells) → number_given kind key cells ≡ number_given kind key (series_seen cells)
number_seen kinds.Counter key cells = ap (λ id. unwrap_or (option_map (λ i. i.number) id) cells.made) (sym (id_seen counter_seen key cells.counters))
number_seen kinds.Gauge key cells = ap (λ id. unwrap_or (option_map (λ i. i.number) id) cells.made) (sym (id_seen gauge_seen key cells.gauges))
number_seen kinds.Histogram key cells = ap (λ id. unwrap_or (option_map (λ i. i.number) id) cells.made) (sym (id_seen samples_seen key cells.histograms))
