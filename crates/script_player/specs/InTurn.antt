-- The run in which the lanes of a round take turns, so that each series' calls stand in the script's order.
use Rattle.std.specs.Prelude.{List, [], ◌∷◌, map}
use Rattle.metrics_core.specs.declared.kinds.MetricKind.TheVariants as kinds
use Rattle.drive_script.specs.Script.{ScriptText, SettingsText, RoundText}
use Rattle.metrics_registry.specs.Live.{LiveSeries}
use Rattle.drive_script.specs.Script.{CallLine}
use Rattle.script_player.specs.Flushes.{FlushPlay, after_flush, after_registers, calls_for, flush_start}
use Rattle.script_player.specs.Play.{PlayState, RoundOrders, play_start, after_setup, after_round, calls_on}

-- the orders in which each series' calls stand as in the script
abbrev pub orders_of : PlayState → RoundText → RoundOrders
orders_of p round = record {
  counters = map (calls_on p round kinds.Counter) p.prometheus.counters;
  gauges = map (calls_on p round kinds.Gauge) p.prometheus.gauges;
  histograms = map (calls_on p round kinds.Histogram) p.prometheus.histograms;
}

abbrev pub orders_in_turn : PlayState → RoundText → RoundOrders
orders_in_turn p round = orders_of (after_setup p round) round

abbrev pub orders_along : SettingsText → PlayState → List RoundText → List RoundOrders
orders_along settings p [] = []
orders_along settings p (round ∷ rounds) =
    orders_in_turn p round ∷ orders_along settings (after_round settings p round (orders_in_turn p round)) rounds

-- the orders of all rounds of a script
abbrev pub script_orders : ScriptText → List RoundOrders
script_orders script = orders_along script.settings (play_start script.settings) script.rounds

-- the same of the series of the flushes
abbrev pub flush_orders_for : {S : Type 0} → FlushPlay → RoundText → List (LiveSeries S) → List (List CallLine)
flush_orders_for p round series = map (λ s. calls_for p round s.id) series

abbrev pub flush_orders_of : FlushPlay → RoundText → RoundOrders
flush_orders_of p round = record {
  counters = flush_orders_for p round p.dogstatsd.series.counters;
  gauges = flush_orders_for p round p.dogstatsd.series.gauges;
  histograms = flush_orders_for p round p.dogstatsd.series.histograms;
}

abbrev pub flush_orders_in_turn : FlushPlay → RoundText → RoundOrders
flush_orders_in_turn p round = flush_orders_of (after_registers p round) round

abbrev pub flush_orders_along : FlushPlay → List RoundText → List RoundOrders
flush_orders_along p [] = []
flush_orders_along p (round ∷ rounds) = flush_orders_in_turn p round ∷ flush_orders_along (after_flush p round (flush_orders_in_turn p round)) rounds

abbrev pub script_flush_orders : ScriptText → List RoundOrders
script_flush_orders script = flush_orders_along flush_start script.rounds
