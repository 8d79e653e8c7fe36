-- A run in turn is one of the runs of a script, and what a run writes reads back as its pages.
use Rattle.std.proofs.Common.{List, [], ◌∷◌, refl, map}
use Rattle.std.specs.List.{AllZip}
use Rattle.metrics_core.specs.declared.kinds.MetricKind.{MetricKind}
use Rattle.metrics_core.specs.declared.kinds.MetricKind.TheVariants as kinds
use Rattle.prom_exporter.specs.State.{live}
use Rattle.prom_exporter.specs.Families.{window_of}
use Rattle.prom_exporter.proofs.Printable.{page_reads}
use Rattle.drive_script.specs.Script.{ScriptText, SettingsText, RoundText}
use Rattle.script_player.specs.Headline.{IsPagesOf, ArePages}
use Rattle.script_player.specs.InTurn.{orders_of, orders_along, orders_in_turn, script_orders}
use Rattle.script_player.specs.Orders.{round_text, rounds_text, run_text}
use Rattle.script_player.specs.Play.{PlayState, RoundOrders, AreOrders, play_start, after_round, after_setup, calls_on, orders_on, IsOrderOf, AreOrdersAlong, exporter_settings, pages_along}

each_of_map : {A B : Type 0} (R : A → B → Type 0) (f : A → B) → ((x : A) → R x (f x)) → (xs : List A) → AllZip R xs (map f xs)
each_of_map R f h [] = tt
each_of_map R f h (x ∷ xs) = (h x, each_of_map R f h xs)

pub orders_of_kind : (p : PlayState) (round : RoundText) (kind : MetricKind) → AllZip (λ series order. IsOrderOf (calls_on p round kind series) order) (live kind p.prometheus) (orders_on kind (orders_of p round))
orders_of_kind p round kinds.Counter = each_of_map (λ series order. IsOrderOf (calls_on p round kinds.Counter series) order) (calls_on p round kinds.Counter) (λ series lane. refl) p.prometheus.counters
orders_of_kind p round kinds.Gauge = each_of_map (λ series order. IsOrderOf (calls_on p round kinds.Gauge series) order) (calls_on p round kinds.Gauge) (λ series lane. refl) p.prometheus.gauges
orders_of_kind p round kinds.Histogram = each_of_map (λ series order. IsOrderOf (calls_on p round kinds.Histogram series) order) (calls_on p round kinds.Histogram) (λ series lane. refl) p.prometheus.histograms

pub orders_legal : (settings : SettingsText) (p : PlayState) (rounds : List RoundText) → AreOrdersAlong settings p rounds (orders_along settings p rounds)
orders_legal settings p [] = tt
orders_legal settings p (round ∷ rounds) = (
  λ kind. orders_of_kind (after_setup p round) round kind,
  orders_legal settings (after_round settings p round (orders_in_turn p round)) rounds,
)

pub pages_read : (settings : SettingsText) (p : PlayState) (rounds : List RoundText) (choice : List RoundOrders) → AreOrdersAlong settings p rounds choice → ArePages (rounds_text settings p rounds choice) (pages_along settings p rounds choice)
pages_read settings p [] [] legal = refl
pages_read settings p [] (orders ∷ choice) legal = absurd legal
pages_read settings p (round ∷ rounds) [] legal = absurd legal
pages_read settings p (round ∷ rounds) (orders ∷ choice) legal = (
  round_text settings p round orders,
  rounds_text settings (after_round settings p round orders) rounds choice,
  refl,
  page_reads (exporter_settings settings) (window_of (exporter_settings settings) round.moment) (after_round settings p round orders).prometheus,
  pages_read settings (after_round settings p round orders) rounds choice legal.1,
)

pub run_is_pages : (script : ScriptText) (choice : List RoundOrders) → AreOrders script choice → IsPagesOf script (run_text script choice)
run_is_pages script choice legal = record {
  orders = choice;
  legal = legal;
  pages = pages_read script.settings (play_start script.settings) script.rounds choice legal;
}

pub turns_are_pages : (script : ScriptText) → IsPagesOf script (run_text script (script_orders script))
turns_are_pages script = run_is_pages script (script_orders script) (orders_legal script.settings (play_start script.settings) script.rounds)
