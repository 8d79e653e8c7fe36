-- What a run writes for some orders of its rounds' calls.
use Rattle.std.specs.Prelude.{◌≡◌, ℕ, List, flat_map}
use Rattle.prom_format.specs.Pages.{page_text}
use Rattle.drive_script.specs.Script.{ScriptText, SettingsText, RoundText}
use Rattle.script_player.specs.Play.{PlayState, RoundOrders, AreOrdersAlong, AreOrdersOf, after_calls, after_setup, pages_along, page_of, play_start}

-- the text of a round's page, and of the pages of some rounds, from a state on
abbrev pub round_text : SettingsText → PlayState → RoundText → RoundOrders → List ℕ
round_text settings p round orders = page_text (page_of settings p round orders)

abbrev pub rounds_text : SettingsText → PlayState → List RoundText → List RoundOrders → List ℕ
rounds_text settings p rounds choice = flat_map page_text (pages_along settings p rounds choice)

-- the text that a script's run writes
abbrev pub run_text : ScriptText → List RoundOrders → List ℕ
run_text script choice = rounds_text script.settings (play_start script.settings) script.rounds choice

-- after the calls of a round, made in some order on each series
abbrev pub IsCalled : PlayState → RoundText → PlayState → Type 0
IsCalled p round q = (orders : RoundOrders) × AreOrdersOf p round orders × (q ≡ after_calls p round orders)

-- it is so for some orders of a round, for some orders of each of some rounds, and of each round of a script
abbrev pub ForSomeOrders : PlayState → RoundText → (RoundOrders → Type 0) → Type 0
ForSomeOrders p round P = (orders : RoundOrders) × AreOrdersOf (after_setup p round) round orders × P orders

abbrev pub ForSomeRounds : SettingsText → PlayState → List RoundText → (List ℕ → Type 0) → Type 0
ForSomeRounds settings p rounds P = (choice : List RoundOrders) × AreOrdersAlong settings p rounds choice × P (rounds_text settings p rounds choice)

abbrev pub ForSomeRun : ScriptText → (List ℕ → Type 0) → Type 0
ForSomeRun script P = ForSomeRounds script.settings (play_start script.settings) script.rounds P
