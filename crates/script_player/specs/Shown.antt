-- What is shown of a player behind rounds that were played without pages between.
use Rattle.std.specs.Prelude.{ℕ, List}
use Rattle.prom_exporter.specs.Exporter.{body_shown}
use Rattle.drive_script.specs.Script.{RoundText}
use Rattle.script_player.specs.Play.{exporter_settings}
use Rattle.script_player.specs.Player.{PlayerText}
use Rattle.script_player.specs.Served.{ForSomeServed, moment_from}

-- it is so of the page at the moment of the last round, 0 without rounds, for some orders of each round
abbrev pub ForSomeShown : List RoundText → PlayerText → (List ℕ → Type 0) → Type 0
ForSomeShown rounds player P =
    ForSomeServed player.pages rounds (λ play. P (body_shown (exporter_settings player.settings) (moment_from 0 rounds) play.prometheus))
