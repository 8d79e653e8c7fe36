-- The generated script, for runs that are measured: which settings it has, and which rounds (this project's rule).
use Rattle.std.specs.Prelude.{ℕ, zero, suc, ◌+◌, ◌*◌, ◌/◌, ◌%◌, ◌==◌, nat_le, List, [], ◌∷◌, ◌++◌, map, Some, codes, filter_map, if◌then◌else◌}
use Rattle.std.specs.List.{range_with_len}
use Rattle.metrics_core.specs.Keys.{KeyText}
use Rattle.metrics_core.specs.Numbers.{whole}
use Rattle.metrics_core.specs.declared.kinds.MetricKind.{MetricKind}
use Rattle.metrics_core.specs.declared.kinds.MetricKind.TheVariants.{Counter, Gauge, Histogram}
use Rattle.drive_script.specs.Script.{ScriptText, SettingsText, RoundText, SetupLine, Register, CallLine, Inc, Set, Rec, only_globals}
use Rattle.drive_script.specs.Valid.{Registration, registration_of}
use Rattle.bench_scripts.specs.Generator.{draw}

-- ---- settings

-- one header line, `buckets 500`
abbrev pub bench_settings_text : SettingsText
bench_settings_text = record (only_globals []) { buckets = Some (whole 500 ∷ []) }

-- ---- what is registered

-- the key of a series with one label
abbrev pub labelled_key : List ℕ → List ℕ → List ℕ → KeyText
labelled_key name label value = record { name = name; labels = record { key = label; value = value } ∷ [] }

-- four series of a kind, whose label goes from 0 to 3
abbrev pub four_series : MetricKind → List ℕ → List ℕ → List SetupLine
four_series kind name label =
    map (λ value. Register kind (labelled_key name label value)) (codes "0" ∷ codes "1" ∷ codes "2" ∷ codes "3" ∷ [])

-- the handles of the counters are 0 to 3, those of the gauges 4 to 7, those of the histograms 8 to 11
abbrev pub bench_setup : List SetupLine
bench_setup =
    four_series Counter (codes "bench_counter") (codes "n")
    ++ four_series Gauge (codes "bench_gauge") (codes "lane")
    ++ four_series Histogram (codes "bench_histogram") (codes "lane")

-- what is registered, in the order of the handles
abbrev pub bench_registered : List Registration
bench_registered = filter_map registration_of bench_setup

-- the first round registers, and no other
abbrev pub setup_of_round : ℕ → List SetupLine
setup_of_round zero = bench_setup
setup_of_round (suc k) = []

-- ---- calls

-- The call that a lane makes by a draw. Of eight draws five add to a counter, one sets the lane's gauge, and two record in the
-- lane's histogram.
unfoldable pub bench_call : ℕ → ℕ → CallLine
bench_call lane drawn =
    if nat_le (drawn % 8) 4 then record { lane = lane; handle = drawn / 8 % 4; act = Inc (1 + drawn / 32 % 100) }
    else if drawn % 8 == 5 then record { lane = lane; handle = 4 + lane; act = Set (whole (drawn / 8 % 1000)) }
    else record { lane = lane; handle = 8 + lane; act = Rec (whole (drawn / 8 % 1000)) }

-- The place of a call in its round says its lane: each of the lanes 0 to 3 makes sixteen. A round takes 64 draws, behind those
-- of the rounds before it.
abbrev pub call_at : ℕ → ℕ → CallLine
call_at k place = bench_call (place / 16) (draw (64 * k + place))

abbrev pub calls_of_round : ℕ → List CallLine
calls_of_round k = map (call_at k) (range_with_len 0 64)

-- ---- rounds

-- round k, from 0, is at second k; moments are in nanoseconds
unfoldable pub bench_round : ℕ → RoundText
bench_round k = record { moment = k * 1000000000; setup = setup_of_round k; calls = calls_of_round k }

-- so many rounds, from round k on
unfoldable pub rounds_from : ℕ → ℕ → List RoundText
rounds_from k zero = []
rounds_from k (suc count) = bench_round k ∷ rounds_from (suc k) count

-- the script of so many rounds
abbrev pub bench_script : ℕ → ScriptText
bench_script count = record { settings = bench_settings_text; rounds = rounds_from 0 count }
