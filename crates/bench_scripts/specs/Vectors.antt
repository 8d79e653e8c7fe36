-- Worked examples, computed.
use Rattle.std.specs.Prelude.{◌≡◌, refl, length, pos}
use Rattle.drive_script.specs.Script.{Rec}
use Rattle.bench_scripts.specs.Generator.{draw}
use Rattle.bench_scripts.specs.Bench.{bench_call, bench_setup, calls_of_round, call_at}

pub first_draw : draw 0 ≡ 167951807
unfolding draw
first_draw = refl

-- the first call line: `0 rec 8 975`
pub first_call : call_at 0 0 ≡ record { lane = 0; handle = 8; act = Rec (pos 975000000000) }
unfolding draw bench_call
first_call = refl

pub series_count : length bench_setup ≡ 12
series_count = refl

pub calls_count : length (calls_of_round 0) ≡ 64
calls_count = refl
