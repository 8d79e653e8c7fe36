use Rattle.std.proofs.Common.{◌≡◌, ℕ, ◌+◌, ◌*◌, map}
use Rattle.std.specs.List.{range_with_len}
use Rattle.drive_script.specs.Texts.{call_line_of}
use Rattle.bench_scripts.specs.Bench.{call_at}
use Rattle.bench_scripts.specs.Drawing.{HasDrawn}
use Rattle.bench_scripts.proofs.calls.next_calls.Given as goal

abbrev pub invariant-loop-place : goal.invariant-loop-place
invariant-loop-place l = record {
  calls : (round : ℕ) → HasDrawn (64 * round) l.fn.words → map call_line_of l.calls.items ≡ map (call_at round) (range_with_len 0 l.place);
  words : (round : ℕ) → HasDrawn (64 * round) l.fn.words → HasDrawn (64 * round + l.place) l.words;
}
