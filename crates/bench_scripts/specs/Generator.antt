-- The numbers that a generated script is made from (this project's rule).
use Rattle.std.specs.Prelude.{ℕ, ◌/◌, ◌^◌}
use Rattle.metrics_core.specs.Words.{lcg_words}

-- the n-th draw, from 0: the n-th word of the generator that starts at 0, without its last 33 bits
unfoldable pub draw : ℕ → ℕ
draw n = lcg_words 0 n / 2 ^ 33
