-- What a bridge counts of what it hears, and how it tells it (this project's rule).
use Rattle.std.specs.Prelude.{ℕ, ◌+◌, List, ◌++◌, length, codes, decimal, nat_lt, if◌then◌else◌}
use Rattle.metrics_core.specs.Numbers.{in_64_bits}
use Rattle.statsd_bridge.specs.declared.totals.Totals.{Totals}

abbrev pub nothing : Totals
nothing = record { datagrams = 0; bytes = 0; lines = 0; bad = 0; cut = 0 }

-- a payload more, with so many lines and so many bad ones
abbrev pub heard_counted : List ℕ → ℕ → ℕ → Totals → Totals
heard_counted payload lines bad t = record {
  datagrams = in_64_bits (t.datagrams + 1);
  bytes = in_64_bits (t.bytes + length payload);
  lines = in_64_bits (t.lines + lines);
  bad = in_64_bits (t.bad + bad);
  cut = t.cut;
}

-- a payload more that was cut
abbrev pub cut_counted : List ℕ → Totals → Totals
cut_counted payload t = record {
  datagrams = in_64_bits (t.datagrams + 1);
  bytes = in_64_bits (t.bytes + length payload);
  lines = t.lines;
  bad = t.bad;
  cut = in_64_bits (t.cut + 1);
}

-- the account: lines of DogStatsD, each of which adds a total to a counter of the bridge's own
abbrev pub account_text : Totals → List ℕ
account_text t =
    codes "bridge_datagrams_total:" ++ (decimal t.datagrams ++ (codes "|c\nbridge_bytes_total:" ++ (decimal t.bytes
    ++ (codes "|c\nbridge_lines_total:" ++ (decimal t.lines ++ (codes "|c|#outcome:good\nbridge_lines_total:" ++ (decimal t.bad
    ++ (codes "|c|#outcome:bad\nbridge_cut_datagrams_total:" ++ (decimal t.cut ++ codes "|c\n")))))))))

-- what is still to be told where so many of these lines were
abbrev pub left_of : ℕ → ℕ → ℕ → ℕ
left_of place told total = if nat_lt place told then 0 else total

abbrev pub untold : ℕ → Totals → Totals
untold told t = record {
  datagrams = left_of 0 told t.datagrams;
  bytes = left_of 1 told t.bytes;
  lines = left_of 2 told t.lines;
  bad = left_of 3 told t.bad;
  cut = left_of 4 told t.cut;
}
