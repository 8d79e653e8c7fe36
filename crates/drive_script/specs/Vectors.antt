-- Worked examples, computed.
use Rattle.std.specs.Prelude.{◌≡◌, ℕ, codes, refl, true, List, [], ◌∷◌, pos, Some}
use Rattle.metrics_core.specs.declared.kinds.MetricKind.TheVariants.{Counter, Histogram}
use Rattle.metrics_core.specs.Keys.{KeyText}
use Rattle.metrics_core.specs.declared.units.Unit.TheVariants.{Seconds}
use Rattle.prom_format.specs.Matchers.{Full}
use Rattle.drive_script.specs.Script.{ScriptText, NativeLine, RoundText, Describe, Register, Inc, RecN, only_globals, lines_of}

abbrev pub basic_key : KeyText
basic_key = record { name = codes "basic_counter"; labels = [] }

abbrev pub basic_round : RoundText
basic_round = record { moment = 0; setup = Register Counter basic_key ∷ []; calls = record { lane = 0; handle = 0; act = Inc 42 } ∷ [] }

abbrev pub basic : ScriptText
basic = record { settings = only_globals []; rounds = basic_round ∷ [] }

-- header lines of many forms, and a line that describes
abbrev pub settings_bytes : List ℕ
settings_bytes = codes "native-for full \"n\" 2 160 0\nnaming on\nunits on\nseries-limit 100\ndsd-limit 512\ndsd-mode aggressive\ndsd-prefix \"p\"\ndsd-global \"e\" \"\"\ndsd-kind h\nround 0\ndescribe counter \"a\" seconds \"b\"\n"

abbrev pub described_round : RoundText
described_round = record { moment = 0; setup = Describe Counter (codes "a") (Some Seconds) (codes "b") ∷ []; calls = [] }

abbrev pub native_line : NativeLine
native_line = record { matcher = Full (codes "n"); factor = pos 2000000000; max_buckets = 160; threshold = pos 0 }

abbrev pub with_settings : ScriptText
with_settings = record {
  settings = record (only_globals []) {
    native_for = native_line ∷ [];
    naming = true;
    units = true;
    dsd_limit = Some 512;
    dsd_aggressive = true;
    dsd_prefix = Some (codes "p");
    dsd_globals = record { key = codes "e"; value = [] } ∷ [];
    dsd_histograms = true;
    series_limit = Some 100;
  };
  rounds = described_round ∷ [];
}

abbrev pub empty : ScriptText
empty = record { settings = only_globals []; rounds = [] }

abbrev pub basic_bytes : List ℕ
basic_bytes = codes "round 0\nregister counter \"basic_counter\"\n0 inc 0 42\n"

abbrev pub sampled_key : KeyText
sampled_key = record { name = codes "sizes"; labels = [] }

abbrev pub sampled_round : RoundText
sampled_round = record { moment = 0; setup = Register Histogram sampled_key ∷ []; calls = record { lane = 0; handle = 0; act = RecN (pos 1500000000) 3 } ∷ [] }

abbrev pub sampled : ScriptText
sampled = record { settings = only_globals []; rounds = sampled_round ∷ [] }

abbrev pub sampled_bytes : List ℕ
sampled_bytes = codes "round 0\nregister histogram \"sizes\"\n0 recn 0 1.5 3\n"

-- the key of the overflow series of a name, the name of the family that counts what goes to them, and a name that is printed so
abbrev pub overflow_key : KeyText
overflow_key = record { name = codes "c"; labels = record { key = codes "overflow"; value = codes "true" } ∷ [] }

abbrev pub counts_key : KeyText
counts_key = record { name = codes "series_overflow"; labels = [] }

abbrev pub hyphen_key : KeyText
hyphen_key = record { name = codes "series-overflow"; labels = [] }

-- the first two may be registered where series aren't limited
abbrev pub unlimited_round : RoundText
unlimited_round = record { moment = 0; setup = Register Counter overflow_key ∷ Register Counter counts_key ∷ []; calls = [] }

abbrev pub unlimited : ScriptText
unlimited = record { settings = only_globals []; rounds = unlimited_round ∷ [] }

abbrev pub unlimited_bytes : List ℕ
unlimited_bytes = codes "round 0\nregister counter \"c\" \"overflow\"=\"true\"\nregister counter \"series_overflow\"\n"

-- and none where they are
abbrev pub overflow_bytes : List ℕ
overflow_bytes = codes "series-limit 1\nround 0\nregister counter \"c\" \"overflow\"=\"true\"\n"

abbrev pub counts_bytes : List ℕ
counts_bytes = codes "series-limit 1\nround 0\nregister counter \"series-overflow\"\n"

pub last_newline : lines_of (codes "a\nb\n") ≡ codes "a" ∷ codes "b" ∷ []
last_newline = refl

pub no_last_newline : lines_of (codes "a\n\nb") ≡ codes "a" ∷ [] ∷ codes "b" ∷ []
no_last_newline = refl

pub one_newline : lines_of (codes "\n") ≡ [] ∷ []
one_newline = refl

pub no_bytes : lines_of [] ≡ []
no_bytes = refl
