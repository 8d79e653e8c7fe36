-- Worked examples, computed.
use Rattle.std.specs.Prelude.{◌≡◌, ℕ, codes, refl, List, [], ◌∷◌, map, true, Some}
use Rattle.std.specs.Fmt.{digits}
use Rattle.std.specs.Str.{chars}
use Rattle.metrics_core.specs.Characters.{line}
use Rattle.metrics_core.specs.declared.kinds.MetricKind.TheVariants.{Counter}
use Rattle.metrics_core.specs.declared.units.Unit.TheVariants.{Bytes}
use Rattle.prom_format.specs.Pages.{page_text}
use Rattle.drive_script.specs.Script.{ScriptText, RoundText, Describe, Register, Inc, only_globals}
use Rattle.drive_script.specs.Vectors.{basic, empty, sampled}
use Rattle.script_player.specs.Play.{pages_of}
use Rattle.dsd_addresses.specs.Remotes.{RemoteText, Unix}
use Rattle.script_player.specs.Agent.{default_agent}
use Rattle.script_player.specs.Flushes.{all_payloads, flushes_along, flush_start}
use Rattle.script_player.specs.InTurn.{script_flush_orders, script_orders}
use Rattle.program_words.specs.Answers.{report_text}

abbrev pub pages : ScriptText → List (List ℕ)
pages s = map page_text (pages_of s (script_orders s))

abbrev pub basic_page : List ℕ
basic_page = codes "# TYPE basic_counter counter\nbasic_counter 42\n\n# EOF\n"

pub basic_pages : pages basic ≡ basic_page ∷ []
unfolding digits chars
basic_pages = refl

abbrev pub sampled_page : List ℕ
sampled_page = codes "# TYPE sizes summary\nsizes{quantile=\"0\"} 1.5\nsizes{quantile=\"0.5\"} 1.5\nsizes{quantile=\"0.9\"} 1.5\nsizes{quantile=\"0.95\"} 1.5\nsizes{quantile=\"0.99\"} 1.5\nsizes{quantile=\"0.999\"} 1.5\nsizes{quantile=\"1\"} 1.5\nsizes_sum 4.5\nsizes_count 3\n\n# EOF\n"

pub sampled_pages : pages sampled ≡ sampled_page ∷ []
unfolding digits chars
sampled_pages = refl

-- the name of a counter that is described, and of which bytes are counted
abbrev described_name : List ℕ
described_name = codes "sent"

abbrev described_round : RoundText
described_round = record {
  moment = 0;
  setup = Describe Counter described_name (Some Bytes) (codes "What went out") ∷ Register Counter (record { name = described_name; labels = [] }) ∷ [];
  calls = record { lane = 0; handle = 0; act = Inc 7 } ∷ [];
}

abbrev pub described : ScriptText
described = record { settings = record (only_globals []) { naming = true }; rounds = described_round ∷ [] }

abbrev pub described_page : List ℕ
described_page = codes "# HELP sent_bytes_total What went out\n# TYPE sent_bytes_total counter\nsent_bytes_total 7\n\n# EOF\n"

pub described_pages : pages described ≡ described_page ∷ []
unfolding digits chars
described_pages = refl

pub no_pages : pages empty ≡ []
no_pages = refl

-- the payloads to an address of a script whose lanes take turns
abbrev pub payloads : RemoteText → ScriptText → List (List ℕ)
payloads to s = all_payloads s.settings to (flushes_along s.settings flush_start s.rounds (script_flush_orders s))

abbrev pub basic_line : List ℕ
basic_line = codes "basic_counter:42|c\n"

pub basic_payloads : payloads default_agent basic ≡ basic_line ∷ []
unfolding digits chars
basic_payloads = refl

pub basic_framed : payloads (Unix (codes "/tmp/s")) basic ≡ (19 ∷ 0 ∷ 0 ∷ 0 ∷ basic_line) ∷ []
unfolding digits chars
basic_framed = refl

abbrev pub sampled_line : List ℕ
sampled_line = codes "sizes:1.5:1.5:1.5|d\n"

pub sampled_payloads : payloads default_agent sampled ≡ sampled_line ∷ []
unfolding digits chars
sampled_payloads = refl

pub no_payloads : payloads default_agent empty ≡ []
no_payloads = refl

pub one_page : line (report_text (record { pages = 1; sent = 1; unsent = 0; dropped = 0 })) ≡ codes "pages 1 sent 1 unsent 0 dropped 0\n"
unfolding digits
one_page = refl

pub none : line (report_text (record { pages = 0; sent = 0; unsent = 0; dropped = 0 })) ≡ codes "pages 0 sent 0 unsent 0 dropped 0\n"
unfolding digits
none = refl
