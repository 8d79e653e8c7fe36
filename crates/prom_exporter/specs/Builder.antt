-- What a builder of exporters keeps.
use Rattle.std.specs.Prelude.{◌≡◌, ⊤, ℕ, ◌*◌, ◌^◌, ◌≤◌, Bool, false, List, [], ◌∷◌, ◌++◌, map, ℤ, Option, Some, None, unwrap_or, string_bytes}
use Rattle.std.specs.declared.net.socket_addr.SocketAddr.{SocketAddr}
use Rattle.std.specs.declared.net.socket_addr.SocketAddr.TheVariants as Socket
use Rattle.metrics_core.specs.declared.numbers.Fixed.{Fixed}
use Rattle.std.specs.declared.vec.Vec.{Vec}
use Rattle.std.specs.declared.alloc.Global.{Global}
use Rattle.net_addresses.specs.Addresses.{NetworkText, IsNetwork}
use Rattle.metrics_core.specs.Keys.{LabelText}
use Rattle.prom_format.specs.declared.matchers.Matcher.{Matcher}
use Rattle.prom_format.specs.Matchers.{MatcherText}
use Rattle.prom_format.specs.MatcherTexts.{matcher_text}
use Rattle.prom_exporter.specs.declared.errors.BuildError.{BuildError}
use Rattle.prom_exporter.specs.declared.errors.BuildError.TheVariants as errors
use Rattle.prom_exporter.specs.Destinations.{DestinationText, Tcp}
use Rattle.prom_exporter.specs.Families.{ExporterSettings}
use Rattle.prom_exporter.specs.Exporter.{default_settings}

-- what an exporter is to be built with, whether units in names were asked for by themselves, where pages are to be served and to the peers of which networks (every peer where there is no list), and how often queues are to be drained, in nanoseconds
pub record BuilderText : Type 0 where
  pub settings : ExporterSettings
  pub unit_suffix : Bool
  pub destination : DestinationText
  pub allowed : Option (List NetworkText)
  pub upkeep_timeout : ℕ

-- port 9000 of each address of this host, 0.0.0.0:9000
abbrev pub default_listener : SocketAddr
default_listener = Socket.V4 (record { ip = record { octets = 0 ∷ 0 ∷ 0 ∷ 0 ∷ [] }; port = 9000 })

-- a new builder: the default settings, 0.0.0.0:9000, every peer, and 5 seconds between upkeeps
abbrev pub default_builder : BuilderText
default_builder = record {
  settings = default_settings;
  unit_suffix = false;
  destination = Tcp default_listener;
  allowed = None;
  upkeep_timeout = 5000000000;
}

-- the networks with one more, which goes last
abbrev pub allowed_with : NetworkText → Option (List NetworkText) → Option (List NetworkText)
allowed_with network allowed = Some (unwrap_or allowed [] ++ network ∷ [])

-- a text is refused where it writes no network, and the refusal has the text; or for want of memory
abbrev pub RefusesAddress : List ℕ → BuildError → Type 0
RefusesAddress text (errors.InvalidAllowlistAddress refused) = ((network : NetworkText) → ¬ (IsNetwork text network)) × (string_bytes refused ≡ text)
RefusesAddress text errors.Memory = ⊤
RefusesAddress text _ = ⊥

-- the settings with other global labels
abbrev pub with_globals : ExporterSettings → List LabelText → ExporterSettings
with_globals settings globals = record settings { globals = globals }

-- values in billionths
abbrev pub billionths_of : List Fixed → List ℤ
billionths_of values = map (λ value. value.0) values

-- a rule as it is copied: its matcher and its bounds
abbrev pub rule_text : Matcher × Vec Fixed Global → MatcherText × List Fixed
rule_text rule = (matcher_text rule.0, rule.1.items)

-- the window's buckets together are longer than 64 bits of nanoseconds
abbrev pub SpanIsTooLong : ExporterSettings → Type 0
SpanIsTooLong settings = 2 ^ 64 ≤ settings.bucket_count * settings.bucket_duration
