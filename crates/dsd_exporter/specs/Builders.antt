-- What an exporter is to be built with.
use Rattle.std.specs.Prelude.{◌≡◌, ℕ, codes, Bool, true, false, List, [], Option, None, unwrap_or, if◌then◌else◌}
use Rattle.metrics_core.specs.Keys.{LabelText}
use Rattle.dsd_exporter.specs.declared.configuration.AggregationMode.TheVariants.{Conservative}
use Rattle.dsd_exporter.specs.declared.configuration.StateConfiguration.{StateConfiguration}
use Rattle.dsd_addresses.specs.Remotes.{RemoteText, IsRemote, default_limit}
use Rattle.dsd_exporter.specs.Exporter.{is_aggressive}

-- the address, the payload limit where it is set, how long a write may take and where it is set how long to wait between flushes, in nanoseconds, whether sends are on the caller's thread, the labels of every line, and what the state is built with
pub record BuilderText : Type 0 where
  pub remote : RemoteText
  pub limit : Option ℕ
  pub write_timeout : ℕ
  pub interval : Option ℕ
  pub synchronous : Bool
  pub labels : List LabelText
  pub configuration : StateConfiguration

abbrev pub default_configuration : StateConfiguration
default_configuration = record {
  agg_mode = Conservative;
  telemetry = true;
  histogram_sampling = false;
  histogram_reservoir_size = 1024;
  histograms_as_distributions = true;
  global_prefix = None;
}

-- the default settings
abbrev pub IsDefault : BuilderText → Type 0
IsDefault b =
    IsRemote (codes "127.0.0.1:8125") b.remote
    × (b ≡ record { remote = b.remote; limit = None; write_timeout = 1000000000; interval = None; synchronous = false; labels = []; configuration = default_configuration })

-- the payload limit, in bytes
abbrev pub limit_of : BuilderText → ℕ
limit_of b = unwrap_or b.limit (default_limit b.remote)

-- how long to wait between flushes, in nanoseconds
abbrev pub interval_of : BuilderText → ℕ
interval_of b = unwrap_or b.interval (if is_aggressive b.configuration.agg_mode then 10000000000 else 3000000000)
