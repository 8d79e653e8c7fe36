-- What a builder's settings make.
use Rattle.std.specs.Prelude.{◌≡◌, [], false, Option, Some, None}
use Rattle.dsd_addresses.specs.declared.faults.BuildError.{BuildError}
use Rattle.dsd_addresses.specs.declared.faults.BuildError.TheVariants as causes
use Rattle.dsd_addresses.specs.declared.faults.LimitFault.{LimitFault}
use Rattle.dsd_addresses.specs.Limits.{fault_of_limit}
use Rattle.dsd_addresses.specs.Remotes.{remote_text}
use Rattle.dsd_exporter.specs.Builders.{BuilderText, limit_of, interval_of}
use Rattle.dsd_exporter.specs.State.{DogStatsDSettings}
use Rattle.dsd_exporter.specs.Exporter.{settings_of}
use Rattle.dsd_exporter.specs.Updates.{no_update}
use Rattle.legal_history.specs.History.{lender}
use Rattle.shared_turns.specs.Turns.{opening}
use Rattle.shared_flushes.specs.declared.entries.StateEntry.TheVariants.{Built}
use Rattle.dsd_forwarder.specs.declared.configuration.ForwarderConfiguration.{ForwarderConfiguration}
use Rattle.dsd_forwarder.specs.Forwarding.{ForwarderText, is_stream}

-- why the payload limit is refused: one that was allowed for an address set before may be too great for the last one
abbrev pub limit_fault_in : BuilderText → Option LimitFault
limit_fault_in b = fault_of_limit (limit_of b) b.remote

-- a payload limit that is refused, or want of memory
abbrev pub refusal_for : Option LimitFault → BuildError
refusal_for None = causes.Memory
refusal_for (Some reason) = causes.InvalidConfiguration reason

-- A forwarder was made with this, and has not run. It knows that its state was built with these settings, and lent one pass of it.
pub record IsMadeWith (configuration : ForwarderConfiguration) (settings : DogStatsDSettings) (f : ForwarderText) : Type 0 where
  pub configuration_is : f.configuration ≡ configuration
  pub counts_own_is : f.counts_own ≡ settings.telemetry
  pub marks : f.marks ≡ []
  pub writer_limit : f.writer.limit ≡ configuration.max_payload_len
  pub on_stream : f.writer.on_stream ≡ is_stream (remote_text configuration.remote_addr)
  pub tags : f.writer.global_tags ≡ configuration.global_labels.items
  pub lines : f.writer.lines ≡ []
  pub update : f.update ≡ no_update
  pub was_refused : f.was_refused ≡ false
  pub telemetry : f.telemetry ≡ None
  pub knows : f.knows ≡ lender (opening (Built settings))

-- a configuration has these settings
pub record HasSettings (b : BuilderText) (configuration : ForwarderConfiguration) : Type 0 where
  pub remote : remote_text configuration.remote_addr ≡ b.remote
  pub limit : configuration.max_payload_len ≡ limit_of b
  pub interval : configuration.flush_interval ≡ interval_of b
  pub write_timeout : configuration.write_timeout ≡ b.write_timeout
  pub labels : configuration.global_labels.items ≡ b.labels

-- A forwarder was made with these settings, and has not run.
pub record IsBuilt (b : BuilderText) (f : ForwarderText) : Type 0 where
  pub configuration : ForwarderConfiguration
  pub settings : HasSettings b configuration
  pub made : IsMadeWith configuration (settings_of b.configuration) f
