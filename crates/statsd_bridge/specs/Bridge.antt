-- What a bridge is, and its state.
use Rattle.dsd_lines.specs.declared.dialects.Dialect.{Dialect}
use Rattle.prom_exporter.specs.Exporter.{Exporter, state_of}
use Rattle.prom_exporter.specs.Families.{ExporterSettings}
use Rattle.prom_exporter.specs.State.{PrometheusState}
use Rattle.statsd_bridge.specs.declared.totals.Totals.{Totals}
use Rattle.statsd_bridge.specs.Counted.{nothing}

-- an exporter, the dialect in which payloads are read, and what was heard since the last account
pub record BridgeText : Type 0 where
  pub exporter : Exporter
  pub dialect : Dialect
  pub unsaid : Totals

abbrev pub bridge_of : Dialect → Exporter → BridgeText
bridge_of dialect exporter = record { exporter = exporter; dialect = dialect; unsaid = nothing }

-- the same as pages show it: the exporter's settings, and its sequential state
pub record BridgeState : Type 0 where
  pub settings : ExporterSettings
  pub dialect : Dialect
  pub state : PrometheusState
  pub unsaid : Totals

abbrev pub state_at : BridgeText → BridgeState
state_at bridge = record {
  settings = bridge.exporter.settings;
  dialect = bridge.dialect;
  state = state_of bridge.exporter;
  unsaid = bridge.unsaid;
}
