use Rattle.std.proofs.Common.{ap, subst}
use Rattle.dsd_exporter.specs.Exporter.{settings_of}
use Rattle.dsd_forwarder.specs.Building.{IsMadeWith}
use Rattle.dsd_forwarder.specs.declared.configuration.ForwarderConfiguration.{ForwarderConfiguration}
use Rattle.dsd_forwarder.proofs.building.DogStatsDBuilderBuildForwarder.build.Goals as goal

pub returns-in-Ok-clause-built : goal.returns-in-Ok-clause-built
returns-in-Ok-clause-built c =
    let parts = c.into_parts-parts.result in
    let are = c.into_parts-parts.ensures in
    let configuration : ForwarderConfiguration = record {
      remote_addr = parts.remote_addr;
      max_payload_len = parts.max_payload_len;
      flush_interval = parts.flush_interval;
      write_timeout = parts.write_timeout;
      global_labels = parts.global_labels;
    } in
    record {
      configuration = configuration;
      settings = record { remote = are.remote; limit = are.limit; interval = are.interval; write_timeout = are.write_timeout; labels = are.labels };
      made = subst (λ t. IsMadeWith configuration t c.in-Ok.both.1) (ap settings_of are.configuration) c.in-Ok.ensures.made;
    }
