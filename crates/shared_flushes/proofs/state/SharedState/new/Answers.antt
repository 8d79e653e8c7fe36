use Rattle.shared_flushes.proofs.Standing.{begins}
use Rattle.dsd_exporter.specs.Exporter.{settings_of}
use Rattle.shared_flushes.proofs.state.SharedState.new.Goals as goal

pub new-requires : goal.new-requires
new-requires c = begins (settings_of c.args.configuration) c.in_ok-state.state c.in_ok-state.ensures
