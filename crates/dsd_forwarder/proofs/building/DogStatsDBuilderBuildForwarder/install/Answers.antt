use Rattle.std.proofs.Common.{ap, ◌∙◌}
use Rattle.std.specs.Arc.{arc_value}
use Rattle.dsd_forwarder.specs.declared.recorder.DogStatsDRecorder.{DogStatsDRecorder}
use Rattle.dsd_forwarder.proofs.building.DogStatsDBuilderBuildForwarder.install.Goals as goal

pub returns-in-Ok-set-clause-installed : goal.returns-in-Ok-set-clause-installed
returns-in-Ok-set-clause-installed c =
    let set = c.in-Ok-set.ensures.ok in
    (set.1, (c.in-Ok.recorder.value, set.0, ap (λ (r : DogStatsDRecorder). arc_value r.state) c.in-Ok.ensures.ok ∙ c.in_ok-recorder.ensures.one))
