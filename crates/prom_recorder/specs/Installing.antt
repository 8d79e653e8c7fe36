-- What a refused installation leaves.
use Rattle.std.specs.Prelude.{◌≡◌, ◌⊎◌, Option, Some}
use Rattle.once_cell.specs.Once.{Agrees}
use Rattle.prom_exporter.specs.declared.errors.BuildError.TheVariants as builds
use Rattle.shared_recorder.specs.declared.recorder.SharedRecorder.{SharedRecorder}
use Rattle.prom_recorder.specs.declared.errors.InstallError.{InstallError}
use Rattle.prom_recorder.specs.declared.errors.InstallError.TheVariants.{Build, FailedToSetGlobalRecorder}

-- a recorder that was not built leaves what is known of the cell as it was; it is refused for its settings or for want of memory. Otherwise the cell
-- had a recorder, which is known from then on
abbrev pub Refuses : Option SharedRecorder → Option SharedRecorder → InstallError → Type 0
Refuses before after (Build error) = (after ≡ before) × ((error ≡ builds.SpanTooLong) ⊎ (error ≡ builds.Memory))
Refuses before after (FailedToSetGlobalRecorder _) = (there : SharedRecorder) × (after ≡ Some there) × Agrees before there
