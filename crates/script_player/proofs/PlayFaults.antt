-- Why a play ended, from why a part of it did.
use Rattle.std.proofs.Common.{◌≡◌, ℕ, ◌≤◌, refl, arith}
use Rattle.std.specs.Prelude.{Result, Ok, Err, IfErr}
use Rattle.metrics_core.specs.Outside.{Rose}
use Rattle.prom_serve.specs.declared.errors.ServeError.{ServeError}
use Rattle.prom_serve.specs.declared.errors.ServeError.TheVariants as errors
use Rattle.drive_script.specs.declared.faults.DriveFault.{DriveFault}
use Rattle.drive_script.specs.declared.faults.DriveFault.TheVariants as faults
use Rattle.script_player.specs.Faults.{IsPlayFault}
use Rattle.script_player.specs.Served.{HasListenerCause}

-- the cause that a round had is one of the play that it stands in
pub play_fault_later : (first before now : ℕ) (fault : DriveFault) → first ≤ before → IsPlayFault (Rose before now) fault → IsPlayFault (Rose first now) fault
play_fault_later first before now faults.WriteFault le rose = omega (arith, le, rose)
play_fault_later first before now faults.Memory le rose = tt
play_fault_later first before now (faults.Script _) le rose = absurd rose
play_fault_later first before now (faults.Setting _) le rose = absurd rose
play_fault_later first before now faults.TooLong le rose = absurd rose
play_fault_later first before now faults.ReadFault le rose = absurd rose

-- the listener failed, where it is that
pub listener_failed : {T : Type 0} (r : Result T ServeError) (L : Type 0) → (r ≡ Err errors.FailedToCreateHTTPListener → L) → IfErr r (HasListenerCause L)
listener_failed (Ok v) L failed = tt
listener_failed (Err errors.FailedToCreateHTTPListener) L failed = failed refl
listener_failed (Err errors.Memory) L failed = tt

pub on_every_err : {T E : Type 0} (r : Result T E) (P : E → Type 0) → ((e : E) → P e) → IfErr r P
on_every_err (Ok v) P every = tt
on_every_err (Err e) P every = every e
