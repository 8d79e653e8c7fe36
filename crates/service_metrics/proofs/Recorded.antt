-- What a record on the histogram of the pages did.
use Rattle.std.proofs.Common.{◌≡◌, Option, Some, Result, Ok, Err, refl, OnOk, OnErr}
use Rattle.metrics_core.specs.Calls.{Call}
use Rattle.metrics_facade.specs.Handles.{Recorded}
use Rattle.metrics_facade.specs.declared.faults.RecordFault.{RecordFault}
use Rattle.metrics_facade.specs.declared.faults.RecordFault.TheVariants as faults
use Rattle.sample_queue.specs.Histograms.{Records, Stays, timed}
use Rattle.sample_queue.specs.Passes.{IsSamplePass}
use Rattle.service_metrics.specs.Heard.{IfAny, PagedHistogram, PagedRecords, PagedStays}
use Rattle.service_metrics.proofs.Parts.{if_any}

module _ (part : Option PagedHistogram) (before now : PagedHistogram) (call : Call) where
  pub recorded : (answer : Result (Unit {0}) RecordFault) → part ≡ Some before → now.cell ≡ before.cell → Recorded IsSamplePass (λ _. Records timed) (λ _. Stays) before.cell before.pass now.pass call answer
      → OnOk answer (IfAny (PagedRecords call) part (Some now))
  recorded (Ok _) is cell made = if_any _ now is (record { cell = cell; made = made })
  recorded (Err _) is cell made = tt

  pub refused : (answer : Result (Unit {0}) RecordFault) → part ≡ Some before → now.cell ≡ before.cell → Recorded IsSamplePass (λ _. Records timed) (λ _. Stays) before.cell before.pass now.pass call answer
      → OnErr answer ((answer ≡ Err faults.Memory) × IfAny PagedStays part (Some now))
  refused (Ok _) is cell made = tt
  refused (Err faults.Memory) is cell made = (refl, if_any _ now is (record { cell = cell; pass = made }))
  refused (Err faults.OutOfRange) is cell made = elim made [ ]
