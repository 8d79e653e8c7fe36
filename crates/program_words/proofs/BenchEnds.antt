-- From what the play of the generated script tells to what a run of it says as a whole.
use Rattle.std.proofs.Common.{◌≡◌, ℕ, inl, inr, refl, sym, subst, arith}
use Rattle.metrics_core.specs.Characters.{line}
use Rattle.drive_script.specs.Faults.{fault_text}
use Rattle.drive_script.specs.declared.faults.DriveFault.{DriveFault}
use Rattle.drive_script.specs.declared.faults.DriveFault.TheVariants as faults
use Rattle.script_player.specs.Faults.{IsPlayFault}
use Rattle.program_words.specs.Answers.{Says, fault_status}
use Rattle.script_player.specs.Benched.{IsBenched, IsBenchedInPart}
use Rattle.program_words.specs.BenchSaid.{IsBenchLineOf, no_memory, write_failed}
use Rattle.program_words.specs.Devices.{SinkRun, SinkFailed}
use Rattle.program_words.specs.Ends.{IsBenchEnd}

-- the last page was written
pub benched_ends : (count : ℕ) (out err : SinkRun) → IsBenched count out.written out.written' → Says err (IsBenchLineOf count 0) → IsBenchEnd count out err 0
benched_ends count out err benched said = record {
  benched = λ e. benched;
  write_failed = λ e. absurd (omega (arith, e));
  prefix = λ e. absurd (omega (arith, e));
  no_memory = λ e. absurd (omega (arith, e));
  only = inl refl;
  complete = λ ok. inl refl;
  said = said;
}

-- a write failed, or memory was wanting
pub cut_ends : (count : ℕ) (out err : SinkRun) (fault : DriveFault) → IsPlayFault (SinkFailed out) fault → IsBenchedInPart count out.written out.written'
    → Says err (IsBenchLineOf count (fault_status fault)) → IsBenchEnd count out err (fault_status fault)
cut_ends count out err (faults.Script l) cause prefix said = absurd cause
cut_ends count out err (faults.Setting fault) cause prefix said = absurd cause
cut_ends count out err faults.TooLong cause prefix said = absurd cause
cut_ends count out err faults.ReadFault cause prefix said = absurd cause
cut_ends count out err faults.WriteFault cause prefix said = record {
  benched = λ e. absurd (omega (arith, e));
  write_failed = λ e. cause;
  prefix = λ e. prefix;
  no_memory = λ e. absurd (omega (arith, e));
  only = inr (inl refl);
  complete = λ ok. absurd (ok cause);
  said = said;
}
cut_ends count out err faults.Memory cause prefix said = record {
  benched = λ e. absurd (omega (arith, e));
  write_failed = λ e. absurd (omega (arith, e));
  prefix = λ e. absurd (omega (arith, e));
  no_memory = λ e. inr prefix;
  only = inr (inr refl);
  complete = λ ok. inr refl;
  said = said;
}

-- memory was wanting before the words were read
pub unread_ends : (count : ℕ) (out err : SinkRun) → out.written' ≡ out.written → Says err (IsBenchLineOf count 8) → IsBenchEnd count out err 8
unread_ends count out err unwritten said = record {
  benched = λ e. absurd (omega (arith, e));
  write_failed = λ e. absurd (omega (arith, e));
  prefix = λ e. absurd (omega (arith, e));
  no_memory = λ e. inl unwritten;
  only = inr (inr refl);
  complete = λ ok. inr refl;
  said = said;
}

-- the same at the number of the status, and at each number of rounds that the words have
pub bench_end : (count other : ℕ) (out err : SinkRun) (status number : ℕ) → other ≡ count → number ≡ status → IsBenchEnd count out err status → IsBenchEnd other out err number
bench_end count other out err status number same is ends =
    subst (λ n. IsBenchEnd n out err number) (sym same) (subst (λ n. IsBenchEnd count out err n) (sym is) ends)

pub cut_line : (count : ℕ) (K : Type 0) (fault : DriveFault) → IsPlayFault K fault → IsBenchLineOf count (fault_status fault) (line (fault_text fault))
cut_line count K (faults.Script l) cause = absurd cause
cut_line count K (faults.Setting fault) cause = absurd cause
cut_line count K faults.TooLong cause = absurd cause
cut_line count K faults.ReadFault cause = absurd cause
cut_line count K faults.WriteFault cause = write_failed
cut_line count K faults.Memory cause = no_memory
