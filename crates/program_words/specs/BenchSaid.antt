-- The line on `err` of a run of the command `bench` (this project's rule).
use Rattle.std.specs.Prelude.{ℕ, List}
use Rattle.metrics_core.specs.Characters.{line}
use Rattle.drive_script.specs.Faults.{fault_text}
use Rattle.drive_script.specs.declared.faults.DriveFault.TheVariants as faults
use Rattle.program_words.specs.Answers.{report_text}
use Rattle.script_player.specs.Benched.{IsBenchReport}
use Rattle.script_player.specs.declared.report.Report.{Report}

-- the line that each status has
pub data IsBenchLineOf (count : ℕ) : ℕ → List ℕ → Type 0 where
  done : (report : Report) → IsBenchReport count report → IsBenchLineOf count 0 (line (report_text report))
  write_failed : IsBenchLineOf count 7 (line (fault_text faults.WriteFault))
  no_memory : IsBenchLineOf count 8 (line (fault_text faults.Memory))
