use Rattle.std.proofs.Common.{◌≡◌, length}
use Rattle.page_answers.specs.Paths.{behind_mark}
use Rattle.page_answers.proofs.paths.mark_behind.Given as goal

abbrev pub invariant-loop-rest : goal.invariant-loop-rest
invariant-loop-rest l = behind_mark l.rest ≡ behind_mark l.fn.text

abbrev pub decreases-loop-rest : goal.decreases-loop-rest
decreases-loop-rest l = length l.rest
