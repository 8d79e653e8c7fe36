use Rattle.std.proofs.Common.{◌≡◌, ℕ, List, ◌++◌}
use Rattle.std.specs.List.{AllZip}
use Rattle.std.specs.Vec.Iter.{into_iter_items}
use Rattle.drive_script.specs.Runs.{calls_said}
use Rattle.drive_script.specs.Script.{IsLine}
use Rattle.drive_script.specs.Texts.{StandsBehind}
use Rattle.drive_script.proofs.progress.ScriptSoFar.take_calls.Given as goal

-- the progress stands behind the lines so far, and the others say the calls that are left
abbrev pub invariant-loop-call : goal.invariant-loop-call
invariant-loop-call l = (done lines : List (List ℕ)) → StandsBehind done l.initial.self → AllZip IsLine lines (calls_said l.fn.calls.items)
    → (so_far rest : List (List ℕ)) × (done ++ lines ≡ so_far ++ rest) × AllZip IsLine rest (calls_said (into_iter_items l.call-iterator)) × StandsBehind so_far l.self
