use Rattle.std.proofs.Common.{◌≡◌, ℕ, List, ◌++◌}
use Rattle.std.specs.Vec.Iter.{into_iter_items}
use Rattle.drive_script.specs.Runs.{AreSaid}
use Rattle.drive_script.specs.Texts.{StandsBehind}
use Rattle.drive_script.proofs.beside.take_runs.Given as goal

-- the progress stands behind the lines so far, and the others say what is left
abbrev pub invariant-loop-part : goal.invariant-loop-part
invariant-loop-part l = (done lines : List (List ℕ)) → StandsBehind done l.initial.progress → AreSaid lines l.fn.said.items
    → (so_far rest : List (List ℕ)) × (done ++ lines ≡ so_far ++ rest) × AreSaid rest (into_iter_items l.part-iterator) × StandsBehind so_far l.progress
