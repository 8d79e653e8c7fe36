use Rattle.std.proofs.Common.{◌≡◌, ℕ, List, ◌++◌}
use Rattle.std.specs.Prelude.{flat_map}
use Rattle.std.specs.Vec.Iter.{into_iter_items}
use Rattle.drive_script.specs.Texts.{StandsBehind}
use Rattle.drive_script.proofs.beside.take_pieces.Given as goal

-- the progress stands behind the lines so far, and the pieces that are left have the others
abbrev pub invariant-loop-piece : goal.invariant-loop-piece
invariant-loop-piece l = (done : List (List ℕ)) → StandsBehind done l.initial.progress
    → (so_far : List (List ℕ)) × (done ++ flat_map (λ lines. lines) l.fn.pieces.items ≡ so_far ++ flat_map (λ lines. lines) (into_iter_items l.piece-iterator)) × StandsBehind so_far l.progress
