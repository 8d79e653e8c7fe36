use Rattle.std.proofs.Common.{◌≡◌, ◌∷◌, [], ◌++◌, ◌∙◌, sym, ap, subst}
use Rattle.std.specs.Prelude.{flat_map}
use Rattle.std.specs.Vec.Iter.{into_iter_items}
use Rattle.std.proofs.lemmas.List.{append_assoc, append-nil, nil_from_length}
use Rattle.drive_script.specs.Texts.{StandsBehind}
use Rattle.drive_script.proofs.beside.take_pieces.Goals as goal

pub loop-piece-preserved : goal.loop-piece-preserved
loop-piece-preserved c = λ done h.
    let (so_far, whole, behind) = c.loop-piece.invariant done h in
    let rest = flat_map (λ lines. lines) (into_iter_items c.next.new.self) in
    let steps : into_iter_items c.loop-piece.piece-iterator ≡ c.in-Some.piece ∷ into_iter_items c.next.new.self = c.in-Some.ensures.steps.0 in (
      so_far ++ c.in-Some.piece,
      whole ∙ ap (λ ps. so_far ++ flat_map (λ lines. lines) ps) steps ∙ sym (append_assoc so_far c.in-Some.piece rest),
      c.in_ok-take_runs.ensures so_far c.in-Some.piece behind (rw c.in_ok-read.was at c.into_said-said.ensures c.if-not-branch.false) c.if-not-branch-2.false,
    )

pub returns : goal.returns
returns c = λ done h is.
    let (so_far, whole, behind) = c.loop-piece.invariant done h in
    let none : into_iter_items c.loop-piece.piece-iterator ≡ [] = nil_from_length _ (sym c.loop-piece.piece-iterator.rest.ok.0 ∙ c.in-None.ensures.steps.0) in
    subst (λ ls. StandsBehind ls c.loop-piece.progress) (sym (whole ∙ ap (λ ps. so_far ++ flat_map (λ lines. lines) ps) none ∙ append-nil so_far)) behind
