use Rattle.std.proofs.Common.{◌≡◌, ◌∷◌, [], ◌++◌, ◌∙◌, sym, subst}
use Rattle.std.specs.Prelude.{flat_map}
use Rattle.std.specs.Vec.Iter.{into_iter_items}
use Rattle.std.proofs.lemmas.List.{nil_from_length}
use Rattle.drive_script.specs.Runs.{AreSaid, lines_said}
use Rattle.drive_script.specs.Texts.{StandsBehind}
use Rattle.drive_script.proofs.Runs.{at_end, moved_past, none_said, parts_said}
use Rattle.drive_script.proofs.beside.take_runs.Goals as goal

pub loop-part-preserved : goal.loop-part-preserved
loop-part-preserved c = λ done lines h said.
    let (so_far, rest, whole, left, behind) = c.loop-part.invariant done lines h said in
    let steps : into_iter_items c.loop-part.part-iterator ≡ c.in-Some.part ∷ into_iter_items c.next.new.self = c.in-Some.ensures.steps.0 in
    let parts = parts_said rest (lines_said c.in-Some.part) (flat_map lines_said (into_iter_items c.next.new.self)) (subst (AreSaid rest) steps left) in (
      so_far ++ parts.front,
      parts.others,
      moved_past (done ++ lines) so_far rest parts.front parts.others whole parts.split,
      parts.behind,
      c.in_ok-take_run.ensures so_far parts.front behind parts.first c.if-not-branch.false,
    )

pub returns : goal.returns
returns c = λ done lines h said is.
    let (so_far, rest, whole, left, behind) = c.loop-part.invariant done lines h said in
    let none : into_iter_items c.loop-part.part-iterator ≡ [] = nil_from_length _ (sym c.loop-part.part-iterator.rest.ok.0 ∙ c.in-None.ensures.steps.0) in
    subst (λ ls. StandsBehind ls c.loop-part.progress) (sym (at_end (done ++ lines) so_far rest whole (none_said rest (subst (AreSaid rest) none left)))) behind
