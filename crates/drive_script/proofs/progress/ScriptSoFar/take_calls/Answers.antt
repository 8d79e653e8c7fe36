use Rattle.std.proofs.Common.{◌≡◌, ◌∷◌, [], ◌++◌, ◌∙◌, sym, subst}
use Rattle.std.specs.List.{AllZip}
use Rattle.std.specs.Vec.Iter.{into_iter_items}
use Rattle.std.proofs.lemmas.List.{nil_from_length}
use Rattle.drive_script.specs.Runs.{calls_said}
use Rattle.drive_script.specs.Script.{IsLine, CallOf}
use Rattle.drive_script.specs.Texts.{call_line_of, StandsBehind}
use Rattle.drive_script.proofs.Runs.{at_end, line_taken, moved_on, next_said, none_said}
use Rattle.drive_script.proofs.progress.ScriptSoFar.take_calls.Goals as goal

pub loop-call-preserved : goal.loop-call-preserved
loop-call-preserved c = λ done lines h said.
    let (so_far, rest, whole, left, behind) = c.loop-call.invariant done lines h said in
    let steps : into_iter_items c.loop-call.call-iterator ≡ c.in-Some.call ∷ into_iter_items c.next.new.self = c.in-Some.ensures.steps.0 in
    let begins = next_said rest (CallOf (call_line_of c.in-Some.call)) (calls_said (into_iter_items c.next.new.self)) (subst (λ calls. AllZip IsLine rest (calls_said calls)) steps left) in (
      so_far ++ begins.line ∷ [],
      begins.others,
      moved_on (done ++ lines) so_far rest begins.line begins.others whole begins.split,
      begins.behind,
      line_taken so_far begins.line c.loop-call.self c.call.new.self (CallOf (call_line_of c.in-Some.call)) behind begins.first (rw c.if-not-branch.false at (c.in_ok-call.ensures.next behind.script.said behind.known)),
    )

pub returns : goal.returns
returns c = λ done lines h said is.
    let (so_far, rest, whole, left, behind) = c.loop-call.invariant done lines h said in
    let none : into_iter_items c.loop-call.call-iterator ≡ [] = nil_from_length _ (sym c.loop-call.call-iterator.rest.ok.0 ∙ c.in-None.ensures.steps.0) in
    subst (λ all. StandsBehind all c.loop-call.self) (sym (at_end (done ++ lines) so_far rest whole (none_said rest (subst (λ calls. AllZip IsLine rest (calls_said calls)) none left)))) behind
