use Rattle.std.proofs.Common.{◌≡◌, [], ◌∷◌, ◌++◌, ◌+◌, ◌∙◌, length, sym, ap, subst, arith, rules}
use Rattle.std.proofs.lemmas.List.{append-nil, append_assoc, length_push, nil_from_length}
use Rattle.drive_script.specs.Script.{IsScript, lines_of}
use Rattle.drive_script.specs.Texts.{script_so_far}
use Rattle.drive_script.specs.Valid.{IsValid, AreValidLines}
use Rattle.drive_script.proofs.Pieces.{first_bad}
use Rattle.drive_script.proofs.reader.read_script_from.Goals as goal

pub returns-then-not-branch-clause-refused : goal.returns-then-not-branch-clause-refused
returns-then-not-branch-clause-refused c =
    let so_far = c.loop-rest.invariant in
    let behind = so_far.4 in
    let valid : AreValidLines so_far.0 = (script_so_far c.loop-rest.progress, behind.script, behind.valid) in
    let split : lines_of c.args.bytes.now ≡ so_far.0 ++ c.split_line.result.0.now ∷ lines_of c.split_line.result.1.now = so_far.1 ∙ ap (λ l. so_far.0 ++ l) c.split_line.ensures.lines in
    first_bad c.args.bytes.now so_far.0 c.split_line.result.0.now (lines_of c.split_line.result.1.now) _ split (ap (λ n. n + 1) so_far.2) valid (rw c.if-not-branch.true at (c.in_ok-take_line.ensures so_far.0 behind))

pub loop-rest-preserved : goal.loop-rest-preserved
loop-rest-preserved c =
    let so_far = c.loop-rest.invariant in
    let line = c.split_line.result.0.now in (
      so_far.0 ++ line ∷ [],
      so_far.1 ∙ ap (λ l. so_far.0 ++ l) c.split_line.ensures.lines ∙ sym (append_assoc so_far.0 (line ∷ []) (lines_of c.split_line.result.1.now)),
      ap (λ n. n + 1) so_far.2 ∙ sym (length_push so_far.0 line),
      omega (arith, so_far.3, c.split_line.ensures.shorter),
      rw c.if-not-branch.false at (c.in_ok-take_line.ensures so_far.0 so_far.4),
    )

pub returns-clause-valid : goal.returns-clause-valid
returns-clause-valid c =
    let so_far = c.loop-rest.invariant in
    let rest = c.loop-rest.rest.now in
    let none : length rest ≡ 0 = search rules in
    let all : lines_of c.args.bytes.now ≡ so_far.0 = so_far.1 ∙ ap (λ r. so_far.0 ++ lines_of r) (nil_from_length rest none) ∙ append-nil so_far.0 in
    subst (λ script. IsScript (lines_of c.args.bytes.now) script × IsValid script) (sym c.into_script.ensures)
    (subst (λ lines. IsScript lines (script_so_far c.loop-rest.progress)) (sym all) so_far.4.script, so_far.4.valid)
