use Rattle.std.proofs.Common.{rules, ◌≡◌, ◌++◌, ◌∙◌, length, sym, ap, subst}
use Rattle.std.specs.Prelude.{flat_map}
use Rattle.std.proofs.lemmas.List.{append_assoc, append-nil, nil_from_length}
use Rattle.drive_script.specs.Script.{IsScript, lines_of}
use Rattle.drive_script.specs.Texts.{script_so_far, StandsBehind}
use Rattle.drive_script.specs.Valid.{IsValid}
use Rattle.drive_script.proofs.beside.read_pieces.Goals as goal

pub loop-rest-preserved : goal.loop-rest-preserved
loop-rest-preserved g c =
    let (done, whole, behind) = c.loop-rest.invariant in
    let next = flat_map (λ lines. lines) c.in_ok-pieces.pieces.items in
    let more = lines_of c.in_ok-pieces.behind.now in (
      done ++ next,
      whole ∙ ap (λ ls. done ++ ls) c.in_ok-pieces.ensures.lines ∙ sym (append_assoc done next more),
      subst (λ ps. StandsBehind (done ++ flat_map (λ lines. lines) ps) c.take_pieces.new.progress) c.read_beside.ensures
          (c.in_ok-take_pieces.ensures done behind c.if-not-branch.false),
    )

pub returns : goal.returns
returns g c =
    let (done, whole, behind) = c.loop-rest.invariant in
    let rest = c.loop-rest.rest.now in
    let none : length rest ≡ 0 = search rules in
    let all : lines_of c.args.bytes.now ≡ done = whole ∙ ap (λ r. done ++ lines_of r) (nil_from_length rest none) ∙ append-nil done in
    subst (λ script. IsScript (lines_of c.args.bytes.now) script × IsValid script) (sym c.into_script.ensures)
    (subst (λ lines. IsScript lines (script_so_far c.loop-rest.progress)) (sym all) behind.script, behind.valid)
