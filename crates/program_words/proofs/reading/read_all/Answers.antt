use Rattle.std.proofs.Common.{◌≡◌, ◌≤◌, ℕ, ◌+◌, List, length, take, ap, sym, subst, ◌∙◌, refl, rules, arith}
use Rattle.std.proofs.lemmas.List.{length-take}
use Rattle.std.specs.Prelude.{IfSome}
use Rattle.script_player.proofs.Returned.{if_handed_on}
use Rattle.metrics_core.specs.Outside.{Rose}
use Rattle.drive_script.specs.declared.faults.DriveFault.{DriveFault}
use Rattle.program_words.specs.Answers.{LeavesSource}
use Rattle.script_player.specs.Headline.{script_limit}
use Rattle.program_words.specs.Reading.{IsReadFault}
use Rattle.program_words.proofs.DriveSteps.{status_handed_on}
use Rattle.program_words.proofs.ReadingSteps.{leaves_long, leaves_none, leaves_some, nothing_read, read_more, read_whole, read_too_much, piece_fault}
use Rattle.program_words.proofs.reading.read_all.Goals as goal

pub loop-init : goal.loop-init
loop-init g c = record {
  room = search rules;
  turns = omega arith;
  never_falls = omega arith;
  so_far = nothing_read _ _ refl;
}

pub loop-preserved : goal.loop-preserved
loop-preserved g c = record {
  room = (c.in_ok-count.ensures.room, omega arith, c.in_ok-count.ensures.limit);
  turns = omega arith;
  never_falls = omega (arith, c.in_ok-count.ensures.never_falls);
  so_far = read_more _ _ _ _ _ _ c.loop.invariant.so_far c.in_ok-count.ensures.taken;
}

pub returns-in_err-count-clause-refused : goal.returns-in_err-count-clause-refused
returns-in_err-count-clause-refused g c =
    let P : DriveFault → Type 0 = IsReadFault (g.S.Source.left c.args.source.now) (Rose (g.S.Source.faults c.args.source.now) (g.S.Source.faults c.read_piece.new.source)) in
    if_handed_on c.from_residual.result _ P c.from_residual.ensures.1 (piece_fault _ (g.S.Source.faults c.args.source.now) (g.S.Source.faults c.loop.source) (g.S.Source.faults c.read_piece.new.source) _
    c.loop.invariant.never_falls c.in_err-count.ensures.refused)

pub returns-then-count-eq0-clause-whole : goal.returns-then-count-eq0-clause-whole
returns-then-count-eq0-clause-whole g c =
    let none : c.loop.filled + c.in_ok-count.count ≡ c.loop.filled = omega (arith, c.if-count-eq0.true) in
    subst (λ items. IfSome (g.S.Source.left c.args.source.now) (λ all. items ≡ all)) (ap (λ n. take n c.read_piece.new.bytes.items) none ∙ sym {A = List ℕ} c.truncate.ensures.items)
    (read_whole _ _ _ _ _ _ c.if-count-eq0.true c.loop.invariant.so_far c.in_ok-count.ensures.taken)

pub returns-then-filled-gt-SCRIPT_LIMIT-clause-refused : goal.returns-then-filled-gt-SCRIPT_LIMIT-clause-refused
returns-then-filled-gt-SCRIPT_LIMIT-clause-refused g c =
    let bytes = c.read_piece.new.bytes in
    let many = length-take (c.loop.filled + c.in_ok-count.count) bytes.items in
    read_too_much _ _ _ (omega (arith, many, bytes.ok.0, c.in_ok-count.ensures.room)) (read_more _ _ _ _ _ _ c.loop.invariant.so_far c.in_ok-count.ensures.taken)

pub returns-in_err-count-clause-left : goal.returns-in_err-count-clause-left
returns-in_err-count-clause-left g c =
    let left = g.S.Source.left c.args.source.now in
    let before = g.S.Source.left c.loop.source in
    let after = g.S.Source.left c.read_piece.new.source in
    let bytes = take c.loop.filled c.loop.bytes.items in
    let few : length bytes ≤ script_limit + 1 = omega (arith, length-take c.loop.filled c.loop.bytes.items, c.loop.invariant.room.1) in
    status_handed_on c.from_residual.result c.in_err-count.field-0.0 (λ status. IfSome left (λ all. LeavesSource all after status)) c.from_residual.ensures.1
    (leaves_some left before after bytes _ c.in_err-count.field-0.0 c.in_err-count.ensures.refused few c.in_err-count.ensures.kept c.loop.invariant.so_far)

pub returns-then-count-eq0-clause-left : goal.returns-then-count-eq0-clause-left
returns-then-count-eq0-clause-left g c =
    let bytes = c.read_piece.new.bytes in
    let few : length (take (c.loop.filled + c.in_ok-count.count) bytes.items) ≤ script_limit + 1
    = omega (arith, length-take (c.loop.filled + c.in_ok-count.count) bytes.items, bytes.ok.0, c.in_ok-count.ensures.limit) in
    leaves_none (g.S.Source.left c.args.source.now) (g.S.Source.left c.loop.source) (g.S.Source.left c.read_piece.new.source) _ _ _ c.if-count-eq0.true few c.loop.invariant.so_far c.in_ok-count.ensures.taken

pub returns-then-filled-gt-SCRIPT_LIMIT-clause-left : goal.returns-then-filled-gt-SCRIPT_LIMIT-clause-left
returns-then-filled-gt-SCRIPT_LIMIT-clause-left g c =
    let bytes = c.read_piece.new.bytes in
    let many = length-take (c.loop.filled + c.in_ok-count.count) bytes.items in
    leaves_long (g.S.Source.left c.args.source.now) (g.S.Source.left c.read_piece.new.source) (take (c.loop.filled + c.in_ok-count.count) bytes.items)
    (omega (arith, many, bytes.ok.0, c.in_ok-count.ensures.room, c.in_ok-count.ensures.limit))
    (read_more _ _ _ _ _ _ c.loop.invariant.so_far c.in_ok-count.ensures.taken)
