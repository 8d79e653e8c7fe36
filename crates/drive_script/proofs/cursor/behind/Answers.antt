use Rattle.std.proofs.Common.{sym, ◌∙◌, arith}
use Rattle.drive_script.proofs.Fields.{behind_ends, behind_differs, behind_goes, behind_over}
use Rattle.drive_script.proofs.cursor.behind.Goals as goal

pub returns-in_default-rest : goal.returns-in_default-rest
returns-in_default-rest c =
    sym c.loop-wanted.invariant ∙ behind_ends c.loop-wanted.wanted.now c.loop-wanted.rest.now (omega (arith, c.in-len1-up.len_at_least)) (omega (arith, c.in_default-rest.len_below))

pub returns-then-first-byte : goal.returns-then-first-byte
returns-then-first-byte c =
    sym c.loop-wanted.invariant
    ∙ behind_differs c.loop-wanted.wanted.now c.loop-wanted.rest.now (omega (arith, c.in-len1-up.len_at_least)) (omega (arith, c.in-len1-up-rest.len_at_least)) c.if-first-byte.true

pub loop-wanted-preserved : goal.loop-wanted-preserved
loop-wanted-preserved c =
    behind_goes c.loop-wanted.wanted.now c.loop-wanted.rest.now (omega (arith, c.in-len1-up.len_at_least)) (omega (arith, c.in-len1-up-rest.len_at_least)) c.if-first-byte.false
    ∙ c.loop-wanted.invariant

pub returns : goal.returns
returns c = sym c.loop-wanted.invariant ∙ behind_over c.loop-wanted.wanted.now c.loop-wanted.rest.now (omega (arith, c.in_default.len_below))
