use Rattle.std.proofs.Common.{◌∙◌, ap, cond, ◌++◌, ◌∷◌, [], arith}
use Rattle.dsd_exporter.proofs.Marks.{mark-read, mark-written, none-read, none-written}
use Rattle.dsd_exporter.proofs.flush_state.replace_mark.Goals as goal

pub returns-then-place-len-clause-was : goal.returns-then-place-len-clause-was
returns-then-place-len-clause-was c = (let here = c.if-place-len.true in c.index-was.ensures ∙ mark-read c.args.marks.now.items c.args.place c.index-was.result.now (omega (arith, here)))

pub returns-then-place-len-clause-marked : goal.returns-then-place-len-clause-marked
returns-then-place-len-clause-marked c = (let here = c.if-place-len.true in mark-written c.args.marks.now.items c.args.place c.args.mark (omega (arith, here)))

pub returns-else-place-len-clause-was : goal.returns-else-place-len-clause-was
returns-else-place-len-clause-was c = (let past = c.if-place-len.false in none-read c.args.marks.now.items c.args.place (omega (arith, past)))

pub returns-else-place-len-clause-marked : goal.returns-else-place-len-clause-marked
returns-else-place-len-clause-marked c = (let past = c.if-place-len.false in c.push.ensures.items ∙ ap (λ b. cond b (c.args.marks.now.items ++ c.args.mark ∷ []) c.args.marks.now.items) (c.push.ensures.succeeds c.requires) ∙ none-written c.args.marks.now.items c.args.place c.args.mark (omega (arith, past)))
