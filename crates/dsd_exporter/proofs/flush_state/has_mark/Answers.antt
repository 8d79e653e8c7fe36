use Rattle.std.proofs.Common.{◌∙◌, sym}
use Rattle.std.proofs.lemmas.Bool.{ltb-true, ltb-false}
use Rattle.dsd_exporter.proofs.Marks.{mark-read, none-read}
use Rattle.dsd_exporter.proofs.flush_state.has_mark.Goals as goal

pub returns-in-Some : goal.returns-in-Some
returns-in-Some c = c.in-Some.ensures.lookup.1 ∙ mark-read c.args.marks.now c.args.place _ (ltb-true _ _ (sym c.in-Some.ensures.lookup.0))

pub returns-in-None : goal.returns-in-None
returns-in-None c = none-read c.args.marks.now c.args.place (ltb-false _ _ (sym c.in-None.ensures.lookup.0))
