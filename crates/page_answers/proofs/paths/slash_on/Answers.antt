use Rattle.std.proofs.Common.{◌∙◌, sym}
use Rattle.page_answers.proofs.Places.{slash_at, slash_none}
use Rattle.page_answers.proofs.paths.slash_on.Goals as goal

pub returns-in-Some : goal.returns-in-Some
returns-in-Some c = slash_at c.args.text.now c.in-Some.start (sym c.place_of.ensures ∙ c.in-Some.is)

pub returns-in-None : goal.returns-in-None
returns-in-None c = slash_none c.args.text.now (sym c.place_of.ensures ∙ c.in-None.is)
