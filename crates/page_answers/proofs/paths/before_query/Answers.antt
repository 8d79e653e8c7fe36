use Rattle.std.proofs.Common.{◌∙◌, sym}
use Rattle.page_answers.proofs.Places.{take_at, take_none}
use Rattle.page_answers.proofs.paths.before_query.Goals as goal

pub returns-in-Some : goal.returns-in-Some
returns-in-Some c = take_at _ c.args.text.now c.in-Some.end (sym c.place_of.ensures ∙ c.in-Some.is)

pub returns-in-None : goal.returns-in-None
returns-in-None c = take_none _ c.args.text.now (sym c.place_of.ensures ∙ c.in-None.is)
