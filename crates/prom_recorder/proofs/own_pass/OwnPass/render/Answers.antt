use Rattle.std.proofs.lemmas.Result.{IfOk-weaker}
use Rattle.prom_recorder.proofs.own_pass.OwnPass.render.Goals as goal

pub returns : goal.returns
returns g c = IfOk-weaker c.render.result _ _ (λ text page. (page.0, (_, _, page.1), page.2)) c.render.ensures.page
