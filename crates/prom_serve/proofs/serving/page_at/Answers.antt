use Rattle.prom_serve.proofs.Accepted.{rendered_by}
use Rattle.prom_serve.proofs.serving.page_at.Goals as goal

pub returns-in-Ok-clause-rendered : goal.returns-in-Ok-clause-rendered
returns-in-Ok-clause-rendered g c =
    let is = c.render_to_write.ensures in
    rendered_by c.args.moment c.args.state.now c.render_to_write.new.self is.steps is.home is.stepped is.timely

pub returns-in-Err-clause-rendered : goal.returns-in-Err-clause-rendered
returns-in-Err-clause-rendered g c =
    let is = c.render_to_write.ensures in
    rendered_by c.args.moment c.args.state.now c.render_to_write.new.self is.steps is.home is.stepped is.timely
