use Rattle.std.proofs.Common.{◌∙◌, of_calls}
use Rattle.evmap_core.proofs.Answering.{shifted, answered_more, answered_all}
use Rattle.evmap_core.proofs.reader.answers_at.Goals as goal

pub loop-key-preserved : goal.loop-key-preserved
loop-key-preserved g c = (
  search of_calls,
  answered_more g.K.KeyClone.plain g.W.ShownAs.shows g.F.FnMut c.args.f c.loop-key.f c.f.new.self c.loop-key.yielded (c.in-Some.key, c.in-Some.bag) c.shown.result c.loop-key.answers.items c.push.new.self.items c.f.result c.shown.ensures c.f.ensures
      c.in_ok-push.ensures.items c.loop-key.invariant.1,
  shifted c.loop-key.yielded (c.in-Some.key, c.in-Some.bag) _ _ c.in-Some.ensures.steps ∙ c.loop-key.invariant.2,
)

pub returns : goal.returns
returns g c = answered_all g.K.KeyClone.plain g.W.ShownAs.shows g.F.FnMut c.args.f c.loop-key.f c.loop-key.yielded _ _ _ c.in-None.ensures.steps.0 c.loop-key.invariant.2 c.loop-key.invariant.1
