use Rattle.std.proofs.Common.{ap, ◌∙◌}
use Rattle.std.proofs.lemmas.Result.{IfOk-weaker}
use Rattle.evmap_contents.specs.Fold.{after}
use Rattle.evmap_core.specs.Stored.{state_of}
use Rattle.evmap_core.proofs.Fronts.{starts}
use Rattle.evmap_core.proofs.Rooms.{made-alike}
use Rattle.evmap_core.proofs.writer.WriteHandle.empty_writer.Goals as goal

pub new-requires-4-clause-rule : goal.new-requires-4-clause-rule
new-requires-4-clause-rule g c = starts g.K.KeyClone.plain (after g.K.KeyClone.same g.V.PartialEq.eq g.P.Keep.keeps) c.in_ok-first.first _ _ c.in_ok-first.ensures.made

pub returns-clause-alike : goal.returns-clause-alike
returns-clause-alike g c =
    let plain = g.K.KeyClone.plain in
    IfOk-weaker c.new-4.result _ _ (λ w h.
    made-alike plain (after g.K.KeyClone.same g.V.PartialEq.eq g.P.Keep.keeps) w.desk.shown.value w.desk.spare.value _ c.args.capacity w.log.items w.behind w.ahead (ap (state_of plain) h.0 ∙ c.in_ok-first.ensures.made) h.1 w.in_step) c.new-4.ensures
