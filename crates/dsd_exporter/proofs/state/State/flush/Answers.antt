use Rattle.std.proofs.lemmas.Result.{on_ok_weaker}
use Rattle.dsd_exporter.proofs.FoundAll.{flushes_all}
use Rattle.dsd_exporter.proofs.state.State.flush.Goals as goal

pub returns-clause-home : goal.returns-clause-home
returns-clause-home g c =
    let flushed = c.flush_each.ensures in
    on_ok_weaker c.flush_each.result (λ whole home. flushes_all c.args.moment flushed.0 _ _ _ _ _ _ _ _ _ _ flushed.1 whole home) flushed.2
