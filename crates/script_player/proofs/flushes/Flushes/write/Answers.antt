use Rattle.std.proofs.Common.{ap, refl}
use Rattle.std.proofs.lemmas.Result.{IfOk-weaker}
use Rattle.dsd_exporter.specs.Exporter.{Exporter}
use Rattle.dsd_exporter.proofs.Resting.{flush_rests, rests_for_lanes}
use Rattle.script_player.proofs.Returned.{either_way}
use Rattle.script_player.proofs.SendSteps.{flush_written}
use Rattle.script_player.proofs.flushes.Flushes.write.Goals as goal

pub returns-clause-rests : goal.returns-clause-rests
returns-clause-rests g c =
    either_way c.write_flush.result c.write_flush.ensures.written c.write_flush.ensures.refused
    (λ dropped writes. record {
      rest = flush_rests _ _ _ writes.found _ _ _ _ _ _ _ _ writes.flushes c.requires.rest;
      settings = ap (λ (e : Exporter). e.settings) writes.flushes.rest;
      writer = writes.flushes.sends.settings;
      report = refl;
    })
    (λ refused. record {
      rest = flush_rests _ _ _ refused.0 _ _ _ _ _ _ _ _ refused.1 c.requires.rest;
      settings = ap (λ (e : Exporter). e.settings) refused.1.rest;
      writer = refused.1.sends.settings;
      report = refl;
    })

pub returns-clause-flushed : goal.returns-clause-flushed
returns-clause-flushed g c =
    let home = (rests_for_lanes c.args.exporter.now).home c.requires.rest in
    IfOk-weaker c.write_flush.result _ _
    (λ dropped writes. record {
      stepped = (writes.home home).step;
      written = λ settings to ready same. flush_written settings to _ _ _ _ _ _ _ _ _ _ _ dropped writes home ready same;
    }) c.write_flush.ensures.written
