use Rattle.std.proofs.Common.{Some, None, cond, refl, ap, ◌∙◌}
use Rattle.std.proofs.lemmas.Result.{on_ok_weaker}
use Rattle.std.specs.Option.{option_copied}
use Rattle.dsd_exporter.specs.Exporter.{settings_of}
use Rattle.dsd_exporter.specs.Samples.{samples_in}
use Rattle.dsd_exporter.proofs.SentSamples.{sampled_sends, whole_sends}
use Rattle.dsd_exporter.proofs.configuration.StateConfiguration.send_samples.Goals as goal

pub returns-in_ok-sample-clause-sent : goal.returns-in_ok-sample-clause-sent
returns-in_ok-sample-clause-sent g c =
    on_ok_weaker c.send_values.result
    (sampled_sends (settings_of c.args.self.now) c.args.key.now (samples_in c.args.histogram.now.taken) c.args.writer.now c.send_values.new.writer c.args.telemetry.now c.send_values.new.telemetry
    (g.W.Words.to_come c.args.words.now) (g.W.Words.to_come c.sample.new.words) c.if-not-has_samples.ensures.some (option_copied c.prefix_for-prefix.result) c.prefix_for-prefix.ensures
    c.args.self.now.histogram_reservoir_size (ap (λ b. cond b (Some c.args.self.now.histogram_reservoir_size) None) c.if-self.true) c.in_ok-sample.sample c.in_ok-sample.ensures.sample _ c.sample_rate.ensures _ c.values.ensures)
    c.send_values.ensures.sent

pub returns-in_ok-samples-clause-sent : goal.returns-in_ok-samples-clause-sent
returns-in_ok-samples-clause-sent g c =
    on_ok_weaker c.send_values-else-self.result
    (whole_sends (settings_of c.args.self.now) c.args.key.now (samples_in c.args.histogram.now.taken) c.args.writer.now c.send_values-else-self.new.writer c.args.telemetry.now c.send_values-else-self.new.telemetry
    (g.W.Words.to_come c.args.words.now) (g.W.Words.to_come c.args.words.now) c.if-not-has_samples.ensures.some (option_copied c.prefix_for-prefix.result) c.prefix_for-prefix.ensures
    (ap (λ b. cond b (Some c.args.self.now.histogram_reservoir_size) None) c.if-self.false) refl _ (c.as_slice.ensures.value ∙ c.in_ok-samples.ensures))
    c.send_values-else-self.ensures.sent
