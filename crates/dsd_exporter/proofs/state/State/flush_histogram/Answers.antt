use Rattle.std.proofs.Common.{◌<◌, length, sym, ap, subst, ◌∙◌}
use Rattle.dsd_exporter.specs.Exporter.{Exporter}
use Rattle.dsd_exporter.proofs.Taken.{length-with}
use Rattle.dsd_exporter.proofs.Histograms.{histogram_flushed}
use Rattle.dsd_exporter.proofs.state.State.flush_histogram.Goals as goal

pub send_histogram-requires : goal.send_histogram-requires
send_histogram-requires g c =
    let drains = c.drain_histogram.ensures.drains in
    subst (λ n. c.args.place < n) (sym (ap length drains.4 ∙ length-with c.args.self.now.series.histograms c.args.place drains.1)) c.requires

pub clear_histogram-requires : goal.clear_histogram-requires
clear_histogram-requires g c =
    let drains = c.drain_histogram.ensures.drains in
    subst (λ n. c.args.place < n) (sym (ap length drains.4 ∙ length-with c.args.self.now.series.histograms c.args.place drains.1)) c.requires

pub returns-clause-flushed : goal.returns-clause-flushed
returns-clause-flushed g c =
    histogram_flushed c.args.self.now.settings c.drain_histogram.new.self.settings (ap (λ (e : Exporter). e.settings) c.drain_histogram.ensures.others) c.args.place _ _ _ _ _ _ _ _ _
    c.in_ok-drain_histogram.ensures.empty c.in_ok-send_histogram.ensures.sent c.clear_histogram.ensures.cleared
