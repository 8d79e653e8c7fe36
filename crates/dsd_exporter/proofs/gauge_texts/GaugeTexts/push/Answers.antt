use Rattle.dsd_exporter.specs.GaugeTexts.{prefix_text}
use Rattle.dsd_exporter.proofs.GaugeTexts.{lines-pushed}
use Rattle.dsd_exporter.proofs.gauge_texts.GaugeTexts.push.Goals as goal

pub invariant_of-self : goal.invariant_of-self
invariant_of-self c =
    let inside = c.self.inside in
    lines-pushed (prefix_text inside.prefix) inside.tags.items c.push.result inside.keys c.push.new.self inside.lines.items c.args.key.now c.push.ensures.pushed c.push.ensures.refused c.self.invariant
