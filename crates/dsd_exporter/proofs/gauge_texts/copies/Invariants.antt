use Rattle.std.proofs.Common.{◌≡◌, take}
use Rattle.dsd_exporter.proofs.gauge_texts.copies.Given as goal

abbrev pub invariant-loop-tag : goal.invariant-loop-tag
invariant-loop-tag l = l.copies.items ≡ take l.tag-index l.tags
