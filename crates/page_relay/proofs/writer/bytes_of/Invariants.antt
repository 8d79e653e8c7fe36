use Rattle.std.proofs.Common.{◌≡◌, take, map}
use Rattle.std.specs.Prelude.{flat_map}
use Rattle.prom_format.specs.Pages.{block_text}
use Rattle.page_relay.specs.Values.{family_of}
use Rattle.page_relay.proofs.writer.bytes_of.Given as goal

abbrev pub invariant-loop-family : goal.invariant-loop-family
invariant-loop-family l = l.text.items ≡ flat_map block_text (map family_of (take l.family-index l.family-items))
