-- What contracts see of the payloads that a writer hands out.
use Rattle.std.specs.Prelude.{ℕ, List, drop}
use Rattle.dsd_writer.specs.Packing.{pieces_at}
use Rattle.dsd_writer.specs.declared.payloads.Payloads.{Payloads as PayloadsOf}

-- the payloads that are left, as they are handed over
abbrev pub payloads_left : PayloadsOf → List (List ℕ)
payloads_left payloads = drop payloads.next (pieces_at payloads.buffer.now.starts.items payloads.buffer.now.bytes.items)
