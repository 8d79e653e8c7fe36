use Rattle.std.proofs.Common.{◌≡◌, ◌++◌, take}
use Rattle.std.specs.Prelude.{string_bytes}
use Rattle.prom_exporter.proofs.RedirectedRows.{rows_text}
use Rattle.prom_exporter.proofs.redirections.push_redirections.Given as goal

-- the rows so far stand behind the type line
abbrev pub invariant-loop-index : goal.invariant-loop-index
invariant-loop-index l = string_bytes l.buffer ≡ string_bytes l.initial.buffer ++ rows_text (take l.index l.redirections.entries)
