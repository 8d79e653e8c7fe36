use Rattle.std.proofs.Common.{◌≡◌, ◌++◌, take}
use Rattle.std.specs.Prelude.{flat_map, string_bytes}
use Rattle.distribution_rows.specs.Lines.{value_line}
use Rattle.distribution_rows.proofs.parts.push_quantiles.Given as goal

-- the rows so far
abbrev pub invariant-loop-place : goal.invariant-loop-place
invariant-loop-place l = string_bytes l.buffer ≡ string_bytes l.initial.buffer ++ flat_map (value_line l.name l.labels l.bag) (take l.place l.quantiles)
