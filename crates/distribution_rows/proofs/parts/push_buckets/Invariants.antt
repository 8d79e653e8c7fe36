use Rattle.std.proofs.Common.{◌≡◌, ◌++◌, take}
use Rattle.std.specs.Prelude.{flat_map, string_bytes}
use Rattle.metrics_registry.specs.Buckets.{bucket_of}
use Rattle.distribution_rows.specs.Lines.{bucket_line}
use Rattle.distribution_rows.proofs.parts.push_buckets.Given as goal

-- the rows so far
abbrev pub invariant-loop-bucket : goal.invariant-loop-bucket
invariant-loop-bucket l = string_bytes l.buffer ≡ string_bytes l.initial.buffer ++ flat_map (λ bucket. bucket_line l.name l.labels (bucket_of bucket)) (take l.bucket-index l.buckets)
