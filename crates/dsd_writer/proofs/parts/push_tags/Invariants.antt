use Rattle.std.proofs.Common.{◌≡◌, ◌≤◌, ◌++◌, drop, vec_capacity}
use denote.Shadow.{shadow}
use denote.Text.{Utf8}
use Rattle.dsd_writer.specs.Lines.{tags_behind}
use Rattle.dsd_writer.proofs.parts.push_tags.Given as goal

-- the tags that are written, and those that are still to come
abbrev pub invariant-loop-tag : goal.invariant-loop-tag
invariant-loop-tag l = record {
  whole : l.bytes.items ++ tags_behind l.before (drop l.tag-index l.tags) ≡ l.fn.bytes.items ++ tags_behind l.first l.tags;
  utf8 : shadow (Utf8 l.before);
  capacity : vec_capacity l.fn.bytes ≤ vec_capacity l.bytes;
}
