use Rattle.std.proofs.Common.{◌≡◌, ◌+◌, length, drop}
use denote.Shadow.{shadow}
use denote.Text.{Utf8}
use Rattle.dsd_writer.specs.Lines.{tags_behind}
use Rattle.dsd_writer.proofs.parts.behind_tags.Given as goal

-- what was left and what was to come, and what is left and what is still to come
abbrev pub invariant-loop-tag : goal.invariant-loop-tag
invariant-loop-tag l =
    (l.left + length (tags_behind l.first l.tags) ≡ l.room + length (tags_behind l.before (drop l.tag-index l.tags))) × shadow (Utf8 l.before)
