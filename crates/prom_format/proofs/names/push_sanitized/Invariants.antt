use Rattle.std.proofs.Common.{◌≡◌, ◌++◌, map, chars, string_bytes}
use Rattle.std.specs.Str.{IsUtf8}
use Rattle.std.specs.Str.Iter.{chars_rest}
use Rattle.prom_format.specs.NameKinds.{begins, continues}
use Rattle.prom_format.specs.Names.{sanitized_characters, kept_or_underscore}
use Rattle.prom_format.specs.Texts.{Begins}
use Rattle.prom_format.proofs.names.push_sanitized.Given as goal

-- what is written, and what the characters still to come become
abbrev pub invariant-loop-character : goal.invariant-loop-character
invariant-loop-character l = record {
  text : IsUtf8 (chars_rest l.character-iterator);
  written : string_bytes l.buffer ++ map (kept_or_underscore (continues l.kind)) (chars (chars_rest l.character-iterator)) ≡ string_bytes l.fn.buffer ++ sanitized_characters (begins l.kind) (chars l.text);
  kept : Begins (string_bytes l.fn.buffer) (string_bytes l.buffer);
}
