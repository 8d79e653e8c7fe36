use Rattle.std.proofs.Common.{◌≡◌, ◌++◌, string_bytes}
use Rattle.std.specs.Prelude.{flat_map}
use Rattle.std.specs.Str.Iter.{chars_rest}
use Rattle.prom_format.specs.Printed.{escaped_character, printed_text}
use Rattle.prom_format.specs.Texts.{Begins}
use Rattle.prom_format.proofs.Walk.{walked}
use Rattle.prom_format.proofs.printed.push_escaped.Given as goal

-- what is written, and what the walk makes of the rest
abbrev pub invariant-loop-c : goal.invariant-loop-c
invariant-loop-c l = record {
  written : string_bytes l.buffer ++ flat_map (escaped_character l.in_label) (walked l.in_label l.waiting (chars_rest l.c-iterator))
      ≡ string_bytes l.fn.buffer ++ printed_text l.in_label l.text;
  kept : Begins (string_bytes l.fn.buffer) (string_bytes l.buffer);
}
