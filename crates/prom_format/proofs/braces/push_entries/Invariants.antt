use Rattle.std.proofs.Common.{◌≡◌, ◌++◌, string_bytes}
use Rattle.prom_format.specs.LabelSets.{labels_of}
use Rattle.prom_format.specs.Lines.{any_behind, label_texts, separated}
use Rattle.prom_format.specs.Texts.{Begins}
use Rattle.prom_format.proofs.braces.push_entries.Given as goal

-- what is written, and what the labels still to come become
abbrev pub invariant-loop-key : goal.invariant-loop-key
invariant-loop-key l = record {
  written : string_bytes l.buffer ++ separated l.any (label_texts (labels_of l.key-iterator))
      ≡ string_bytes l.fn.buffer ++ separated l.fn.any (label_texts (labels_of l.labels.entries));
  some : any_behind l.any (label_texts (labels_of l.key-iterator)) ≡ any_behind l.fn.any (label_texts (labels_of l.labels.entries));
  kept : Begins (string_bytes l.fn.buffer) (string_bytes l.buffer);
}
