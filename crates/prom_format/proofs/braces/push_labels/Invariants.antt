use Rattle.std.proofs.Common.{◌≡◌, ◌++◌, string_bytes, drop}
use Rattle.prom_format.specs.Lines.{any_behind, label_texts, separated}
use Rattle.prom_format.specs.Texts.{Begins}
use Rattle.prom_format.proofs.braces.push_labels.Given as goal

-- what is written, and what the labels still to come become
abbrev pub invariant-loop-label : goal.invariant-loop-label
invariant-loop-label l = record {
  written : string_bytes l.buffer ++ separated l.any (label_texts (drop l.label-index l.labels))
      ≡ string_bytes l.fn.buffer ++ separated l.fn.any (label_texts l.labels);
  some : any_behind l.any (label_texts (drop l.label-index l.labels)) ≡ any_behind l.fn.any (label_texts l.labels);
  kept : Begins (string_bytes l.fn.buffer) (string_bytes l.buffer);
}
