use Rattle.std.proofs.Common.{◌≡◌, length, fold}
use Rattle.std.specs.Prelude.{flat_map}
use Rattle.prom_format.specs.LabelSets.{labels_of, label_hash_input}
use Rattle.prom_format.proofs.labels.LabelSetHash.hash.Given as goal

-- the writes of the labels that are left lead to where those of all labels do
abbrev pub invariant-loop-key : goal.invariant-loop-key
invariant-loop-key g l =
    fold g.H.Hasher.write l.state (flat_map label_hash_input (labels_of l.rest)) ≡ fold g.H.Hasher.write l.initial.state (flat_map label_hash_input (labels_of l.initial.rest))

abbrev pub decreases-loop-key : goal.decreases-loop-key
decreases-loop-key g l = length l.rest
