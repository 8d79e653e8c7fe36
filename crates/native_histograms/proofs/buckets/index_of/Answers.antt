use Rattle.std.proofs.Common.{w32, sym, ap, ◌∙◌, add-one, rules}
use Rattle.std.specs.Prelude.{FitsSigned}
use Rattle.std.proofs.lemmas.Int.{to_z-of_z}
use Rattle.native_histograms.specs.Native.{index_of}
use Rattle.native_histograms.specs.Placed.{half_up}
use Rattle.native_histograms.proofs.Indices.{index_of-halved}
use Rattle.native_histograms.proofs.buckets.index_of.Goals as goal

pub loop-lowered-preserved : goal.loop-lowered-preserved
loop-lowered-preserved c =
    let fits : FitsSigned w32 c.half_up-index.result = search rules in
    to_z-of_z w32 c.half_up-index.result fits
    ∙ c.half_up-index.ensures
    ∙ ap half_up c.loop-lowered.invariant
    ∙ sym (index_of-halved c.loop-lowered._lowered c.args.magnitude c.requires.least c.requires.most)
    ∙ ap (λ d. index_of d c.args.magnitude) (sym (add-one c.loop-lowered._lowered))
