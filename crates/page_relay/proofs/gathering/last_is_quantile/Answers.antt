use Rattle.std.proofs.Common.{◌≡◌, ℕ, zero, suc, ◌+◌, ◌-◌, List, [], ◌∷◌, map, length, Some, string_bytes, ap, ◌∙◌, arith}
use Rattle.std.specs.Prelude.{slice_get, codes, bytes_eq}
use Rattle.std.specs.declared.string.String.{String}
use Rattle.std.specs.declared.alloc.Global.{Global}
use Rattle.page_relay.specs.Merge.{last_key_is}
use Rattle.page_relay.specs.Values.{label_of}
use Rattle.page_relay.proofs.gathering.last_is_quantile.Goals as goal

last_is : (key : List ℕ) (labels : List (String Global × String Global)) (label : String Global × String Global) (i : ℕ) → i + 1 ≡ length labels → Some label ≡ slice_get labels i → bytes_eq (string_bytes label.0) key ≡ last_key_is key (map label_of labels)
last_is key [] label i long at = absurd (cc)
last_is key (x ∷ []) label zero long at = let same : label ≡ x = cc in ap (λ l. bytes_eq (string_bytes l.0) key) same
last_is key (x ∷ []) label (suc i) long at = absurd (omega arith)
last_is key (x ∷ y ∷ labels) label zero long at = absurd (omega arith)
last_is key (x ∷ y ∷ labels) label (suc i) long at = last_is key (y ∷ labels) label i (omega arith) at

some_long : (labels : List (String Global × String Global)) (label : String Global × String Global) → Some label ≡ slice_get labels (length labels - 1) → (length labels - 1) + 1 ≡ length labels
some_long [] label at = absurd (cc)
some_long (x ∷ labels) label at = omega arith

pub returns-in-Some : goal.returns-in-Some
returns-in-Some c =
    let labels = c.args.labels.now in
    let label = c.in-Some.label.now in
    let at : Some label ≡ slice_get labels (length labels - 1) = c.in-Some.ensures.value in
    c.eq.ensures ∙ ap (λ l. bytes_eq l (codes "quantile")) c.as_str.ensures.value ∙ last_is (codes "quantile") labels label (length labels - 1) (some_long labels label at) at
