use Rattle.std.proofs.Common.{◌≡◌, ◌++◌, ℕ, List, sym, ap, ◌∙◌, subst, append_assoc}
use Rattle.std.specs.Prelude.{OnOk, flat_map, string_bytes}
use Rattle.std.specs.Int.{w128}
use Rattle.std.proofs.lemmas.Int.{to_z-of_z}
use Rattle.std.proofs.lemmas.List.Folds.{flat_map-map}
use Rattle.metrics_registry.specs.Buckets.{bucket_of}
use Rattle.distribution_rows.specs.Lines.{bucket_line, last_bucket_line, sum_and_count_lines}
use Rattle.distribution_rows.proofs.rows.push_histogram.Goals as goal

parts : (old buckets last ends : List ℕ) → ((old ++ buckets) ++ last) ++ ends ≡ old ++ ((buckets ++ last) ++ ends)
parts old buckets last ends = simp append_assoc

pub returns : goal.returns
returns c =
    let name = c.args.name.now in
    let labels = c.args.labels.now in
    let shown = c.args.histogram.now in
    let old = string_bytes c.args.buffer.now in
    let buckets = flat_map (bucket_line name labels) shown.buckets in
    let P : List ℕ → Type 0 = λ text. OnOk c.push_sum_and_count.result (string_bytes c.push_sum_and_count.new.buffer ≡ text) in
    let first : string_bytes c.push_buckets.new.buffer ≡ old ++ buckets =
    c.in_ok-push_buckets.ensures ∙ ap (λ l. old ++ l) (sym (flat_map-map (bucket_line name labels) bucket_of c.buckets.result.now) ∙ ap (flat_map (bucket_line name labels)) c.buckets.ensures) in
    let second : string_bytes c.push_last_bucket.new.buffer ≡ (old ++ buckets) ++ last_bucket_line name labels shown.count =
    c.in_ok-push_last_bucket.ensures ∙ (λ j. first j ++ last_bucket_line name labels (c.count.ensures j)) in
    let sum = to_z-of_z w128 c.sum.result (record { sfits = c.sum.type_inv }) ∙ c.sum.ensures in
    subst P
    ((λ j. second j ++ sum_and_count_lines name labels (sum j) (c.count-2.ensures j))
    ∙ parts old buckets (last_bucket_line name labels shown.count) (sum_and_count_lines name labels shown.sum shown.count))
    c.push_sum_and_count.ensures
