use Rattle.std.proofs.Common.{◌≡◌, ◌∙◌, ap}
use Rattle.std.specs.Prelude.{option_copied, fold}
use Rattle.std.specs.Ordering.{nat_cmp}
use Rattle.metrics_core.specs.Sorting.{lesser_differing}
use Rattle.metrics_core.specs.Keys.{label_eq, label_cmp}
use Rattle.metrics_core.proofs.ComparedLabels.{found, nothing_differs, label_differs}
use Rattle.metrics_core.proofs.labels.compare_counts.Goals as goal

pub returns-in-None : goal.returns-in-None
returns-in-None c =
    let xs = c.args.labels.now in
    let ys = c.args.others.now in
    let both : option_copied c.least_differing.result ≡ found xs ys = c.least_differing.ensures ∙ ap (λ start. fold (lesser_differing label_cmp label_eq xs ys) start ys) c.least_differing-found.ensures in
    nothing_differs xs ys (option_copied c.least_differing.result) both (ap option_copied c.in-None.is)

pub returns-in-Some : goal.returns-in-Some
returns-in-Some c =
    let xs = c.args.labels.now in
    let ys = c.args.others.now in
    let both : option_copied c.least_differing.result ≡ found xs ys = c.least_differing.ensures ∙ ap (λ start. fold (lesser_differing label_cmp label_eq xs ys) start ys) c.least_differing-found.ensures in
    c.cmp.ensures
    ∙ (λ i. nat_cmp (c.count.ensures i) (c.count-in-Some.ensures i))
    ∙ label_differs xs ys (option_copied c.least_differing.result) c.in-Some.label.now c.requires both (ap option_copied c.in-Some.is)
