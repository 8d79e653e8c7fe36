use Rattle.std.proofs.Common.{sym, ap, ◌∙◌}
use Rattle.std.specs.Prelude.{unwrap_or}
use Rattle.std.specs.Option.{option_copied}
use Rattle.name_counts.specs.Counts.{count_of}
use Rattle.name_counts.proofs.Counted.{count_of-lookup}
use Rattle.name_counts.proofs.name_counts.NameCounts.count.Goals as goal

pub returns-in-Some : goal.returns-in-Some
returns-in-Some c =
    ap (λ o. unwrap_or (option_copied o) 0) (sym c.in-Some.is) ∙ ap (λ o. unwrap_or o 0) c.get.ensures.value
    ∙ sym (count_of-lookup c.args.kind c.args.name.now c.self.inside.counts.entries)
    ∙ ap (λ counts. count_of c.args.kind c.args.name.now counts.entries) c.self.view_is

pub returns-in-None : goal.returns-in-None
returns-in-None c =
    ap (λ o. unwrap_or (option_copied o) 0) (sym c.in-None.is) ∙ ap (λ o. unwrap_or o 0) c.get.ensures.value
    ∙ sym (count_of-lookup c.args.kind c.args.name.now c.self.inside.counts.entries)
    ∙ ap (λ counts. count_of c.args.kind c.args.name.now counts.entries) c.self.view_is
