use Rattle.std.proofs.Common.{◌≡◌, ℕ, ◌<◌, List, Option, Some, None, map, sym, ap, subst, ◌∙◌, arith}
use Rattle.std.specs.Prelude.{unwrap_or}
use Rattle.std.specs.Option.{option_copied_mut}
use Rattle.std.specs.Map.{lookup}
use Rattle.metrics_core.specs.declared.kinds.MetricKind.{MetricKind}
use Rattle.name_counts.specs.declared.names.CountedName.{CountedName}
use Rattle.name_counts.specs.Counts.{Counts, count_of, lowered}
use Rattle.name_counts.specs.Names.{is_named, counted}
use Rattle.name_counts.proofs.Counted.{count_of-lookup, lowered-found}
use Rattle.name_counts.proofs.name_counts.NameCounts.take.Goals as goal
use Rattle.name_counts.proofs.name_counts.NameCounts.take.Goals.{in-Some, in_default}

-- what was found is what the contract counts
counted_is : (kind : MetricKind) (name : List ℕ) (es : List (CountedName × ℕ)) (found : Option ℕ) → found ≡ lookup (is_named kind name) es → (now : Counts) → map counted es ≡ now.entries
    → 0 < count_of kind name now.entries → 0 < unwrap_or found 0
counted_is kind name es found is now view some =
    subst (λ n. 0 < n) (ap (count_of kind name) (sym view) ∙ count_of-lookup kind name es ∙ ap (λ o. unwrap_or o 0) (sym is)) some

pub overflow_sub-count : goal.overflow_sub-count
overflow_sub-count c =
    counted_is c.args.kind c.args.name.now c.self.inside.counts.entries (Some c.in-Some.count.now) (sym (ap option_copied_mut c.in-Some.is) ∙ c.get_mut.ensures.value) c.args.self.now (ap (λ counts. counts.entries) c.self.view_is) c.requires

pub returns : goal.returns
returns c =
    elim c.match-get_mut.branch [
      | in-Some w ↦
          ap (λ inside. map counted inside.counts.entries) w.self-inside-is
          ∙ ap (map counted) (c.get_mut.follows.holds _).0
          ∙ lowered-found c.args.kind c.args.name.now c.self.inside.counts.entries w.in-Some.count.now (sym c.get_mut.ensures.value ∙ ap option_copied_mut w.in-Some.is)
          ∙ ap (λ counts. lowered c.args.kind c.args.name.now counts.entries) c.self.view_is
      | in_default w ↦ absurd (omega (arith, counted_is c.args.kind c.args.name.now c.self.inside.counts.entries None (sym (ap option_copied_mut w.in_default.is) ∙ c.get_mut.ensures.value) c.args.self.now (ap (λ counts. counts.entries) c.self.view_is) c.requires))
    ]
