use Rattle.std.proofs.Common.{◌≡◌, ◌∙◌, ap, sym, ℕ, List, None, ◌++◌, ◌∷◌, subst}
use Rattle.std.specs.Prelude.{fold, map, option_map}
use Rattle.std.specs.List.Sorted.{IsStrictlySortedBy}
use Rattle.std.specs.Ordering.{nat_cmp}
use Rattle.distributions.specs.Rules.{tried}
use Rattle.distributions.proofs.Fitting.{nothing_behind}
use Rattle.distributions.proofs.Sides.{least_rule, stopped}
use Rattle.distributions.proofs.rules.least.Goals.{in-None, in-Some+then-count-name}
use Rattle.distributions.proofs.rules.least.Goals as goal

pub returns-in-Some-best : goal.returns-in-Some-best
returns-in-Some-best g c =
    let side = c.args.side in
    let name = c.args.name.now in
    let es = c.args.texts.now.entries in
    let counts = map (λ n. n.now) c.loop-count.yielded in
    ap (λ best. option_map (λ (b : List ℕ × g.row.T.Denot). b.1) (option_map (λ b. (b.0.now, b.1.now)) best)) (sym c.in-Some-best.is)
    ∙ ap (option_map (λ b. b.1)) c.loop-count.invariant.0
    ∙ (elim c.match-next.branch [
      | in-None w ↦ ap (λ counts. option_map (λ b. b.1) (fold (tried side name es) None counts)) (sym (nothing_behind counts _ w.in-None.ensures.steps.0) ∙ c.loop-count.invariant.1)
      | in-Some+then-count-name w ↦
          let all : counts ++ w.in-Some.count.now ∷ c.next.new.self ≡ c.args.lengths.now.keys = ap (λ rest. counts ++ rest) (sym w.in-Some.ensures.steps) ∙ c.loop-count.invariant.1 in
          ap (option_map (λ b. b.1))
          (stopped side name es counts c.next.new.self w.in-Some.count.now None (subst (IsStrictlySortedBy nat_cmp) (sym all) c.len-len.ensures.ordered) w.if-count-name.true
          ∙ ap (fold (tried side name es) None) all)
    ])
    ∙ least_rule side name c.args.lengths.now c.args.texts.now c.requires.measured

pub returns-in-None-best : goal.returns-in-None-best
returns-in-None-best g c =
    let side = c.args.side in
    let name = c.args.name.now in
    let es = c.args.texts.now.entries in
    let counts = map (λ n. n.now) c.loop-count.yielded in
    ap (λ best. option_map (λ (b : List ℕ × g.row.T.Denot). b.1) (option_map (λ b. (b.0.now, b.1.now)) best)) (sym c.in-None-best.is)
    ∙ ap (option_map (λ b. b.1)) c.loop-count.invariant.0
    ∙ (elim c.match-next.branch [
      | in-None w ↦ ap (λ counts. option_map (λ b. b.1) (fold (tried side name es) None counts)) (sym (nothing_behind counts _ w.in-None.ensures.steps.0) ∙ c.loop-count.invariant.1)
      | in-Some+then-count-name w ↦
          let all : counts ++ w.in-Some.count.now ∷ c.next.new.self ≡ c.args.lengths.now.keys = ap (λ rest. counts ++ rest) (sym w.in-Some.ensures.steps) ∙ c.loop-count.invariant.1 in
          ap (option_map (λ b. b.1))
          (stopped side name es counts c.next.new.self w.in-Some.count.now None (subst (IsStrictlySortedBy nat_cmp) (sym all) c.len-len.ensures.ordered) w.if-count-name.true
          ∙ ap (fold (tried side name es) None) all)
    ])
    ∙ least_rule side name c.args.lengths.now c.args.texts.now c.requires.measured
