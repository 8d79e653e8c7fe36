use Rattle.std.proofs.Common.{◌≡◌, ◌++◌, [], ◌∷◌, Ok, Err, OnOk, OnErr, map, sym, subst, ap}
use Rattle.std.specs.Map.{values_of}
use Rattle.std.specs.Prelude.{ℕ, List, Some, unwrap_or}
use Rattle.std.specs.BTreeMap.{Updates}
use Rattle.hash_starts.specs.Starts.{begun_hash}
use Rattle.std.specs.declared.result.Result.{Result}
use Rattle.metrics_core.specs.Keys.{KeyText, key_cmp}
use Rattle.metrics_registry.specs.NumberedKeys.{key_fed, number_of}
use Rattle.metrics_registry.proofs.NumberedKeys.{Numbered, numbered_more, numbered_still, other_numbers}
use Rattle.metrics_registry.proofs.numbered_keys.push_apart.Goals as goal

pub returns-clause-numbered : goal.returns-clause-numbered
returns-clause-numbered c start numbered = by c.push_under.result c.push_under.ensures.added c.push_under.ensures.refused
  where
    es : List (ℕ × KeyText)
    es = c.args.keys.now.entries

    es' : List (ℕ × KeyText)
    es' = c.push_under.new.keys.entries

    updates : Updates key_cmp c.args.numbers.now c.insert.new.self c.args.key (Some c.in-Some.number)
    updates = subst (λ k. Updates key_cmp c.args.numbers.now c.insert.new.self k (Some c.in-Some.number)) c.in-Ok.ensures.same c.in-Ok-insert.ensures.updates

    same : map (number_of start c.insert.new.self) (values_of es) ≡ map (number_of start c.args.numbers.now) (values_of es)
    same = other_numbers start c.args.numbers.now c.insert.new.self c.args.key updates.2 (values_of es) c.requires.new

    by : (r : Result Unit KeyText) → OnOk r (es' ≡ es ++ (c.in-Some.number, c.args.key) ∷ []) → OnErr r (es' ≡ es) → Numbered (number_of start c.insert.new.self) es'
    by (Ok u) added refused =
        numbered_more (number_of start c.args.numbers.now) (number_of start c.insert.new.self) es es' c.in-Some.number c.args.key numbered same added
        (ap (λ o. unwrap_or o (begun_hash start (key_fed c.args.key))) (sym updates.1))
    by (Err key) added refused = numbered_still (number_of start c.args.numbers.now) (number_of start c.insert.new.self) es es' numbered same refused
