-- How counts are read and changed in a map of stored pairs.
use Rattle.std.proofs.Common.{◌≡◌, ℕ, ◌+◌, ◌-◌, Bool, true, false, cond, List, [], ◌∷◌, ◌++◌, map, None, Some, refl, sym, ap, is_some}
use Rattle.std.specs.Prelude.{find, option_map, unwrap_or}
use Rattle.std.specs.Map.{lookup, set_value}
use Rattle.metrics_core.specs.declared.kinds.MetricKind.{MetricKind}
use Rattle.metrics_core.specs.Numbers.{in_64_bits}
use Rattle.name_counts.specs.declared.names.CountedName.{CountedName}
use Rattle.name_counts.specs.Counts.{NameCount, is_of, count_of, raised, lowered}
use Rattle.name_counts.specs.Names.{is_named, counted}
use Rattle.name_counts.specs.NameLaws.{same_of}

module _ (kind : MetricKind) (name : List ℕ) where
  -- the count of a pair is what a look-up gives
  pub count_of-lookup : (es : List (CountedName × ℕ)) → count_of kind name (map counted es) ≡ unwrap_or (lookup (is_named kind name) es) 0
  count_of-lookup [] = refl
  count_of-lookup (e ∷ es) = by (is_named kind name e.0) (count_of-lookup es)
    where
      by : (b : Bool) → count_of kind name (map counted es) ≡ unwrap_or (lookup (is_named kind name) es) 0
          → unwrap_or (option_map (λ (c : NameCount). c.count) (cond b (Some (counted e)) (find (is_of kind name) (map counted es)))) 0
          ≡ unwrap_or (cond b (Some e.1) (lookup (is_named kind name) es)) 0
      by true rest = refl
      by false rest = rest

  -- a pair is counted where it is found
  pub is_counted : (es : List (CountedName × ℕ)) → is_some (find (is_of kind name) (map counted es)) ≡ is_some (lookup (is_named kind name) es)
  is_counted [] = refl
  is_counted (e ∷ es) = by (is_named kind name e.0) (is_counted es)
    where
      by : (b : Bool) → is_some (find (is_of kind name) (map counted es)) ≡ is_some (lookup (is_named kind name) es)
          → is_some (cond b (Some (counted e)) (find (is_of kind name) (map counted es))) ≡ is_some (cond b (Some e.1) (lookup (is_named kind name) es))
      by true rest = refl
      by false rest = rest

  -- a count that is found is raised in its place
  pub raised-found : (es : List (CountedName × ℕ)) (n : ℕ) → lookup (is_named kind name) es ≡ Some n → map counted (set_value (is_named kind name) es (in_64_bits (n + 1))) ≡ raised kind name (map counted es)
  raised-found [] n found = absurd cc
  raised-found (e ∷ es) n found = by (is_named kind name e.0) (raised-found es n) found
    where
      by : (b : Bool) → (lookup (is_named kind name) es ≡ Some n → map counted (set_value (is_named kind name) es (in_64_bits (n + 1))) ≡ raised kind name (map counted es))
          → cond b (Some e.1) (lookup (is_named kind name) es) ≡ Some n
          → map counted (cond b ((e.0, in_64_bits (n + 1)) ∷ es) (e ∷ set_value (is_named kind name) es (in_64_bits (n + 1))))
          ≡ cond b (counted (e.0, in_64_bits (e.1 + 1)) ∷ map counted es) (counted e ∷ raised kind name (map counted es))
      by true rest found = ap (λ o. counted (e.0, in_64_bits (unwrap_or o 0 + 1)) ∷ map counted es) (sym found)
      by false rest found = ap (λ cs. counted e ∷ cs) (rest found)

  -- and lowered there
  pub lowered-found : (es : List (CountedName × ℕ)) (n : ℕ) → lookup (is_named kind name) es ≡ Some n → map counted (set_value (is_named kind name) es (n - 1)) ≡ lowered kind name (map counted es)
  lowered-found [] n found = absurd cc
  lowered-found (e ∷ es) n found = by (is_named kind name e.0) (lowered-found es n) found
    where
      by : (b : Bool) → (lookup (is_named kind name) es ≡ Some n → map counted (set_value (is_named kind name) es (n - 1)) ≡ lowered kind name (map counted es))
          → cond b (Some e.1) (lookup (is_named kind name) es) ≡ Some n
          → map counted (cond b ((e.0, n - 1) ∷ es) (e ∷ set_value (is_named kind name) es (n - 1)))
          ≡ cond b (counted (e.0, e.1 - 1) ∷ map counted es) (counted e ∷ lowered kind name (map counted es))
      by true rest found = ap (λ o. counted (e.0, unwrap_or o 0 - 1) ∷ map counted es) (sym found)
      by false rest found = ap (λ cs. counted e ∷ cs) (rest found)

  -- a pair that isn't found goes last
  pub raised-new : (es : List (CountedName × ℕ)) (key : CountedName) → is_named kind name key ≡ true → lookup (is_named kind name) es ≡ None → map counted (es ++ (key, 1) ∷ []) ≡ raised kind name (map counted es)
  raised-new [] key same none = sym (same_of (λ kind name. record { kind = kind; name = name; count = 1 } ∷ []) kind name key same)
  raised-new (e ∷ es) key same none = by (is_named kind name e.0) (raised-new es key same) none
    where
      by : (b : Bool) → (lookup (is_named kind name) es ≡ None → map counted (es ++ (key, 1) ∷ []) ≡ raised kind name (map counted es))
          → cond b (Some e.1) (lookup (is_named kind name) es) ≡ None
          → counted e ∷ map counted (es ++ (key, 1) ∷ [])
          ≡ cond b (counted (e.0, in_64_bits (e.1 + 1)) ∷ map counted es) (counted e ∷ raised kind name (map counted es))
      by true rest none = absurd cc
      by false rest none = ap (λ cs. counted e ∷ cs) (rest none)
