-- Worked rows.
use Rattle.std.specs.Prelude.{◌≡◌, ℕ, nat_eq, true, false, [], ◌∷◌, fold, refl}
use Rattle.std.specs.List.{range_with_len}
use Rattle.value_bags.specs.declared.bag.BagForm.{BagForm}
use Rattle.value_bags.specs.declared.bag.BagForm.TheVariants.{Short, Long}
use Rattle.value_bags.specs.Bags.{is_short, bag_len, fitted, roomy, pushed, removed, reserved}

-- a bag of so many different values
abbrev different : ℕ → BagForm ℕ
different n = fold (pushed nat_eq) (Short []) (range_with_len 0 n)

few : is_short (different 31) ≡ true
few = refl

many : is_short (different 32) ≡ false
many = refl

many-len : bag_len (different 32) ≡ 32
many-len = refl

-- taken out one by one, and fitted
none : fitted (fold (removed nat_eq) (different 32) (range_with_len 0 32)) ≡ Short []
none = refl

-- two equal values are no bag that fits
doubles : fitted {V = ℕ} (Long ((7, 2) ∷ [])) ≡ Long ((7, 2) ∷ [])
doubles = refl

single : fitted {V = ℕ} (Long ((7, 1) ∷ (8, 1) ∷ [])) ≡ Short (7 ∷ 8 ∷ [])
single = refl

-- the last takes the place of a value that goes
swapped : removed nat_eq (Long ((7, 1) ∷ (8, 2) ∷ (9, 1) ∷ [])) 7 ≡ Long ((9, 1) ∷ (8, 2) ∷ [])
swapped = refl

lowered : removed nat_eq (Long ((7, 1) ∷ (8, 2) ∷ [])) 8 ≡ Long ((7, 1) ∷ (8, 1) ∷ [])
lowered = refl

first : removed nat_eq (Short (7 ∷ 8 ∷ 7 ∷ [])) 7 ≡ Short (8 ∷ 7 ∷ [])
first = refl

-- room for 31 more beside one value makes a bag long, and room for 32 values of a new one does not
grown : reserved nat_eq 31 (Short (7 ∷ [])) ≡ Long ((7, 1) ∷ [])
grown = refl

kept : reserved nat_eq 30 (Short (7 ∷ [])) ≡ Short (7 ∷ [])
kept = refl

new-short : roomy {V = ℕ} 32 ≡ Short []
new-short = refl

new-long : roomy {V = ℕ} 33 ≡ Long []
new-long = refl
