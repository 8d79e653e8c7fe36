-- Lists put in order, and the first item that two lists don't have equally often.
use Rattle.std.specs.Prelude.{List, [], ◌∷◌, Bool, count_by, nat_eq, Option, Some, None, if◌then◌else◌}
use Rattle.std.specs.Ordering.{is_lt}
use Rattle.std.specs.declared.cmp.Ordering.{Ordering}

-- an item put into a list in order, before the first that is not less
abbrev pub insert_by : {K : Type 0} → (K → K → Ordering) → K → List K → List K
insert_by R x [] = x ∷ []
insert_by R x (y ∷ ys) = if is_lt (R y x) then y ∷ insert_by R x ys else x ∷ y ∷ ys

-- a list put in order
abbrev pub sorted_by : {K : Type 0} → (K → K → Ordering) → List K → List K
sorted_by R [] = []
sorted_by R (x ∷ xs) = insert_by R x (sorted_by R xs)

-- an item, or a lesser one
abbrev pub lesser : {K : Type 0} → (K → K → Ordering) → Option K → K → Option K
lesser R None x = Some x
lesser R (Some least) x = if is_lt (R x least) then Some x else Some least

-- the least item so far that two lists don't have equally often, after one more item
abbrev pub lesser_differing : {K : Type 0} → (K → K → Ordering) → (K → K → Bool) → List K → List K → Option K → K → Option K
lesser_differing R E xs ys least x =
    if nat_eq (count_by (E x) xs) (count_by (E x) ys) then least else lesser R least x
