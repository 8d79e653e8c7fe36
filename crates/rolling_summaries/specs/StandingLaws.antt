-- What follows where moments never fall.
use Rattle.std.proofs.Common.{ℕ, ◌≤◌, List, [], ◌∷◌, ◌++◌}
use Rattle.std.specs.List.{All}
use Rattle.std.proofs.lemmas.List.Elements.{All-head, All-tail, All-cons, All-nil}
use Rattle.rolling_summaries.specs.Window.{Sample}
use Rattle.rolling_summaries.specs.Standing.{NoneAfter, NeverFall}

-- not before a moment
abbrev NotBefore : ℕ → Sample → Type 0
NotBefore m sample = m ≤ sample.moment

middle_not_before : (m : ℕ) (xs ys : List Sample) (y : Sample) → All (NotBefore m) (xs ++ y ∷ ys) → m ≤ y.moment
middle_not_before m [] ys y all = All-head (NotBefore m) y ys all
middle_not_before m (x ∷ xs) ys y all = middle_not_before m xs ys y (All-tail (NotBefore m) x (xs ++ y ∷ ys) all)

prefix_not_before : (m : ℕ) (xs ys : List Sample) → All (NotBefore m) (xs ++ ys) → All (NotBefore m) xs
prefix_not_before m [] ys all = All-nil (NotBefore m)
prefix_not_before m (x ∷ xs) ys all =
    All-cons (NotBefore m) x xs (All-head (NotBefore m) x (xs ++ ys) all) (prefix_not_before m xs ys (All-tail (NotBefore m) x (xs ++ ys) all))

-- no sample is after one that comes later
pub none-after : (xs ys : List Sample) (y : Sample) → NeverFall (xs ++ y ∷ ys) → NoneAfter y.moment xs
none-after [] ys y rising = All-nil (λ (s : Sample). s.moment ≤ y.moment)
none-after (x ∷ xs) ys y rising =
    All-cons (λ (s : Sample). s.moment ≤ y.moment) x xs (middle_not_before x.moment xs ys y rising.0) (none-after xs ys y rising.1)

-- moments never fall in a prefix
pub NeverFall-prefix : (xs ys : List Sample) → NeverFall (xs ++ ys) → NeverFall xs
NeverFall-prefix [] ys rising = tt
NeverFall-prefix (x ∷ xs) ys rising = (prefix_not_before x.moment xs ys rising.0, NeverFall-prefix xs ys rising.1)
