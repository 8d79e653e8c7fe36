-- From what holds of two lists at each place to what holds of their elements in pairs.
use Rattle.std.proofs.Common.{◌≡◌, ℕ, zero, suc, ◌<◌, length, List, [], ◌∷◌, slice_index_or, Result, Ok, Err, IfOk, All, arith}
use Rattle.std.specs.List.{AllZip}

pub in_pairs : {A B : Type 0} (R : A → B → Type 0) (xs : List A) (ys : List B) → length ys ≡ length xs
    → ((k : ℕ) (d : A) (e : B) → k < length xs → R (slice_index_or xs k d) (slice_index_or ys k e)) → AllZip R xs ys
in_pairs R [] [] same each = tt
in_pairs R [] (y ∷ ys) same each = absurd (omega (arith, same))
in_pairs R (x ∷ xs) [] same each = absurd (omega (arith, same))
in_pairs R (x ∷ xs) (y ∷ ys) same each = (each 0 x y (omega arith), in_pairs R xs ys (omega (arith, same)) (λ k d e less. each (suc k) d e (omega (arith, less))))

pub if_ok_both : {X Y : Type 0} (P Q S : X → Type 0) (r : Result X Y) → IfOk r P → IfOk r Q → ((x : X) → P x → Q x → S x) → IfOk r S
if_ok_both P Q S (Ok x) p q f = f x p q
if_ok_both P Q S (Err e) p q f = tt

-- what holds of the second of each pair, whatever the first is, holds of all that are second
pub in_each : {A B : Type 0} (Q : B → Type 0) (xs : List A) (ys : List B) → AllZip (λ _ y. Q y) xs ys → All Q ys
in_each Q [] [] pairs k d less = absurd (omega (arith, less))
in_each Q [] (y ∷ ys) pairs k d less = absurd pairs
in_each Q (x ∷ xs) [] pairs k d less = absurd pairs
in_each Q (x ∷ xs) (y ∷ ys) pairs zero d less = pairs.0
in_each Q (x ∷ xs) (y ∷ ys) pairs (suc k) d less = in_each Q xs ys pairs.1 k d (omega (arith, less))
