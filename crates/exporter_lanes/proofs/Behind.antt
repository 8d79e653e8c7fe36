-- The images of two lists, one behind the other, by their indices.
use Rattle.std.proofs.Common.{◌≡◌, ℕ, zero, suc, ◌+◌, ◌<◌, ◌⊎◌, List, [], ◌∷◌, ◌++◌, length, map, set, refl, sym, ap, subst, ◌∙◌, inl, inr, ⊎_elim, arith, length-append}
use Rattle.std.proofs.lemmas.List.{length-map, map-set}
use mathlib.Core.Option.{some, some-ne-none, some-injective}
use lib.ListN.{get_elem?}
use Rattle.atomic_table.proofs.Lists.{at_longer, at_map}
use Rattle.legal_history.proofs.Steps.{one_at}
use Rattle.cell_lanes.proofs.Lists.{below_some}

module _ {A : Type 0} where
  at_behind : (xs ys : List A) (k : ℕ) (a : A) → get_elem? ys k ≡ some a → get_elem? (xs ++ ys) (length xs + k) ≡ some a
  at_behind [] ys k a e = subst (λ n. get_elem? ys n ≡ some a) (omega arith) e
  at_behind (x ∷ xs) ys k a e = let more : suc (length xs + k) ≡ length (x ∷ xs) + k = omega arith in subst (λ n. get_elem? (x ∷ (xs ++ ys)) n ≡ some a) more (at_behind xs ys k a e)

  front_or_behind : (xs ys : List A) (i : ℕ) (a : A) → get_elem? (xs ++ ys) i ≡ some a → (get_elem? xs i ≡ some a) ⊎ ((k : ℕ) × (i ≡ length xs + k) × (get_elem? ys k ≡ some a))
  front_or_behind [] ys i a e = inr (i, omega arith, e)
  front_or_behind (x ∷ xs) ys zero a e = inl e
  front_or_behind (x ∷ xs) ys (suc i) a e = ⊎_elim
      (λ (front : get_elem? xs i ≡ some a). inl front)
      (λ (back : (k : ℕ) × (i ≡ length xs + k) × (get_elem? ys k ≡ some a)). inr (back.0, (let h = back.1 in omega (arith, h)), back.2))
      (front_or_behind xs ys i a e)

  set_front : (xs ys : List A) (i : ℕ) (a : A) → i < length xs → set (xs ++ ys) i a ≡ set xs i a ++ ys
  set_front [] ys i a h = absurd (omega (arith, h))
  set_front (x ∷ xs) ys zero a h = refl
  set_front (x ∷ xs) ys (suc i) a h = ap (λ l. x ∷ l) (set_front xs ys i a (omega (arith, h)))

  set_behind : (xs ys : List A) (k : ℕ) (a : A) → set (xs ++ ys) (length xs + k) a ≡ xs ++ set ys k a
  set_behind [] ys k a = ap (λ n. set ys n a) (omega arith)
  set_behind (x ∷ xs) ys k a =
      let more : length (x ∷ xs) + k ≡ suc (length xs + k) = omega arith in
      ap (λ n. set (x ∷ (xs ++ ys)) n a) more ∙ ap (λ l. x ∷ l) (set_behind xs ys k a)

pub image_at : {A T : Type 0} (f : A → T) (xs : List A) (i : ℕ) (t : T) → get_elem? (map f xs) i ≡ some t → (a : A) × (get_elem? xs i ≡ some a) × (f a ≡ t)
image_at f [] i t e = absurd (some-ne-none t (sym e))
image_at f (x ∷ xs) zero t e = (x, refl, some-injective (f x) t e)
image_at f (x ∷ xs) (suc i) t e = image_at f xs i t e

module _ {A B T : Type 0} (f : A → T) (g : B → T) (xs : List A) (ys : List B) where
  abbrev both : List T
  both = map f xs ++ map g ys

  pub many : length both ≡ length xs + length ys
  many = length-append (map f xs) (map g ys) ∙ (λ i. length-map xs f i + length-map ys g i)

  pub front_at : (i : ℕ) (a : A) → get_elem? xs i ≡ some a → get_elem? both i ≡ some (f a)
  front_at i a e = at_longer (map f xs) (map g ys) i (f a) (at_map f xs i a e)

  pub behind_at : (k : ℕ) (b : B) → get_elem? ys k ≡ some b → get_elem? both (length xs + k) ≡ some (g b)
  behind_at k b e = subst (λ n. get_elem? both (n + k) ≡ some (g b)) (length-map xs f) (at_behind (map f xs) (map g ys) k (g b) (at_map g ys k b e))

  -- what stands at an index
  abbrev pub IsFront : ℕ → T → Type 0
  IsFront i t = (a : A) × (get_elem? xs i ≡ some a) × (f a ≡ t)

  abbrev pub IsBehind : ℕ → T → Type 0
  IsBehind i t = (k : ℕ) × (i ≡ length xs + k) × ((b : B) × (get_elem? ys k ≡ some b) × (g b ≡ t))

  pub which_at : (i : ℕ) (t : T) → get_elem? both i ≡ some t → IsFront i t ⊎ IsBehind i t
  which_at i t e = ⊎_elim
      (λ (front : get_elem? (map f xs) i ≡ some t). inl (image_at f xs i t front))
      (λ (back : (k : ℕ) × (i ≡ length (map f xs) + k) × (get_elem? (map g ys) k ≡ some t)).
      inr (back.0, back.1 ∙ ap (λ n. n + back.0) (length-map xs f), image_at g ys back.0 t back.2))
      (front_or_behind (map f xs) (map g ys) i t e)

  -- what holds of each image at an index holds of what stands there
  pub front_all : (P : T → Type 0) (i : ℕ) → i < length xs → ((a : A) → get_elem? xs i ≡ some a → P (f a)) → (t : T) → get_elem? both i ≡ some t → P t
  front_all P i below all t e =
      let own = below_some xs i below in
      subst P (one_at both i (f own.0) t (front_at i own.0 own.1) e) (all own.0 own.1)

  pub behind_all : (P : T → Type 0) (k : ℕ) → k < length ys → ((b : B) → get_elem? ys k ≡ some b → P (g b)) → (t : T) → get_elem? both (length xs + k) ≡ some t → P t
  behind_all P k below all t e =
      let own = below_some ys k below in
      subst P (one_at both (length xs + k) (g own.0) t (behind_at k own.0 own.1) e) (all own.0 own.1)

  pub front_set : (i : ℕ) (a : A) → i < length xs → map f (set xs i a) ++ map g ys ≡ set both i (f a)
  front_set i a below =
      ap (λ l. l ++ map g ys) (map-set f xs i a) ∙ sym (set_front (map f xs) (map g ys) i (f a) (let e = length-map xs f in omega (arith, below, e)))

  pub behind_set : (k : ℕ) (b : B) → map f xs ++ map g (set ys k b) ≡ set both (length xs + k) (g b)
  behind_set k b =
      ap (λ l. map f xs ++ l) (map-set g ys k b) ∙ sym (set_behind (map f xs) (map g ys) k (g b)) ∙ ap (λ n. set both (n + k) (g b)) (length-map xs f)
