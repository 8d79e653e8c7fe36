-- The first place at which a test passes, and lists that change there.
use Rattle.std.proofs.Common.{◌≡◌, ℕ, suc, ◌<◌, Bool, true, false, List, [], ◌∷◌, ◌++◌, length, set, refl, ap, subst, arith}
use Rattle.std.specs.Prelude.{Option, Some, None, option_map, slice_get, ◌||◌, if◌then◌else◌}
use Rattle.std.specs.List.{list_any}
use Rattle.std.proofs.lemmas.Bool.{true≢false}
use Rattle.page_relay.specs.Gathering.{first_place}

-- the first item that passes, changed
abbrev pub changed_first : {X : Type 0} → (X → Bool) → (X → X) → List X → List X
changed_first test change [] = []
changed_first test change (x ∷ xs) = if test x then change x ∷ xs else x ∷ changed_first test change xs

none_first_step : {X : Type 0} (test : X → Bool) (x : X) (xs : List X) (b : Bool) → test x ≡ b → (b || list_any test xs) ≡ false → (list_any test xs ≡ false → first_place test xs ≡ None) → first_place test (x ∷ xs) ≡ None
none_first_step test x xs true p h rest = absurd (true≢false h)
none_first_step test x xs false p h rest = rw p (ap (option_map suc) (rest h))

pub none_first : {X : Type 0} (test : X → Bool) (xs : List X) → list_any test xs ≡ false → first_place test xs ≡ None
none_first test [] e = refl
none_first test (x ∷ xs) e = none_first_step test x xs (test x) refl e (none_first test xs)

any_by : {X : Type 0} (test : X → Bool) (xs : List X) (i : ℕ) (b : Bool) → first_place test xs ≡ Some i → list_any test xs ≡ b → b ≡ true
any_by test xs i true e p = refl
any_by test xs i false e p = let none = none_first test xs p in absurd (cc)

pub any_from_first : {X : Type 0} (test : X → Bool) (xs : List X) (i : ℕ) → first_place test xs ≡ Some i → list_any test xs ≡ true
any_from_first test xs i e = any_by test xs i (list_any test xs) e refl

was_none : (o : Option ℕ) → option_map suc o ≡ None → o ≡ None
was_none None h = refl
was_none (Some i) h = absurd (cc)

none_from_step : {X : Type 0} (test : X → Bool) (x : X) (xs : List X) (b : Bool) → test x ≡ b → first_place test (x ∷ xs) ≡ None → (first_place test xs ≡ None → list_any test xs ≡ false) → list_any test (x ∷ xs) ≡ false
none_from_step test x xs true p e rest = let some = rw p at e in absurd (cc)
none_from_step test x xs false p e rest = rw p (rest (was_none (first_place test xs) (rw p at e)))

pub none_from_first : {X : Type 0} (test : X → Bool) (xs : List X) → first_place test xs ≡ None → list_any test xs ≡ false
none_from_first test [] e = refl
none_from_first test (x ∷ xs) e = none_from_step test x xs (test x) refl e (none_from_first test xs)

-- one more item that doesn't pass
pub first_push_other : {X : Type 0} (test : X → Bool) (xs : List X) (x : X) → test x ≡ false → first_place test (xs ++ x ∷ []) ≡ first_place test xs
first_push_other test [] x e = rw e refl
first_push_other test (y ∷ xs) x e = ap (λ o. if test y then Some 0 else option_map suc o) (first_push_other test xs x e)

-- one more item that is the first to pass
first_push_step : {X : Type 0} (test : X → Bool) (y : X) (xs ys : List X) (b : Bool) → test y ≡ b → (b || list_any test xs) ≡ false → (list_any test xs ≡ false → first_place test ys ≡ Some (length xs)) → first_place test (y ∷ ys) ≡ Some (suc (length xs))
first_push_step test y xs ys true p h rest = absurd (true≢false h)
first_push_step test y xs ys false p h rest = rw p (ap (option_map suc) (rest h))

pub first_push_new : {X : Type 0} (test : X → Bool) (xs : List X) (x : X) → list_any test xs ≡ false → test x ≡ true → first_place test (xs ++ x ∷ []) ≡ Some (length xs)
first_push_new test [] x none e = rw e refl
first_push_new test (y ∷ xs) x none e = first_push_step test y xs (xs ++ x ∷ []) (test y) refl none (λ h. first_push_new test xs x h e)

-- tests that pass at the same items
pub first_same : {X : Type 0} (p q : X → Bool) (xs : List X) → ((x : X) → p x ≡ q x) → first_place p xs ≡ first_place q xs
first_same p q [] e = refl
first_same p q (x ∷ xs) e = λ j. if e x j then Some 0 else option_map suc (first_same p q xs e j)

-- a change that the test doesn't see
first_changed_step : {X : Type 0} (p q : X → Bool) (change : X → X) (x : X) (xs : List X) (b : Bool) → p x ≡ b → q (change x) ≡ q x → first_place q (changed_first p change xs) ≡ first_place q xs
    → first_place q (changed_first p change (x ∷ xs)) ≡ first_place q (x ∷ xs)
first_changed_step p q change x xs true h e rest = rw h (ap (λ b. if b then Some 0 else option_map suc (first_place q xs)) e)
first_changed_step p q change x xs false h e rest = rw h (ap (λ o. if q x then Some 0 else option_map suc o) rest)

pub first_changed : {X : Type 0} (p q : X → Bool) (change : X → X) (xs : List X) → ((x : X) → q (change x) ≡ q x) → first_place q (changed_first p change xs) ≡ first_place q xs
first_changed p q change [] e = refl
first_changed p q change (x ∷ xs) e = first_changed_step p q change x xs (p x) refl (e x) (first_changed p q change xs e)

-- nothing passes, so nothing changes
changed_none_step : {X : Type 0} (p : X → Bool) (change : X → X) (x : X) (xs : List X) (b : Bool) → p x ≡ b → (b || list_any p xs) ≡ false → (list_any p xs ≡ false → changed_first p change xs ≡ xs) → changed_first p change (x ∷ xs) ≡ x ∷ xs
changed_none_step p change x xs true q h rest = absurd (true≢false h)
changed_none_step p change x xs false q h rest = rw q (ap (λ l. x ∷ l) (rest h))

pub changed_none : {X : Type 0} (p : X → Bool) (change : X → X) (xs : List X) → list_any p xs ≡ false → changed_first p change xs ≡ xs
changed_none p change [] e = refl
changed_none p change (x ∷ xs) e = changed_none_step p change x xs (p x) refl e (changed_none p change xs)

-- the item at the first place passes, and the change is a write there
pub record IsFirst {X : Type 0} (test : X → Bool) (xs : List X) (i : ℕ) : Type 0 where
  pub item : X
  pub at : slice_get xs i ≡ Some item
  pub passes : test item ≡ true
  pub within : i < length xs
  pub written : (change : X → X) → changed_first test change xs ≡ set xs i (change item)

later_first : {X : Type 0} (test : X → Bool) (x : X) (xs : List X) (i : ℕ) (o : Option ℕ) → first_place test xs ≡ o → test x ≡ false → option_map suc o ≡ Some i → ((k : ℕ) → first_place test xs ≡ Some k → IsFirst test xs k) → IsFirst test (x ∷ xs) i
later_first test x xs i None h p q rest = absurd (cc)
later_first test x xs i (Some k) h p q rest =
    let there = rest k h in
    let same : suc k ≡ i = cc in
    subst (IsFirst test (x ∷ xs)) same (record {
      item = there.item;
      at = there.at;
      passes = there.passes;
      within = omega (arith, there.within);
      written = λ change. rw p (ap (λ l. x ∷ l) (there.written change));
    })

first_at : {X : Type 0} (test : X → Bool) (x : X) (xs : List X) (i : ℕ) (b : Bool) → test x ≡ b → first_place test (x ∷ xs) ≡ Some i → ((k : ℕ) → first_place test xs ≡ Some k → IsFirst test xs k) → IsFirst test (x ∷ xs) i
first_at test x xs i true p e rest =
    let found = rw p at e in
    let same : 0 ≡ i = cc in
    subst (IsFirst test (x ∷ xs)) same (record { item = x; at = refl; passes = p; within = omega arith; written = λ change. rw p refl })
first_at test x xs i false p e rest = later_first test x xs i (first_place test xs) refl p (rw p at e) rest

pub is_first : {X : Type 0} (test : X → Bool) (xs : List X) (i : ℕ) → first_place test xs ≡ Some i → IsFirst test xs i
is_first test [] i e = absurd (cc)
is_first test (x ∷ xs) i e = first_at test x xs i (test x) refl e (is_first test xs)
