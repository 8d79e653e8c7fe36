-- The laws of keys and labels: what the tests of equality decide, that they are equivalences, and that equal keys hash alike.
use Rattle.std.proofs.Common.{◌≡◌, ℕ, ◌<◌, ◌^◌, ◌%◌, List, [], ◌∷◌, ◌++◌, refl, sym, ap, ◌∙◌, arith, ◌+◌, length, Bool, true, false, cond, ◌⊎◌, inl, inr, zero-add, add-zero, true≢false}
use Rattle.std.specs.Prelude.{nat_eq, ◌&&◌, bytes_eq, Decides}
use Rattle.std.specs.List.{list_all}
use Rattle.std.proofs.lemmas.Bool.{eq-eqb, eqb-true}
use Rattle.std.proofs.lemmas.Slice.Eq.{bytes_eq-Decides}
use Rattle.std.proofs.lemmas.List.Sums.{sum_by-cons, sum_by-append}
use Rattle.std.specs.Cmp.{IsEquivalence, IsTotalOrder, then_total, decided}
use Rattle.std.specs.Cmp.Lexicographic.{on_texts, pointwise, pointwise_decides}
use Rattle.std.specs.Cmp.Rules.{comparing}
use Rattle.std.specs.Ordering.{eq_by_cmp}
use Rattle.std.proofs.Common.{rules}
use Rattle.std.specs.Hash as fed
use Rattle.std.specs.Prelude.{IsTrue, sum_by, fold, ◌/◌, ◌*◌}
use Rattle.std.proofs.Math.Nat.{add-mul-mod_self_left, mod-add-div, mod-eq_of_lt}
use Rattle.std.proofs.lemmas.List.Folds.{list_all-append}
use Rattle.std.proofs.lemmas.Bool.Decides.{same_from_decides}
use Rattle.metrics_core.specs.Numbers.{in_64_bits}
use Rattle.metrics_core.specs.Hashes.{label_hash, key_hash, hash_bytes}
use Rattle.metrics_core.specs.Keys.{LabelText, KeyText, label_eq, label_cmp, occurrences, same_multiset, key_eq, SameKey}

pub both : (a b : Bool) → (a && b) ≡ true → (a ≡ true) × (b ≡ true)
both true b h = (refl, h)
both false b h = (h, absurd (true≢false (sym h)))

pub and : (a b : Bool) → a ≡ true → b ≡ true → (a && b) ≡ true
and a b ha hb = ap (λ x. x && b) ha ∙ hb

pub label_eq_is : (a b : LabelText) → Decides (label_eq a b) (a ≡ b)
label_eq_is a b = (
  λ h. same (both (bytes_eq a.key b.key) (bytes_eq a.value b.value) h),
  λ e. and (bytes_eq a.key b.key) (bytes_eq a.value b.value) ((bytes_eq-Decides a.key b.key).1 (ap (λ (l : LabelText). l.key) e)) ((bytes_eq-Decides a.value b.value).1 (ap (λ (l : LabelText). l.value) e)),
)
  where
    same : (bytes_eq a.key b.key ≡ true) × (bytes_eq a.value b.value ≡ true) → a ≡ b
    same (k, v) = λ i. record { key = (bytes_eq-Decides a.key b.key).0 k i; value = (bytes_eq-Decides a.value b.value).0 v i }

-- a label that stands in a list passes what each label there passes
found : (p : LabelText → Bool) (ls : List LabelText) (l : LabelText) → list_all p ls ≡ true → (occurrences ls l ≡ 0) ⊎ (p l ≡ true)
found p [] l h = inl refl
found p (m ∷ ms) l h = step (both (p m) (list_all p ms) h) (found p ms l)
  where
    step : (p m ≡ true) × (list_all p ms ≡ true) → (list_all p ms ≡ true → (occurrences ms l ≡ 0) ⊎ (p l ≡ true)) → (occurrences (m ∷ ms) l ≡ 0) ⊎ (p l ≡ true)
    step (here, there) behind =
        (elim (label_eq l m) as (λ b. label_eq l m ≡ b → (occurrences (m ∷ ms) l ≡ 0) ⊎ (p l ≡ true)) [
          | true ↦ λ e. inr (ap p ((label_eq_is l m).0 e) ∙ here)
          | false ↦ λ e. late e (behind there)
        ]) refl
      where
        late : label_eq l m ≡ false → (occurrences ms l ≡ 0) ⊎ (p l ≡ true) → (occurrences (m ∷ ms) l ≡ 0) ⊎ (p l ≡ true)
        late e (inl none) = inl (sum_by-cons (λ x. cond (label_eq l x) 1 0) m ms ∙ ap (λ b. cond b 1 0 + occurrences ms l) e ∙ zero-add (occurrences ms l) ∙ none)
        late e (inr passes) = inr passes

none_in_both : (xs ys : List LabelText) (l : LabelText) → occurrences (xs ++ ys) l ≡ 0 → occurrences xs l ≡ occurrences ys l
none_in_both xs ys l h = let e : occurrences xs l + occurrences ys l ≡ 0 = sym (sum_by-append (λ x. cond (label_eq l x) 1 0) xs ys) ∙ h in
    omega (arith, e)

to_counts : (xs ys : List LabelText) → same_multiset xs ys ≡ true → (l : LabelText) → occurrences xs l ≡ occurrences ys l
to_counts xs ys h l = by (found (λ m. nat_eq (occurrences xs m) (occurrences ys m)) (xs ++ ys) l h)
  where
    by : (occurrences (xs ++ ys) l ≡ 0) ⊎ (nat_eq (occurrences xs l) (occurrences ys l) ≡ true) → occurrences xs l ≡ occurrences ys l
    by (inl none) = none_in_both xs ys l none
    by (inr e) = eqb-true (occurrences xs l) (occurrences ys l) e

from_counts : (xs ys : List LabelText) → ((l : LabelText) → occurrences xs l ≡ occurrences ys l) → (zs : List LabelText) → list_all (λ l. nat_eq (occurrences xs l) (occurrences ys l)) zs ≡ true
from_counts xs ys h [] = refl
from_counts xs ys h (z ∷ zs) = and (nat_eq (occurrences xs z) (occurrences ys z)) (list_all (λ l. nat_eq (occurrences xs l) (occurrences ys l)) zs) (eq-eqb (occurrences xs z) (occurrences ys z) (h z)) (from_counts xs ys h zs)

pub key_eq_is : (a b : KeyText) → Decides (key_eq a b) (SameKey a b)
key_eq_is a b = (
  λ h. split (both (bytes_eq a.name b.name) (same_multiset a.labels b.labels) h),
  λ (name, labels). and (bytes_eq a.name b.name) (same_multiset a.labels b.labels) ((bytes_eq-Decides a.name b.name).1 name) (from_counts a.labels b.labels labels (a.labels ++ b.labels)),
)
  where
    split : (bytes_eq a.name b.name ≡ true) × (same_multiset a.labels b.labels ≡ true) → SameKey a b
    split (name, labels) = ((bytes_eq-Decides a.name b.name).0 name, to_counts a.labels b.labels labels)

pub list_all_append : {X : Type 0} (p : X → Bool) (xs ys : List X) → list_all p (xs ++ ys) ≡ (list_all p xs && list_all p ys)
list_all_append = list_all-append

pub label_eq_laws : IsEquivalence label_eq
label_eq_laws = decided label_eq label_eq_is

-- the order of labels, and that it ties exactly what is equal
pub label_cmp_total : IsTotalOrder label_cmp
label_cmp_total = then_total (on_texts (λ (l : LabelText). l.key)) (on_texts (λ (l : LabelText). l.value))

pub label_cmp_ties : (a b : LabelText) → label_eq a b ≡ eq_by_cmp label_cmp a b
label_cmp_ties = search (comparing, rules)

pub key_eq_laws : IsEquivalence key_eq
key_eq_laws = record {
  refl = λ k. (key_eq_is k k).1 (refl, λ l. refl);
  symm = λ a b. same_from_decides (key_eq a b) (key_eq b a) (key_eq_is a b) (turned a b);
  congr = λ a b c e. along a b c ((key_eq_is a b).0 e);
}
  where
    turn : (a b : KeyText) → SameKey a b → SameKey b a
    turn a b (name, labels) = (sym name, λ l. sym (labels l))

    turned : (a b : KeyText) → Decides (key_eq b a) (SameKey a b)
    turned a b = (λ h. turn b a ((key_eq_is b a).0 h), λ h. (key_eq_is b a).1 (turn a b h))

    chain : (a b c : KeyText) → SameKey a b → SameKey b c → SameKey a c
    chain a b c (name, labels) (name', labels') = (name ∙ name', λ l. labels l ∙ labels' l)

    along : (a b c : KeyText) → SameKey a b → key_eq a c ≡ key_eq b c
    along a b c same =
        same_from_decides {P = SameKey b c} (key_eq a c) (key_eq b c) (
          λ h. chain b a c (turn a b same) ((key_eq_is a c).0 h),
          λ h. (key_eq_is a c).1 (chain a b c same h),
        ) (key_eq_is b c)

pub label_hash_input_respects : (x y : LabelText) → IsTrue (label_eq x y) → (fed.str x.key ++ fed.str x.value) ≡ (fed.str y.key ++ fed.str y.value)
label_hash_input_respects x y h = ap (λ (l : LabelText). fed.str l.key ++ fed.str l.value) ((label_eq_is x y).0 h)

-- the hash

-- a label counts once more in front of a list where it is the first
occurrences_cons : (l m : LabelText) (ms : List LabelText) → occurrences (m ∷ ms) l ≡ cond (label_eq l m) 1 0 + occurrences ms l
occurrences_cons l m ms = sum_by-cons (λ x. cond (label_eq l x) 1 0) m ms

itself : (l : LabelText) → label_eq l l ≡ true
itself l = (label_eq_is l l).1 refl

-- a list without the first place of a label
without : LabelText → List LabelText → List LabelText
without l [] = []
without l (m ∷ ms) = cond (label_eq l m) ms (m ∷ without l ms)

-- a sum over a list that has a label is that label's part and the sum over the rest
taken : (f : LabelText → ℕ) (l : LabelText) (ys : List LabelText) → 0 < occurrences ys l → sum_by f ys ≡ f l + sum_by f (without l ys)
unfolding without
taken f l [] h = absurd (omega (arith, h))
taken f l (m ∷ ms) h =
    (elim (label_eq l m) as (λ b. label_eq l m ≡ b → sum_by f (m ∷ ms) ≡ f l + sum_by f (cond b ms (m ∷ without l ms))) [
      | true ↦ λ e. sum_by-cons f m ms ∙ ap (λ x. f x + sum_by f ms) (sym ((label_eq_is l m).0 e))
      | false ↦ λ e. later e (taken f l ms)
    ]) refl
  where
    later : label_eq l m ≡ false → (0 < occurrences ms l → sum_by f ms ≡ f l + sum_by f (without l ms)) → sum_by f (m ∷ ms) ≡ f l + sum_by f (m ∷ without l ms)
    later e behind_it =
        let behind : occurrences (m ∷ ms) l ≡ occurrences ms l = occurrences_cons l m ms ∙ ap (λ b. cond b 1 0 + occurrences ms l) e ∙ zero-add (occurrences ms l) in
        let there : 0 < occurrences ms l = omega (arith, h, behind) in
        let rest : sum_by f ms ≡ f l + sum_by f (without l ms) = behind_it there in
        omega (arith, rest, sum_by-cons f m ms, sum_by-cons f m (without l ms))

-- lists with the same labels have the same sums
same_sums : (f : LabelText → ℕ) (xs ys : List LabelText) → ((l : LabelText) → occurrences xs l ≡ occurrences ys l) → sum_by f xs ≡ sum_by f ys
same_sums f [] [] h = refl
same_sums f [] (y ∷ ys) h =
    let some : occurrences (y ∷ ys) y ≡ 1 + occurrences ys y = occurrences_cons y y ys ∙ ap (λ b. cond b 1 0 + occurrences ys y) (itself y) in
    let none : 0 ≡ occurrences (y ∷ ys) y = h y in
    absurd (omega (arith, some, none))
same_sums f (x ∷ xs) ys h =
    let some : occurrences (x ∷ xs) x ≡ 1 + occurrences xs x = occurrences_cons x x xs ∙ ap (λ b. cond b 1 0 + occurrences xs x) (itself x) in
    let there : 0 < occurrences ys x = omega (arith, some, h x) in
    let rest : sum_by f xs ≡ sum_by f (without x ys) = same_sums f xs (without x ys) (λ l. fewer l there) in
    omega (arith, rest, sum_by-cons f x xs, taken f x ys there)
  where
    fewer : (l : LabelText) → 0 < occurrences ys x → occurrences xs l ≡ occurrences (without x ys) l
    fewer l there =
        let front : occurrences (x ∷ xs) l ≡ cond (label_eq l x) 1 0 + occurrences xs l = occurrences_cons l x xs in
        let back : occurrences ys l ≡ cond (label_eq l x) 1 0 + occurrences (without x ys) l = taken (λ m. cond (label_eq l m) 1 0) x ys there in
        omega (arith, front, back, h l)

pub key_hash_respects : (x y : KeyText) → IsTrue (key_eq x y) → fed.u64 (key_hash x) ≡ fed.u64 (key_hash y)
key_hash_respects x y h = by ((key_eq_is x y).0 h)
  where
    by : SameKey x y → fed.u64 (key_hash x) ≡ fed.u64 (key_hash y)
    by (name, labels) = ap fed.u64 (λ i. in_64_bits (hash_bytes 0 (name i) + same_sums label_hash x.labels y.labels labels i))

-- a remainder of a sum may be taken early
early : (m k : ℕ) → (m % 2 ^ 64 + k) % 2 ^ 64 ≡ (m + k) % 2 ^ 64
early m k =
    sym (add-mul-mod_self_left (m % 2 ^ 64 + k) (2 ^ 64) (m / 2 ^ 64)) ∙ ap (λ n. n % 2 ^ 64) shift
  where
    shift : (m % 2 ^ 64 + k) + 2 ^ 64 * (m / 2 ^ 64) ≡ m + k
    shift = omega (arith, mod-add-div m (2 ^ 64))

-- a sum that wraps at each step is the sum, wrapped
pub wrapping_sum : {X : Type 0} (f : X → ℕ) (start : ℕ) (xs : List X) → start < 2 ^ 64 → fold (λ total x. in_64_bits (total + f x)) start xs ≡ in_64_bits (start + sum_by f xs)
wrapping_sum f start [] small = sym (ap in_64_bits (add-zero start) ∙ mod-eq_of_lt small)
wrapping_sum f start (x ∷ xs) small =
    let below : in_64_bits (start + f x) < 2 ^ 64 = omega arith in
    let sum : start + f x + sum_by f xs ≡ start + sum_by f (x ∷ xs) = omega (arith, sum_by-cons f x xs) in
    wrapping_sum f (in_64_bits (start + f x)) xs below ∙ early (start + f x) (sum_by f xs) ∙ ap in_64_bits sum

-- quick answers to whether two lists have the same labels

-- lists with the same labels in the same order do
pub same_multiset-pointwise : (xs ys : List LabelText) → pointwise label_eq xs ys ≡ true → same_multiset xs ys ≡ true
same_multiset-pointwise xs ys h =
    from_counts xs ys (λ l. ap (λ zs. occurrences zs l) ((pointwise_decides label_eq_is xs ys).0 h)) (xs ++ ys)

ones : (xs : List LabelText) → sum_by (λ _. 1) xs ≡ length xs
ones [] = refl
ones (x ∷ xs) = omega (arith, sum_by-cons (λ _. 1) x xs, ones xs)

-- lists with the same labels have as many, and the same sum of hashes
pub length-same_multiset : (xs ys : List LabelText) → same_multiset xs ys ≡ true → length xs ≡ length ys
length-same_multiset xs ys h = sym (ones xs) ∙ same_sums (λ _. 1) xs ys (to_counts xs ys h) ∙ ones ys

pub hashes-same_multiset : (xs ys : List LabelText) → same_multiset xs ys ≡ true → in_64_bits (0 + sum_by label_hash xs) ≡ in_64_bits (0 + sum_by label_hash ys)
hashes-same_multiset xs ys h = ap (λ n. in_64_bits (0 + n)) (same_sums label_hash xs ys (to_counts xs ys h))
