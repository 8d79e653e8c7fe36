-- How the counts of a long bag change, value by value.
use Rattle.std.proofs.Common.{◌≡◌, ℕ, ◌+◌, ◌-◌, ◌<◌, ◌≤◌, Bool, true, false, nat_lt, cond, List, [], ◌∷◌, ◌++◌, zero, suc, length, map, take, get_or, fold, filter, count_by, slice_get, sum, is_some, lt-ltb, le-ltb, ◌||◌, ◌↔◌, IsTrue, IsNone, IfSome, Contains, Bor, option_map, replicate, Option, Some, None, refl, sym, ap, ◌∙◌, subst, true≢false, arith}
use Rattle.std.proofs.lemmas.List.{take_more, map-append}
use Rattle.std.proofs.lemmas.List.Sums.{sum_by-cons}
use Rattle.std.proofs.lemmas.List.Elements.{All-nil, All-cons, All-head, All-tail, Contains-append_left}
use Rattle.std.proofs.lemmas.List.Sorted.{All-permutation, sum_by-IsPermutation}
use Rattle.std.proofs.lemmas.Bool.{ltb-true, ltb-false}
use Rattle.std.proofs.lemmas.Map.Keys.{IsDistinct-tail, IsDistinct-head, IsDistinct-cons}
use Rattle.std.specs.List.{list_any, IsDistinct, All, AllByRecursion}
use Rattle.std.specs.Map.{lookup, keys_of, values_of}
use Rattle.std.specs.Option.{option_map_or, option_copied}
use Rattle.std.specs.Cmp.{IsEquivalence}
use Rattle.indexmap.specs.IndexMap.{swap_remove_entry}
use Rattle.value_bags.specs.Entries.{alter, with_keys}
use Rattle.value_bags.proofs.Removed.{goes}
use Rattle.value_bags.specs.Bags.{total, repeated, count_up, count_down, counted, counted_times, IsProper}

pub fold-append : {A B : Type 0} (f : A → B → A) (a : A) (xs ys : List B) → fold f a (xs ++ ys) ≡ fold f (fold f a xs) ys
fold-append f a [] ys = refl
fold-append f a (x ∷ xs) ys = fold-append f (f a x) xs ys

module _ {V : Type 0} where
  pub total-cons : (c : V × ℕ) (counts : List (V × ℕ)) → total (c ∷ counts) ≡ c.1 + total counts
  total-cons c counts = sum_by-cons (λ (x : V × ℕ). x.1) c counts

  IsPositive : V × ℕ → Type 0
  IsPositive c = 0 < c.1

  pub lookup-le-total : (test : V → Bool) (counts : List (V × ℕ)) (n : ℕ) → lookup test counts ≡ Some n → n ≤ total counts
  lookup-le-total test [] n is = absurd (let h : None ≡ Some n = is in cc)
  lookup-le-total test (c ∷ counts) n is = by (test c.0) refl (lookup-le-total test counts n)
    where
      by : (b : Bool) → test c.0 ≡ b → (lookup test counts ≡ Some n → n ≤ total counts) → n ≤ total (c ∷ counts)
      by true t _ =
          let h : Some c.1 ≡ Some n = sym (ap (λ b. cond b (Some c.1) (lookup test counts)) t) ∙ is in
          let here : c.1 ≡ n = cc in
          let sums = total-cons c counts in
          omega arith
      by false t more =
          let rest = more (sym (ap (λ b. cond b (Some c.1) (lookup test counts)) t) ∙ is) in
          let sums = total-cons c counts in
          omega arith

module _ {V : Type 0} (eq : V → V → Bool) where
  pub times-cons : (c : V × ℕ) (counts : List (V × ℕ)) (w : V) → counted_times eq (c ∷ counts) w ≡ cond (eq w c.0) c.1 0 + counted_times eq counts w
  times-cons c counts w = sum_by-cons (λ (x : V × ℕ). cond (eq w x.0) x.1 0) c counts

  pub total-count_up : (counts : List (V × ℕ)) (v : V) → total (count_up eq counts v) ≡ total counts + 1
  total-count_up [] v = refl
  total-count_up (c ∷ counts) v = by (eq v c.0) refl (total-count_up counts v)
    where
      by : (b : Bool) → eq v c.0 ≡ b → total (count_up eq counts v) ≡ total counts + 1 → total (count_up eq (c ∷ counts) v) ≡ total (c ∷ counts) + 1
      by true t _ =
          let here = ap (λ b. total (cond b ((c.0, c.1 + 1) ∷ counts) (c ∷ count_up eq counts v))) t in
          let one = total-cons (c.0, c.1 + 1) counts in
          let two = total-cons c counts in
          here ∙ one ∙ omega arith
      by false t h =
          let here = ap (λ b. total (cond b ((c.0, c.1 + 1) ∷ counts) (c ∷ count_up eq counts v))) t in
          let one = total-cons c (count_up eq counts v) in
          let two = total-cons c counts in
          here ∙ one ∙ omega arith

  pub positive-count_up : (counts : List (V × ℕ)) (v : V) → All (λ c. 0 < c.1) counts → All (λ c. 0 < c.1) (count_up eq counts v)
  positive-count_up [] v all = All-cons (λ (c : V × ℕ). 0 < c.1) (v, 1) [] (omega arith) (All-nil (λ (c : V × ℕ). 0 < c.1))
  positive-count_up (c ∷ counts) v all = by (eq v c.0) refl (positive-count_up counts v)
    where
      P : V × ℕ → Type 0
      P x = 0 < x.1

      by : (b : Bool) → eq v c.0 ≡ b → (All (λ x. 0 < x.1) counts → All (λ x. 0 < x.1) (count_up eq counts v)) → All (λ x. 0 < x.1) (count_up eq (c ∷ counts) v)
      by true t _ =
          subst (λ b. All (λ (x : V × ℕ). 0 < x.1) (cond b ((c.0, c.1 + 1) ∷ counts) (c ∷ count_up eq counts v))) (sym t)
          (All-cons (λ (x : V × ℕ). 0 < x.1) (c.0, c.1 + 1) counts (omega arith) (All-tail (λ (x : V × ℕ). 0 < x.1) c counts all))
      by false t more =
          subst (λ b. All (λ (x : V × ℕ). 0 < x.1) (cond b ((c.0, c.1 + 1) ∷ counts) (c ∷ count_up eq counts v))) (sym t)
          (All-cons (λ (x : V × ℕ). 0 < x.1) c (count_up eq counts v) (All-head (λ (x : V × ℕ). 0 < x.1) c counts all) (more (All-tail (λ (x : V × ℕ). 0 < x.1) c counts all)))

module _ {V : Type 0} (eq : V → V → Bool) (laws : IsEquivalence eq) where
  alike : (v k w : V) → eq v k ≡ true → eq w v ≡ eq w k
  alike v k w t = laws.symm w v ∙ laws.congr v k w t ∙ laws.symm k w

  raised : (b : Bool) (n s : ℕ) → cond b (n + 1) 0 + s ≡ cond b n 0 + s + cond b 1 0
  raised true n s = omega arith
  raised false n s = omega arith

  -- one more of a value
  pub times-count_up : (counts : List (V × ℕ)) (v w : V) → counted_times eq (count_up eq counts v) w ≡ counted_times eq counts w + cond (eq w v) 1 0
  times-count_up [] v w = refl
  times-count_up (c ∷ counts) v w = by (eq v c.0) refl (times-count_up counts v w)
    where
      by : (b : Bool) → eq v c.0 ≡ b → counted_times eq (count_up eq counts v) w ≡ counted_times eq counts w + cond (eq w v) 1 0
          → counted_times eq (count_up eq (c ∷ counts) v) w ≡ counted_times eq (c ∷ counts) w + cond (eq w v) 1 0
      by true t _ =
          ap (λ b. counted_times eq (cond b ((c.0, c.1 + 1) ∷ counts) (c ∷ count_up eq counts v)) w) t ∙ times-cons eq (c.0, c.1 + 1) counts w ∙ raised (eq w c.0) c.1 (counted_times eq counts w)
          ∙ ap (λ b. cond (eq w c.0) c.1 0 + counted_times eq counts w + cond b 1 0) (sym (alike v c.0 w t)) ∙ ap (λ n. n + cond (eq w v) 1 0) (sym (times-cons eq c counts w))
      by false t h =
          let two = times-cons eq c counts w in
          ap (λ b. counted_times eq (cond b ((c.0, c.1 + 1) ∷ counts) (c ∷ count_up eq counts v)) w) t ∙ times-cons eq c (count_up eq counts v) w ∙ omega arith

  -- no key from here on is equal to v
  apart-count_up : (k : V) (counts : List (V × ℕ)) (v : V) → eq k v ≡ false → AllByRecursion (λ y. eq k y ≡ false) (keys_of counts) → AllByRecursion (λ y. eq k y ≡ false) (keys_of (count_up eq counts v))
  apart-count_up k [] v e h = (e, tt)
  apart-count_up k (c ∷ counts) v e h = by (eq v c.0) refl (apart-count_up k counts v e h.1)
    where
      by : (b : Bool) → eq v c.0 ≡ b → AllByRecursion (λ y. eq k y ≡ false) (keys_of (count_up eq counts v)) → AllByRecursion (λ y. eq k y ≡ false) (keys_of (count_up eq (c ∷ counts) v))
      by true t _ = subst (λ b. AllByRecursion (λ y. eq k y ≡ false) (keys_of (cond b ((c.0, c.1 + 1) ∷ counts) (c ∷ count_up eq counts v)))) (sym t) (h.0, h.1)
      by false t more = subst (λ b. AllByRecursion (λ y. eq k y ≡ false) (keys_of (cond b ((c.0, c.1 + 1) ∷ counts) (c ∷ count_up eq counts v)))) (sym t) (h.0, more)

  pub distinct-count_up : (counts : List (V × ℕ)) (v : V) → IsDistinct eq (keys_of counts) → IsDistinct eq (keys_of (count_up eq counts v))
  distinct-count_up [] v d = IsDistinct-cons eq v [] tt d
  distinct-count_up (c ∷ counts) v d = by (eq v c.0) refl (distinct-count_up counts v (IsDistinct-tail eq c.0 (keys_of counts) d))
    where
      by : (b : Bool) → eq v c.0 ≡ b → IsDistinct eq (keys_of (count_up eq counts v)) → IsDistinct eq (keys_of (count_up eq (c ∷ counts) v))
      by true t _ = subst (λ b. IsDistinct eq (keys_of (cond b ((c.0, c.1 + 1) ∷ counts) (c ∷ count_up eq counts v)))) (sym t) d
      by false t more =
          subst (λ b. IsDistinct eq (keys_of (cond b ((c.0, c.1 + 1) ∷ counts) (c ∷ count_up eq counts v)))) (sym t)
          (IsDistinct-cons eq c.0 (keys_of (count_up eq counts v)) (apart-count_up c.0 counts v (laws.symm c.0 v ∙ t) (IsDistinct-head eq c.0 (keys_of counts) d)) more)

  pub proper-count_up : (counts : List (V × ℕ)) (v : V) → IsProper eq counts → IsProper eq (count_up eq counts v)
  proper-count_up counts v h = (positive-count_up eq counts v h.0, distinct-count_up counts v h.1)

  -- counting a list
  counted-from : (vs : List V) (counts : List (V × ℕ)) (w : V) → counted_times eq (fold (count_up eq) counts vs) w ≡ counted_times eq counts w + count_by (eq w) vs
  counted-from [] counts w = omega arith
  counted-from (v ∷ vs) counts w =
      let one = counted-from vs (count_up eq counts v) w in
      let two = times-count_up counts v w in
      let three = sum_by-cons (λ (x : V). cond (eq w x) 1 0) v vs in
      omega arith

  pub times-counted : (vs : List V) (w : V) → counted_times eq (counted eq vs) w ≡ count_by (eq w) vs
  times-counted vs w = counted-from vs [] w ∙ omega arith

  proper-from : (vs : List V) (counts : List (V × ℕ)) → IsProper eq counts → IsProper eq (fold (count_up eq) counts vs)
  proper-from [] counts h = h
  proper-from (v ∷ vs) counts h = proper-from vs (count_up eq counts v) (proper-count_up counts v h)

  pub proper-nil : IsProper eq []
  unfolding IsDistinct
  proper-nil = (All-nil (λ (c : V × ℕ). 0 < c.1), tt)

  pub proper-counted : (vs : List V) → IsProper eq (counted eq vs)
  proper-counted vs = proper-from vs [] proper-nil

module _ {V : Type 0} (eq : V → V → Bool) where
  total-from : (vs : List V) (counts : List (V × ℕ)) → total (fold (count_up eq) counts vs) ≡ total counts + length vs
  total-from [] counts = omega arith
  total-from (v ∷ vs) counts =
      let one = total-from vs (count_up eq counts v) in
      let two = total-count_up eq counts v in
      omega arith

  pub total-counted : (vs : List V) → total (counted eq vs) ≡ length vs
  total-counted vs = total-from vs [] ∙ omega arith

  -- one more value is counted
  pub counted-more : {A : Type 0} (f : A → V) (xs : List A) (i : ℕ) (x : A) → i < length xs → x ≡ get_or xs i x → counted eq (map f (take (i + 1) xs)) ≡ count_up eq (counted eq (map f (take i xs))) (f x)
  counted-more f xs i x h e =
      ap (λ l. counted eq (map f l)) (take_more xs i x h ∙ ap (λ y. take i xs ++ y ∷ []) (sym e))
      ∙ ap (counted eq) (map-append f (take i xs) (x ∷ []))
      ∙ fold-append (count_up eq) [] (map f (take i xs)) (f x ∷ [])

-- keys that differ are seen as values that differ
pub distinct-with_keys : {A V B : Type 0} (eq : V → V → Bool) (f : A → V) (es : List (A × B)) → IsDistinct (λ a b. eq (f a) (f b)) (keys_of es) → IsDistinct eq (keys_of (with_keys f es))
unfolding IsDistinct
distinct-with_keys eq f [] d = tt
distinct-with_keys {A} {V} {B} eq f (e ∷ es) d = (later es d.0, distinct-with_keys eq f es d.1)
  where
    later : (xs : List (A × B)) → AllByRecursion (λ y. eq (f e.0) (f y) ≡ false) (keys_of xs) → AllByRecursion (λ y. eq (f e.0) y ≡ false) (keys_of (with_keys f xs))
    later [] h = tt
    later (x ∷ xs) h = (h.0, later xs h.1)

pub total-with_keys : {A V : Type 0} (f : A → V) (es : List (A × ℕ)) → total (with_keys f es) ≡ sum (values_of es)
total-with_keys f [] = refl
total-with_keys f (e ∷ es) = total-cons (f e.0, e.1) (with_keys f es) ∙ ap (λ n. e.1 + n) (total-with_keys f es) ∙ sym (sum_by-cons (λ (n : ℕ). n) e.1 (values_of es))

pub keys-with_keys : {A V B : Type 0} (f : A → V) (es : List (A × B)) → keys_of (with_keys f es) ≡ map f (keys_of es)
keys-with_keys f [] = refl
keys-with_keys f (e ∷ es) = ap (λ l. f e.0 ∷ l) (keys-with_keys f es)

pub filter-with_keys : {A V B : Type 0} (f : A → V) (keeps : V → Bool) (es : List (A × B)) → with_keys f (filter (λ e. keeps (f e.0)) es) ≡ filter (λ c. keeps c.0) (with_keys f es)
filter-with_keys f keeps [] = refl
filter-with_keys {A} {V} {B} f keeps (e ∷ es) = by (keeps (f e.0)) refl (filter-with_keys f keeps es)
  where
    by : (b : Bool) → keeps (f e.0) ≡ b → with_keys f (filter (λ x. keeps (f x.0)) es) ≡ filter (λ c. keeps c.0) (with_keys f es) → with_keys f (filter (λ x. keeps (f x.0)) (e ∷ es)) ≡ filter (λ c. keeps c.0) (with_keys f (e ∷ es))
    by true t more =
        ap (λ b. with_keys f (cond b (e ∷ filter (λ x. keeps (f x.0)) es) (filter (λ x. keeps (f x.0)) es))) t ∙ ap (λ l. (f e.0, e.1) ∷ l) more
        ∙ ap (λ b. cond b ((f e.0, e.1) ∷ filter (λ c. keeps c.0) (with_keys f es)) (filter (λ c. keeps c.0) (with_keys f es))) (sym t)
    by false t more =
        ap (λ b. with_keys f (cond b (e ∷ filter (λ x. keeps (f x.0)) es) (filter (λ x. keeps (f x.0)) es))) t ∙ more
        ∙ ap (λ b. cond b ((f e.0, e.1) ∷ filter (λ c. keeps c.0) (with_keys f es)) (filter (λ c. keeps c.0) (with_keys f es))) (sym t)

pub total-filter : {V : Type 0} (keeps : V → Bool) (counts : List (V × ℕ)) → total (filter (λ c. keeps c.0) counts) ≤ total counts
total-filter keeps [] = omega arith
total-filter {V} keeps (c ∷ counts) = by (keeps c.0) refl (total-filter keeps counts)
  where
    by : (b : Bool) → keeps c.0 ≡ b → total (filter (λ x. keeps x.0) counts) ≤ total counts → total (filter (λ x. keeps x.0) (c ∷ counts)) ≤ total (c ∷ counts)
    by true t h =
        let here = ap (λ b. total (cond b (c ∷ filter (λ x. keeps x.0) counts) (filter (λ x. keeps x.0) counts))) t in
        let one = total-cons c (filter (λ x. keeps x.0) counts) in
        let two = total-cons c counts in
        omega arith
    by false t h =
        let here = ap (λ b. total (cond b (c ∷ filter (λ x. keeps x.0) counts) (filter (λ x. keeps x.0) counts))) t in
        let two = total-cons c counts in
        omega arith

-- the cases of one value less
module _ {V : Type 0} (eq : V → V → Bool) where
  down : List (V × ℕ) → V → ℕ → List (V × ℕ)
  down counts v n = cond (nat_lt 1 n) (alter (eq v) (λ m. m - 1) counts) (swap_remove_entry (eq v) counts)

  pub count_down-absent : (counts : List (V × ℕ)) (v : V) → lookup (eq v) counts ≡ None → count_down eq counts v ≡ counts
  count_down-absent counts v none = ap (λ o. option_map_or (λ n. cond (nat_lt 1 n) (alter (eq v) (λ m. m - 1) counts) (swap_remove_entry (eq v) counts)) o counts) none

  pub count_down-lowered : (counts : List (V × ℕ)) (v : V) (n : ℕ) → lookup (eq v) counts ≡ Some n → 1 < n → count_down eq counts v ≡ alter (eq v) (λ m. m - 1) counts
  count_down-lowered counts v n some more =
      ap (λ o. option_map_or (λ n. cond (nat_lt 1 n) (alter (eq v) (λ m. m - 1) counts) (swap_remove_entry (eq v) counts)) o counts) some
      ∙ ap (λ b. cond b (alter (eq v) (λ m. m - 1) counts) (swap_remove_entry (eq v) counts)) (lt-ltb 1 n more)

  pub count_down-gone : (counts : List (V × ℕ)) (v : V) (n : ℕ) → lookup (eq v) counts ≡ Some n → n ≤ 1 → count_down eq counts v ≡ swap_remove_entry (eq v) counts
  count_down-gone counts v n some last =
      ap (λ o. option_map_or (λ n. cond (nat_lt 1 n) (alter (eq v) (λ m. m - 1) counts) (swap_remove_entry (eq v) counts)) o counts) some
      ∙ ap (λ b. cond b (alter (eq v) (λ m. m - 1) counts) (swap_remove_entry (eq v) counts)) (le-ltb 1 n last)

  total-lowered : (counts : List (V × ℕ)) (v : V) (n : ℕ) → lookup (eq v) counts ≡ Some n → 0 < n → total (alter (eq v) (λ m. m - 1) counts) + 1 ≡ total counts
  total-lowered [] v n some more = absurd (let h : None ≡ Some n = some in cc)
  total-lowered (c ∷ counts) v n some more = by (eq v c.0) refl (total-lowered counts v n)
    where
      by : (b : Bool) → eq v c.0 ≡ b → (lookup (eq v) counts ≡ Some n → 0 < n → total (alter (eq v) (λ m. m - 1) counts) + 1 ≡ total counts) → total (alter (eq v) (λ m. m - 1) (c ∷ counts)) + 1 ≡ total (c ∷ counts)
      by true t _ =
          let h : Some c.1 ≡ Some n = sym (ap (λ b. cond b (Some c.1) (lookup (eq v) counts)) t) ∙ some in
          let is : c.1 ≡ n = cc in
          let here = ap (λ b. total (cond b ((c.0, c.1 - 1) ∷ counts) (c ∷ alter (eq v) (λ m. m - 1) counts))) t in
          let one = total-cons (c.0, c.1 - 1) counts in
          let two = total-cons c counts in
          omega arith
      by false t h =
          let rest = h (sym (ap (λ b. cond b (Some c.1) (lookup (eq v) counts)) t) ∙ some) more in
          let here = ap (λ b. total (cond b ((c.0, c.1 - 1) ∷ counts) (c ∷ alter (eq v) (λ m. m - 1) counts))) t in
          let one = total-cons c (alter (eq v) (λ m. m - 1) counts) in
          let two = total-cons c counts in
          omega arith

  positive-lowered : (counts : List (V × ℕ)) (v : V) (n : ℕ) → lookup (eq v) counts ≡ Some n → 1 < n → All (λ c. 0 < c.1) counts → All (λ c. 0 < c.1) (alter (eq v) (λ m. m - 1) counts)
  positive-lowered [] v n some more all = all
  positive-lowered (c ∷ counts) v n some more all = by (eq v c.0) refl (positive-lowered counts v n)
    where
      by : (b : Bool) → eq v c.0 ≡ b → (lookup (eq v) counts ≡ Some n → 1 < n → All (λ x. 0 < x.1) counts → All (λ x. 0 < x.1) (alter (eq v) (λ m. m - 1) counts)) → All (λ x. 0 < x.1) (alter (eq v) (λ m. m - 1) (c ∷ counts))
      by true t _ =
          let h : Some c.1 ≡ Some n = sym (ap (λ b. cond b (Some c.1) (lookup (eq v) counts)) t) ∙ some in
          let is : c.1 ≡ n = cc in
          subst (λ b. All (λ (x : V × ℕ). 0 < x.1) (cond b ((c.0, c.1 - 1) ∷ counts) (c ∷ alter (eq v) (λ m. m - 1) counts))) (sym t)
          (All-cons (λ (x : V × ℕ). 0 < x.1) (c.0, c.1 - 1) counts (omega arith) (All-tail (λ (x : V × ℕ). 0 < x.1) c counts all))
      by false t h =
          subst (λ b. All (λ (x : V × ℕ). 0 < x.1) (cond b ((c.0, c.1 - 1) ∷ counts) (c ∷ alter (eq v) (λ m. m - 1) counts))) (sym t)
          (All-cons (λ (x : V × ℕ). 0 < x.1) c (alter (eq v) (λ m. m - 1) counts) (All-head (λ (x : V × ℕ). 0 < x.1) c counts all)
          (h (sym (ap (λ b. cond b (Some c.1) (lookup (eq v) counts)) t) ∙ some) more (All-tail (λ (x : V × ℕ). 0 < x.1) c counts all)))

  -- one of a value that is there goes
  pub total-count_down : (counts : List (V × ℕ)) (v : V) (n : ℕ) → All (λ c. 0 < c.1) counts → lookup (eq v) counts ≡ Some n → total (count_down eq counts v) + 1 ≡ total counts
  total-count_down counts v n all some = by (nat_lt 1 n) refl
    where
      by : (b : Bool) → nat_lt 1 n ≡ b → total (count_down eq counts v) + 1 ≡ total counts
      by true t =
          let more : 1 < n = ltb-true 1 n t in
          ap (λ l. total l + 1) (count_down-lowered counts v n some more) ∙ total-lowered counts v n some (omega arith)
      by false t =
          let last : n ≤ 1 = ltb-false 1 n t in
          let gone = goes (eq v) counts n some in
          let left = swap_remove_entry (eq v) counts in
          let moved = sum_by-IsPermutation (λ (c : V × ℕ). c.1) counts (gone.entry ∷ left) gone.moved in
          let whole = total-cons gone.entry left in
          let positive = All-head (λ (c : V × ℕ). 0 < c.1) gone.entry left (All-permutation (λ (c : V × ℕ). 0 < c.1) counts (gone.entry ∷ left) gone.moved all) in
          let one = gone.value in
          ap (λ l. total l + 1) (count_down-gone counts v n some last) ∙ omega arith

  pub positive-count_down : (counts : List (V × ℕ)) (v : V) → All (λ c. 0 < c.1) counts → All (λ c. 0 < c.1) (count_down eq counts v)
  positive-count_down counts v all = by (lookup (eq v) counts) refl
    where
      P : V × ℕ → Type 0
      P x = 0 < x.1

      by : (o : Option ℕ) → lookup (eq v) counts ≡ o → All (λ c. 0 < c.1) (count_down eq counts v)
      by None none = subst (All (λ (c : V × ℕ). 0 < c.1)) (sym (count_down-absent counts v none)) all
      by (Some n) some = at (nat_lt 1 n) refl
        where
          at : (b : Bool) → nat_lt 1 n ≡ b → All (λ c. 0 < c.1) (count_down eq counts v)
          at true t = subst (All (λ (c : V × ℕ). 0 < c.1)) (sym (count_down-lowered counts v n some (ltb-true 1 n t))) (positive-lowered counts v n some (ltb-true 1 n t) all)
          at false t =
              let gone = goes (eq v) counts n some in
              let left = swap_remove_entry (eq v) counts in
              subst (All (λ (c : V × ℕ). 0 < c.1)) (sym (count_down-gone counts v n some (ltb-false 1 n t)))
              (All-tail (λ (c : V × ℕ). 0 < c.1) gone.entry left (All-permutation (λ (c : V × ℕ). 0 < c.1) counts (gone.entry ∷ left) gone.moved all))

-- the same, where it is only known that the value is there
pub total-count_down-found : {V : Type 0} (eq : V → V → Bool) (counts : List (V × ℕ)) (v : V) → All (λ c. 0 < c.1) counts → is_some (lookup (eq v) counts) ≡ true → total (count_down eq counts v) + 1 ≡ total counts
total-count_down-found eq counts v all there = by (lookup (eq v) counts) refl
  where
    by : (o : Option ℕ) → lookup (eq v) counts ≡ o → total (count_down eq counts v) + 1 ≡ total counts
    by None none = absurd (true≢false (sym there ∙ ap is_some none))
    by (Some n) some = total-count_down eq counts v n all some

pub count_down-missing : {V : Type 0} (eq : V → V → Bool) (counts : List (V × ℕ)) (v : V) → is_some (lookup (eq v) counts) ≡ false → count_down eq counts v ≡ counts
count_down-missing eq counts v missing = by (lookup (eq v) counts) refl
  where
    by : (o : Option ℕ) → lookup (eq v) counts ≡ o → count_down eq counts v ≡ counts
    by None none = count_down-absent eq counts v none
    by (Some n) some = absurd (true≢false (sym (ap is_some some) ∙ missing))

-- which values are there
module _ {V : Type 0} (eq : V → V → Bool) where
  pub list_any-counted : (counts : List (V × ℕ)) (v : V) → All (λ c. 0 < c.1) counts → list_any (eq v) (keys_of counts) ≡ nat_lt 0 (counted_times eq counts v)
  list_any-counted [] v all = refl
  list_any-counted (c ∷ counts) v all = by (eq v c.0) refl (list_any-counted counts v (All-tail (λ (x : V × ℕ). 0 < x.1) c counts all))
    where
      by : (b : Bool) → eq v c.0 ≡ b → list_any (eq v) (keys_of counts) ≡ nat_lt 0 (counted_times eq counts v) → list_any (eq v) (keys_of (c ∷ counts)) ≡ nat_lt 0 (counted_times eq (c ∷ counts) v)
      by true t more =
          let one = times-cons eq c counts v in
          let here = ap (λ b. cond b c.1 0 + counted_times eq counts v) t in
          let some = All-head (λ (x : V × ℕ). 0 < x.1) c counts all in
          ap (λ b. b || list_any (eq v) (keys_of counts)) t ∙ sym (lt-ltb 0 (counted_times eq (c ∷ counts) v) (omega arith))
      by false t more =
          let here = ap (λ b. cond b c.1 0 + counted_times eq counts v) t in
          let none : 0 + counted_times eq counts v ≡ counted_times eq counts v = omega arith in
          ap (λ b. b || list_any (eq v) (keys_of counts)) t ∙ more ∙ ap (nat_lt 0) (sym (times-cons eq c counts v ∙ here ∙ none))

  pub list_any-count : (vs : List V) (v : V) → list_any (eq v) vs ≡ nat_lt 0 (count_by (eq v) vs)
  list_any-count [] v = refl
  list_any-count (x ∷ vs) v = by (eq v x) refl (list_any-count vs v)
    where
      by : (b : Bool) → eq v x ≡ b → list_any (eq v) vs ≡ nat_lt 0 (count_by (eq v) vs) → list_any (eq v) (x ∷ vs) ≡ nat_lt 0 (count_by (eq v) (x ∷ vs))
      by true t more =
          let one = sum_by-cons (λ (y : V). cond (eq v y) 1 0) x vs in
          let here = ap (λ b. cond b 1 0 + count_by (eq v) vs) t in
          ap (λ b. b || list_any (eq v) vs) t ∙ sym (lt-ltb 0 (count_by (eq v) (x ∷ vs)) (omega arith))
      by false t more =
          let one = sum_by-cons (λ (y : V). cond (eq v y) 1 0) x vs in
          let here = ap (λ b. cond b 1 0 + count_by (eq v) vs) t in
          let none : 0 + count_by (eq v) vs ≡ count_by (eq v) vs = omega arith in
          ap (λ b. b || list_any (eq v) vs) t ∙ more ∙ ap (nat_lt 0) (sym (one ∙ here ∙ none))

-- an answer that computes a comparison
pub says_less : (b : Bool) (m n : ℕ) → b ≡ nat_lt m n → IsTrue b ↔ (m < n)
says_less b m n e = (λ t. ltb-true m n (sym e ∙ t), λ h. e ∙ lt-ltb m n h)

-- the first of the counted values
module _ {V : Type 0} where
  pub none_counted : (counts : List (V × ℕ)) (r : Option (Bor V)) → option_copied r ≡ option_map (λ c. c.0) (slice_get counts 0) → All (λ c. 0 < c.1) counts → IsNone r ↔ (total counts ≡ 0)
  none_counted [] None is all = (λ h. refl, λ h. refl)
  none_counted [] (Some x) is all = absurd (let h : Some x.now ≡ None = is in cc)
  none_counted (c ∷ counts) None is all = absurd (let h : None ≡ Some c.0 = is in cc)
  none_counted (c ∷ counts) (Some x) is all =
      let whole = total-cons c counts in
      let some = All-head (λ (y : V × ℕ). 0 < y.1) c counts all in
      (λ h. absurd (true≢false h), λ h. let k : ⊥ = omega arith in absurd k)

  pub first_counted : (counts : List (V × ℕ)) (r : Option (Bor V)) → option_copied r ≡ option_map (λ c. c.0) (slice_get counts 0) → All (λ c. 0 < c.1) counts → IfSome r (λ v. Contains (repeated counts) v.now)
  first_counted counts None is all = tt
  first_counted [] (Some x) is all = absurd (let h : Some x.now ≡ None = is in cc)
  first_counted (c ∷ counts) (Some x) is all =
      let h : Some x.now ≡ Some c.0 = is in
      let same : x.now ≡ c.0 = cc in
      subst (Contains (repeated (c ∷ counts))) (sym same) (Contains-append_left (replicate c.1 c.0) (repeated counts) c.0 (several c.1 c.0 (All-head (λ (y : V × ℕ). 0 < y.1) c counts all)))
    where
      several : (n : ℕ) (v : V) → 0 < n → Contains (replicate n v) v
      several zero v some = absurd (let k : ⊥ = omega arith in k)
      several (suc n) v some = (0, omega arith, refl)
