-- How often each value is in a bag after each call, whichever form holds it.
use Rattle.std.proofs.Common.{◌≡◌, ℕ, ◌+◌, ◌-◌, ◌*◌, ◌<◌, ◌≤◌, Bool, true, false, nat_lt, nat_eq, ◌&&◌, cond, List, [], ◌∷◌, ◌++◌, length, filter, replicate, count_by, sum_by, Option, Some, None, refl, sym, ap, ◌∙◌, subst, true≢false, arith}
use Rattle.std.specs.List.{IsDistinct, All}
use Rattle.std.specs.Map.{lookup, keys_of}
use Rattle.std.specs.Cmp.{IsEquivalence}
use Rattle.std.proofs.lemmas.Bool.{ltb-true, ltb-false, eqb-true}
use Rattle.std.proofs.lemmas.List.Sums.{sum_by-cons, sum_by_push, sum_by-append}
use Rattle.std.proofs.lemmas.List.Folds.{sum_by-replicate}
use Rattle.std.proofs.lemmas.List.Elements.{All-head, All-tail, All-filter}
use Rattle.std.proofs.lemmas.List.Sorted.{IsPermutation-map, All-permutation, sum_by-IsPermutation}
use Rattle.std.proofs.lemmas.Map.Keys.{IsDistinct-tail, IsDistinct-IsPermutation}
use Rattle.std.proofs.lemmas.Map.Made.{IsDistinct-keys_filter}
use Rattle.indexmap.specs.IndexMap.{swap_remove_entry}
use Rattle.value_bags.specs.declared.bag.BagForm.{BagForm}
use Rattle.value_bags.specs.declared.bag.BagForm.TheVariants.{Short, Long}
use Rattle.value_bags.specs.Entries.{alter}
use Rattle.value_bags.specs.Bags.{total, repeated, values_of, cleared, retained, fitted, roomy, without_first, count_up, count_down, counted, counted_times, pushed, removed, reserved, times, IsProper, IsProperBag, long_length}
use Rattle.value_bags.proofs.Removed.{goes}
use Rattle.value_bags.proofs.Counted.{times-cons, total-cons, times-count_up, times-counted, proper-count_up, proper-counted, proper-nil, positive-count_down, count_down-absent, count_down-lowered, count_down-gone}

as_one : (a b : Bool) → a ≡ b → ◌≡◌ {A = ℕ} (cond a 1 0) (cond b 1 0)
as_one a b e = ap (λ x. cond {A = ℕ} x 1 0) e

is_one : (b : Bool) → b ≡ true → ◌≡◌ {A = ℕ} (cond b 1 0) 1
is_one b e = as_one b true e

is_none : (b : Bool) → b ≡ false → ◌≡◌ {A = ℕ} (cond b 1 0) 0
is_none b e = as_one b false e

module _ {V : Type 0} (eq : V → V → Bool) (laws : IsEquivalence eq) where
  alike : (v k w : V) → eq v k ≡ true → eq w v ≡ eq w k
  alike v k w t = laws.symm w v ∙ laws.congr v k w t ∙ laws.symm k w

  count-cons : (x : V) (vs : List V) (w : V) → count_by (eq w) (x ∷ vs) ≡ cond (eq w x) 1 0 + count_by (eq w) vs
  count-cons x vs w = sum_by-cons (λ (y : V). cond (eq w y) 1 0) x vs

  pub times-without_first : (vs : List V) (v w : V) → count_by (eq w) (without_first (eq v) vs) ≡ count_by (eq w) vs - cond (eq w v) 1 0
  times-without_first [] v w = omega arith
  times-without_first (x ∷ vs) v w = by (eq v x) refl (times-without_first vs v w)
    where
      by : (b : Bool) → eq v x ≡ b → count_by (eq w) (without_first (eq v) vs) ≡ count_by (eq w) vs - cond (eq w v) 1 0 → count_by (eq w) (without_first (eq v) (x ∷ vs)) ≡ count_by (eq w) (x ∷ vs) - cond (eq w v) 1 0
      by true t _ =
          let here : count_by (eq w) (without_first (eq v) (x ∷ vs)) ≡ count_by (eq w) vs = ap (λ b. count_by (eq w) (cond b vs (x ∷ without_first (eq v) vs))) t in
          let same = as_one (eq w v) (eq w x) (alike v x w t) in
          let whole = count-cons x vs w in
          omega arith
      by false t more = at (eq w v) refl
        where
          at : (b : Bool) → eq w v ≡ b → count_by (eq w) (without_first (eq v) (x ∷ vs)) ≡ count_by (eq w) (x ∷ vs) - cond (eq w v) 1 0
          at true s =
              let here : count_by (eq w) (without_first (eq v) (x ∷ vs)) ≡ count_by (eq w) (x ∷ without_first (eq v) vs) = ap (λ b. count_by (eq w) (cond b vs (x ∷ without_first (eq v) vs))) t in
              let one = is_one (eq w v) s in
              let apart = is_none (eq w x) (laws.congr w v x s ∙ t) in
              let whole = count-cons x vs w in
              let left = count-cons x (without_first (eq v) vs) w in
              omega arith
          at false s =
              let here : count_by (eq w) (without_first (eq v) (x ∷ vs)) ≡ count_by (eq w) (x ∷ without_first (eq v) vs) = ap (λ b. count_by (eq w) (cond b vs (x ∷ without_first (eq v) vs))) t in
              let none = is_none (eq w v) s in
              let whole = count-cons x vs w in
              let left = count-cons x (without_first (eq v) vs) w in
              omega arith

  times-alike : (counts : List (V × ℕ)) (w v : V) → eq w v ≡ true → counted_times eq counts w ≡ counted_times eq counts v
  times-alike counts w v t = λ j. sum_by (λ (c : V × ℕ). cond (laws.congr w v c.0 t j) c.1 0) counts

  times-absent : (counts : List (V × ℕ)) (v : V) → lookup (eq v) counts ≡ None → counted_times eq counts v ≡ 0
  times-absent [] v none = refl
  times-absent (c ∷ counts) v none = by (eq v c.0) refl (times-absent counts v)
    where
      by : (b : Bool) → eq v c.0 ≡ b → (lookup (eq v) counts ≡ None → counted_times eq counts v ≡ 0) → counted_times eq (c ∷ counts) v ≡ 0
      by true t _ = absurd (let h : Some c.1 ≡ None = sym (ap (λ b. cond b (Some c.1) (lookup (eq v) counts)) t) ∙ none in cc)
      by false t more =
          let rest = more (sym (ap (λ b. cond b (Some c.1) (lookup (eq v) counts)) t) ∙ none) in
          let whole = times-cons eq c counts v in
          let here = ap (λ b. cond b c.1 0) t in
          omega arith

  lowered : (b : Bool) (n s : ℕ) → 0 < n → cond b (n - 1) 0 + s + cond b 1 0 ≡ cond b n 0 + s
  lowered true n s h = omega arith
  lowered false n s h = omega arith

  times-lowered : (counts : List (V × ℕ)) (v w : V) (n : ℕ) → lookup (eq v) counts ≡ Some n → 0 < n → counted_times eq (alter (eq v) (λ m. m - 1) counts) w + cond (eq w v) 1 0 ≡ counted_times eq counts w
  times-lowered [] v w n some h = absurd (let k : None ≡ Some n = some in cc)
  times-lowered (c ∷ counts) v w n some h = by (eq v c.0) refl (times-lowered counts v w n)
    where
      by : (b : Bool) → eq v c.0 ≡ b → (lookup (eq v) counts ≡ Some n → 0 < n → counted_times eq (alter (eq v) (λ m. m - 1) counts) w + cond (eq w v) 1 0 ≡ counted_times eq counts w)
          → counted_times eq (alter (eq v) (λ m. m - 1) (c ∷ counts)) w + cond (eq w v) 1 0 ≡ counted_times eq (c ∷ counts) w
      by true t _ =
          let k : Some c.1 ≡ Some n = sym (ap (λ b. cond b (Some c.1) (lookup (eq v) counts)) t) ∙ some in
          let is : c.1 ≡ n = cc in
          let here : counted_times eq (alter (eq v) (λ m. m - 1) (c ∷ counts)) w ≡ counted_times eq ((c.0, c.1 - 1) ∷ counts) w = ap (λ b. counted_times eq (cond b ((c.0, c.1 - 1) ∷ counts) (c ∷ alter (eq v) (λ m. m - 1) counts)) w) t in
          let new : counted_times eq ((c.0, c.1 - 1) ∷ counts) w ≡ cond (eq w c.0) (c.1 - 1) 0 + counted_times eq counts w = times-cons eq (c.0, c.1 - 1) counts w in
          let old = times-cons eq c counts w in
          let same = as_one (eq w v) (eq w c.0) (alike v c.0 w t) in
          let less = lowered (eq w c.0) c.1 (counted_times eq counts w) (omega arith) in
          omega arith
      by false t more =
          let rest = more (sym (ap (λ b. cond b (Some c.1) (lookup (eq v) counts)) t) ∙ some) h in
          let here : counted_times eq (alter (eq v) (λ m. m - 1) (c ∷ counts)) w ≡ counted_times eq (c ∷ alter (eq v) (λ m. m - 1) counts) w = ap (λ b. counted_times eq (cond b ((c.0, c.1 - 1) ∷ counts) (c ∷ alter (eq v) (λ m. m - 1) counts)) w) t in
          let new = times-cons eq c (alter (eq v) (λ m. m - 1) counts) w in
          let old = times-cons eq c counts w in
          omega arith

  keys-alter : {B : Type 0} (f : B → B) (counts : List (V × B)) (v : V) → keys_of (alter (eq v) f counts) ≡ keys_of counts
  keys-alter f [] v = refl
  keys-alter {B} f (c ∷ counts) v = by (eq v c.0) refl (keys-alter f counts v)
    where
      by : (b : Bool) → eq v c.0 ≡ b → keys_of (alter (eq v) f counts) ≡ keys_of counts → keys_of (alter (eq v) f (c ∷ counts)) ≡ keys_of (c ∷ counts)
      by true t _ = ap (λ b. keys_of (cond b ((c.0, f c.1) ∷ counts) (c ∷ alter (eq v) f counts))) t
      by false t more = ap (λ b. keys_of (cond b ((c.0, f c.1) ∷ counts) (c ∷ alter (eq v) f counts))) t ∙ ap (λ l. c.0 ∷ l) more

  -- one less of a value
  pub times-count_down : (counts : List (V × ℕ)) (v w : V) → IsProper eq counts → counted_times eq (count_down eq counts v) w ≡ counted_times eq counts w - cond (eq w v) 1 0
  times-count_down counts v w h = by (lookup (eq v) counts) refl
    where
      by : (o : Option ℕ) → lookup (eq v) counts ≡ o → counted_times eq (count_down eq counts v) w ≡ counted_times eq counts w - cond (eq w v) 1 0
      by None none = ap (λ l. counted_times eq l w) (count_down-absent eq counts v none) ∙ at (eq w v) refl
        where
          at : (b : Bool) → eq w v ≡ b → counted_times eq counts w ≡ counted_times eq counts w - cond (eq w v) 1 0
          at true s =
              let nothing : counted_times eq counts w ≡ 0 = times-alike counts w v s ∙ times-absent counts v none in
              omega arith
          at false s =
              let nothing = is_none (eq w v) s in
              omega arith
      by (Some n) some = at (nat_lt 1 n) refl
        where
          at : (b : Bool) → nat_lt 1 n ≡ b → counted_times eq (count_down eq counts v) w ≡ counted_times eq counts w - cond (eq w v) 1 0
          at true t =
              let more : 1 < n = ltb-true 1 n t in
              let is : counted_times eq (count_down eq counts v) w ≡ counted_times eq (alter (eq v) (λ m. m - 1) counts) w = ap (λ l. counted_times eq l w) (count_down-lowered eq counts v n some more) in
              let less = times-lowered counts v w n some (omega arith) in
              omega arith
          at false t =
              let last : n ≤ 1 = ltb-false 1 n t in
              let is : counted_times eq (count_down eq counts v) w ≡ counted_times eq (swap_remove_entry (eq v) counts) w = ap (λ l. counted_times eq l w) (count_down-gone eq counts v n some last) in
              let gone = goes (eq v) counts n some in
              let left = swap_remove_entry (eq v) counts in
              let moved = sum_by-IsPermutation (λ (c : V × ℕ). cond (eq w c.0) c.1 0) counts (gone.entry ∷ left) gone.moved in
              let whole = times-cons eq gone.entry left w in
              let positive = All-head (λ (c : V × ℕ). 0 < c.1) gone.entry left (All-permutation (λ (c : V × ℕ). 0 < c.1) counts (gone.entry ∷ left) gone.moved h.0) in
              let value = gone.value in
              let one : gone.entry.1 ≡ 1 = omega arith in
              let own : cond (eq w gone.entry.0) gone.entry.1 0 ≡ cond (eq w v) 1 0 = ap (λ m. cond (eq w gone.entry.0) m 0) one ∙ ap (λ b. cond b 1 0) (sym (alike v gone.entry.0 w gone.passes)) in
              omega arith

  pub proper-count_down : (counts : List (V × ℕ)) (v : V) → IsProper eq counts → IsProper eq (count_down eq counts v)
  proper-count_down counts v h = (positive-count_down eq counts v h.0, by (lookup (eq v) counts) refl)
    where
      by : (o : Option ℕ) → lookup (eq v) counts ≡ o → IsDistinct eq (keys_of (count_down eq counts v))
      by None none = subst (λ (l : List (V × ℕ)). IsDistinct eq (keys_of l)) (sym (count_down-absent eq counts v none)) h.1
      by (Some n) some = at (nat_lt 1 n) refl
        where
          at : (b : Bool) → nat_lt 1 n ≡ b → IsDistinct eq (keys_of (count_down eq counts v))
          at true t = subst (IsDistinct eq) (sym (ap keys_of (count_down-lowered eq counts v n some (ltb-true 1 n t)) ∙ keys-alter (λ m. m - 1) counts v)) h.1
          at false t =
              let gone = goes (eq v) counts n some in
              let left = swap_remove_entry (eq v) counts in
              subst (λ (l : List (V × ℕ)). IsDistinct eq (keys_of l)) (sym (count_down-gone eq counts v n some (ltb-false 1 n t)))
              (IsDistinct-tail eq gone.entry.0 (keys_of left) (IsDistinct-IsPermutation eq laws.symm (keys_of counts) (keys_of (gone.entry ∷ left)) (IsPermutation-map (λ (c : V × ℕ). c.0) counts (gone.entry ∷ left) gone.moved) h.1))

  -- a bag where each count is one
  length-le-total : (counts : List (V × ℕ)) → All (λ c. 0 < c.1) counts → length counts ≤ total counts
  length-le-total [] h = omega arith
  length-le-total (c ∷ counts) h =
      let rest = length-le-total counts (All-tail (λ (x : V × ℕ). 0 < x.1) c counts h) in
      let own = All-head (λ (x : V × ℕ). 0 < x.1) c counts h in
      let whole = total-cons c counts in
      omega arith

  times-once : (counts : List (V × ℕ)) (w : V) → All (λ c. 0 < c.1) counts → length counts ≡ total counts → count_by (eq w) (keys_of counts) ≡ counted_times eq counts w
  times-once [] w h e = refl
  times-once (c ∷ counts) w h e =
      let rest = All-tail (λ (x : V × ℕ). 0 < x.1) c counts h in
      let own = All-head (λ (x : V × ℕ). 0 < x.1) c counts h in
      let fewer = length-le-total counts rest in
      let whole = total-cons c counts in
      let one : c.1 ≡ 1 = omega arith in
      let more = times-once counts w rest (omega arith) in
      count-cons c.0 (keys_of counts) w ∙ ap (λ n. cond (eq w c.0) 1 0 + n) more ∙ ap (λ m. cond (eq w c.0) m 0 + counted_times eq counts w) (sym one) ∙ sym (times-cons eq c counts w)

  chosen : (b : Bool) (n : ℕ) → n * cond b 1 0 ≡ cond b n 0
  chosen true n = omega arith
  chosen false n = omega arith

  -- the values of a long bag are its counts written out
  pub count-repeated : (counts : List (V × ℕ)) (w : V) → count_by (eq w) (repeated counts) ≡ counted_times eq counts w
  count-repeated [] w = refl
  count-repeated (c ∷ counts) w =
      sum_by-append (λ (y : V). cond (eq w y) 1 0) (replicate c.1 c.0) (repeated counts)
      ∙ (λ j. (sum_by-replicate (λ (y : V). cond (eq w y) 1 0) c.1 c.0 ∙ chosen (eq w c.0) c.1) j + count-repeated counts w j)
      ∙ sym (times-cons eq c counts w)

  pub count-values : (bag : BagForm V) (w : V) → count_by (eq w) (values_of bag) ≡ times eq bag w
  count-values (Short vs) w = refl
  count-values (Long counts) w = count-repeated counts w

  module _ (keeps : V → Bool) (kept : (a b : V) → eq a b ≡ true → keeps a ≡ keeps b) where
    thinned : (own kc k b : Bool) (n rest : ℕ) → (b ≡ true → k ≡ kc) → cond kc (cond b n 0 + cond k rest 0) (cond k rest 0) ≡ cond k (cond b n 0 + rest) 0
    thinned own true true true n rest h = refl
    thinned own true true false n rest h = refl
    thinned own true false true n rest h = absurd (true≢false (sym (h refl)))
    thinned own true false false n rest h = refl
    thinned own false true true n rest h = absurd (true≢false (h refl))
    thinned own false true false n rest h = omega arith
    thinned own false false b n rest h = refl

    times-filter : (counts : List (V × ℕ)) (w : V) → counted_times eq (filter (λ c. keeps c.0) counts) w ≡ cond (keeps w) (counted_times eq counts w) 0
    times-filter [] w = by (keeps w)
      where
        by : (b : Bool) → ◌≡◌ {A = ℕ} 0 (cond b 0 0)
        by true = refl
        by false = refl
    times-filter (c ∷ counts) w =
        step (keeps c.0) ∙ ap (λ n. cond (keeps c.0) (cond (eq w c.0) c.1 0 + n) n) (times-filter counts w)
        ∙ thinned true (keeps c.0) (keeps w) (eq w c.0) c.1 (counted_times eq counts w) (kept w c.0)
        ∙ ap (λ n. cond (keeps w) n 0) (sym (times-cons eq c counts w))
      where
        step : (b : Bool) → counted_times eq (cond b (c ∷ filter (λ x. keeps x.0) counts) (filter (λ x. keeps x.0) counts)) w
            ≡ cond b (cond (eq w c.0) c.1 0 + counted_times eq (filter (λ x. keeps x.0) counts) w) (counted_times eq (filter (λ x. keeps x.0) counts) w)
        step true = times-cons eq c (filter (λ x. keeps x.0) counts) w
        step false = refl

    pub count-filter : (vs : List V) (w : V) → count_by (eq w) (filter keeps vs) ≡ cond (keeps w) (count_by (eq w) vs) 0
    count-filter [] w = by (keeps w)
      where
        by : (b : Bool) → ◌≡◌ {A = ℕ} 0 (cond b 0 0)
        by true = refl
        by false = refl
    count-filter (x ∷ vs) w =
        step (keeps x) ∙ ap (λ n. cond (keeps x) (cond (eq w x) 1 0 + n) n) (count-filter vs w)
        ∙ thinned true (keeps x) (keeps w) (eq w x) 1 (count_by (eq w) vs) (kept w x)
        ∙ ap (λ n. cond (keeps w) n 0) (sym (count-cons x vs w))
      where
        step : (b : Bool) → count_by (eq w) (cond b (x ∷ filter keeps vs) (filter keeps vs)) ≡ cond b (cond (eq w x) 1 0 + count_by (eq w) (filter keeps vs)) (count_by (eq w) (filter keeps vs))
        step true = count-cons x (filter keeps vs) w
        step false = refl

    pub times-retained : (bag : BagForm V) (w : V) → times eq (retained keeps bag) w ≡ cond (keeps w) (times eq bag w) 0
    times-retained (Short vs) w = count-filter vs w
    times-retained (Long counts) w = times-filter counts w

  pub times-pushed : (bag : BagForm V) (v w : V) → times eq (pushed eq bag v) w ≡ times eq bag w + cond (eq w v) 1 0
  times-pushed (Short vs) v w = by (nat_lt (length vs + 1) long_length)
    where
      by : (b : Bool) → times eq (cond b (Short (vs ++ v ∷ [])) (Long (count_up eq (counted eq vs) v))) w ≡ count_by (eq w) vs + cond (eq w v) 1 0
      by true = sum_by_push (λ (y : V). cond (eq w y) 1 0) vs v
      by false = times-count_up eq laws (counted eq vs) v w ∙ ap (λ n. n + cond (eq w v) 1 0) (times-counted eq laws vs w)
  times-pushed (Long counts) v w = times-count_up eq laws counts v w

  pub times-removed : (bag : BagForm V) (v w : V) → IsProperBag eq bag → times eq (removed eq bag v) w ≡ times eq bag w - cond (eq w v) 1 0
  times-removed (Short vs) v w h = times-without_first vs v w
  times-removed (Long counts) v w h = times-count_down counts v w h

  pub times-cleared : (bag : BagForm V) (w : V) → times eq (cleared bag) w ≡ 0
  times-cleared (Short vs) w = refl
  times-cleared (Long counts) w = refl

  both : (a b : Bool) → (a && b) ≡ true → b ≡ true
  both true b h = h
  both false b h = absurd (true≢false (sym h))

  pub times-fitted : (bag : BagForm V) (w : V) → IsProperBag eq bag → times eq (fitted bag) w ≡ times eq bag w
  times-fitted (Short vs) w h = refl
  times-fitted (Long counts) w h = by (nat_lt (total counts) long_length && nat_eq (length counts) (total counts)) refl
    where
      by : (b : Bool) → (nat_lt (total counts) long_length && nat_eq (length counts) (total counts)) ≡ b → times eq (cond b (Short (keys_of counts)) (Long counts)) w ≡ counted_times eq counts w
      by true t = times-once counts w h.0 (eqb-true (length counts) (total counts) (both (nat_lt (total counts) long_length) (nat_eq (length counts) (total counts)) t))
      by false t = refl

  pub times-reserved : (n : ℕ) (bag : BagForm V) (w : V) → times eq (reserved eq n bag) w ≡ times eq bag w
  times-reserved n (Short vs) w = by (nat_lt (length vs + n) long_length)
    where
      by : (b : Bool) → times eq (cond b (Short vs) (Long (counted eq vs))) w ≡ count_by (eq w) vs
      by true = refl
      by false = times-counted eq laws vs w
  times-reserved n (Long counts) w = refl

  -- what keeps a bag as it should be
  pub proper-pushed : (bag : BagForm V) (v : V) → IsProperBag eq bag → IsProperBag eq (pushed eq bag v)
  proper-pushed (Short vs) v h = by (nat_lt (length vs + 1) long_length)
    where
      by : (b : Bool) → IsProperBag eq (cond b (Short (vs ++ v ∷ [])) (Long (count_up eq (counted eq vs) v)))
      by true = tt
      by false = proper-count_up eq laws (counted eq vs) v (proper-counted eq laws vs)
  proper-pushed (Long counts) v h = proper-count_up eq laws counts v h

  pub proper-removed : (bag : BagForm V) (v : V) → IsProperBag eq bag → IsProperBag eq (removed eq bag v)
  proper-removed (Short vs) v h = tt
  proper-removed (Long counts) v h = proper-count_down counts v h

  pub proper-cleared : (bag : BagForm V) → IsProperBag eq (cleared bag)
  proper-cleared (Short vs) = tt
  proper-cleared (Long counts) = proper-nil eq laws

  pub proper-retained : (keeps : V → Bool) (bag : BagForm V) → IsProperBag eq bag → IsProperBag eq (retained keeps bag)
  proper-retained keeps (Short vs) h = tt
  proper-retained keeps (Long counts) h = (All-filter (λ c. keeps c.0) (λ c. 0 < c.1) counts h.0, IsDistinct-keys_filter eq (λ c. keeps c.0) counts h.1)

  pub proper-fitted : (bag : BagForm V) → IsProperBag eq bag → IsProperBag eq (fitted bag)
  proper-fitted (Short vs) h = tt
  proper-fitted (Long counts) h = by (nat_lt (total counts) long_length && nat_eq (length counts) (total counts))
    where
      by : (b : Bool) → IsProperBag eq (cond b (Short (keys_of counts)) (Long counts))
      by true = tt
      by false = h

  pub proper-reserved : (n : ℕ) (bag : BagForm V) → IsProperBag eq bag → IsProperBag eq (reserved eq n bag)
  proper-reserved n (Short vs) h = by (nat_lt (length vs + n) long_length)
    where
      by : (b : Bool) → IsProperBag eq (cond b (Short vs) (Long (counted eq vs)))
      by true = tt
      by false = proper-counted eq laws vs
  proper-reserved n (Long counts) h = h

  pub proper-roomy : (n : ℕ) → IsProperBag eq (roomy n)
  proper-roomy n = by (nat_lt long_length n)
    where
      by : (b : Bool) → IsProperBag eq (cond b (Long []) (Short []))
      by true = proper-nil eq laws
      by false = tt

  pub times-roomy : (n : ℕ) (w : V) → times eq (roomy n) w ≡ 0
  times-roomy n w = by (nat_lt long_length n)
    where
      by : (b : Bool) → times eq (cond b (Long []) (Short [])) w ≡ 0
      by true = refl
      by false = refl
