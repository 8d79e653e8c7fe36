-- Chunks of entries in order, as entries one behind another.
use Rattle.std.proofs.Common.{◌≡◌, ℕ, zero, suc, ◌+◌, ◌-◌, ◌<◌, ◌≤◌, ◌≤ℤ◌, ◌<ℤ◌, Bool, true, false, cond, List, [], ◌∷◌, ◌++◌, length, get_or, take, drop, Some, IfSome, refl, sym, ap, subst, ◌∙◌, inl, inr, ⊎_elim, arith, zero-add, append-nil, append_assoc, length-append, take-append-drop}
use Rattle.std.specs.Prelude.{ℤ, option_map, count_by, replicate, insert, int_le, slice_get, slice_set}
use Rattle.std.specs.List.Sorted.{IsPartitionPoint, IsPartitionedBy}
use Rattle.std.specs.Ordering.{int_cmp, int_eq, is_lt, ordering_index, MatchOrdering}
use Rattle.std.specs.declared.cmp.Ordering.{Ordering}
use Rattle.std.specs.declared.cmp.Ordering.TheVariants.{Less, Equal, Greater}
use Rattle.std.proofs.lemmas.Cmp.{int_ranked}
use Rattle.std.proofs.lemmas.Int.{ints}
use Rattle.std.proofs.lemmas.Grind.{flat_map-append}
use Rattle.std.proofs.lemmas.List.{length-replicate, take_more}
use Rattle.std.proofs.lemmas.List.Folds.{length-flat_map-take}
use Rattle.std.proofs.lemmas.List.Sums.{sum_by-append}
use Rattle.metrics_registry.specs.declared.chunks.Chunk.{Chunk}
use Rattle.metrics_registry.specs.Bags.{repeated, copies}
use Rattle.metrics_registry.specs.Chunks.{marked, entries_of, AreFrom, AreUpTo, Rise, AreCounted, AreOrdered, HasValues, IsChunkOf, IsPlace, IsRaised}
use Rattle.metrics_core.specs.Fixed.{of_billionths}
use Rattle.metrics_registry.specs.Quantiles.{ascending, rank, nearest_rank}
use Rattle.metrics_registry.specs.QuantileLaws.{nearest_rank-ascending}
use Rattle.std.proofs.Math.Seq.{drop-cons}
use Rattle.metrics_registry.proofs.Bagged.{AtMostFirst, ascending-copies, copies-cons, length-put, walked-here, walked-past}

-- ---- numbers in order

le-trans : (a b c : ℤ) → a ≤ℤ b → b ≤ℤ c → a ≤ℤ c
le-trans a b c le le' = omega (arith, ints)

le-self : (a : ℤ) → a ≤ℤ a
le-self a = omega (arith, ints)

le-less : (a b : ℤ) → int_cmp a b ≡ Less → a ≤ℤ b
le-less a b is = by (subst (λ r. MatchOrdering r (a <ℤ b) (a ≡ b) (b <ℤ a)) is (int_ranked a b (int_cmp a b) refl))
  where
    by : a <ℤ b → a ≤ℤ b
    by lt = omega (arith, ints)

le-greater : (a b : ℤ) → int_cmp a b ≡ Greater → b ≤ℤ a
le-greater a b is = by (subst (λ r. MatchOrdering r (a <ℤ b) (a ≡ b) (b <ℤ a)) is (int_ranked a b (int_cmp a b) refl))
  where
    by : b <ℤ a → b ≤ℤ a
    by lt = omega (arith, ints)

same-equal : (a b : ℤ) → int_cmp a b ≡ Equal → a ≡ b
same-equal a b is = subst (λ r. MatchOrdering r (a <ℤ b) (a ≡ b) (b <ℤ a)) is (int_ranked a b (int_cmp a b) refl)

not-less : (a b : ℤ) → b ≤ℤ a → is_lt (int_cmp a b) ≡ false
not-less a b le = by (int_cmp a b) (int_ranked a b (int_cmp a b) refl)
  where
    by : (r : Ordering) → MatchOrdering r (a <ℤ b) (a ≡ b) (b <ℤ a) → is_lt r ≡ false
    by Less lt = absurd (omega (arith, ints))
    by Equal same = refl
    by Greater gt = refl

pub le-tested : (a b : ℤ) → int_le a b ≡ true → a ≤ℤ b
le-tested a b is = grind (arith, ints)

pub ge-tested : (a b : ℤ) → int_le a b ≡ false → b ≤ℤ a
ge-tested a b is = grind (arith, ints)

-- ---- entries in order

from-lower : (k m : ℤ) (es : List (ℤ × ℕ)) → k ≤ℤ m → AreFrom m es → AreFrom k es
from-lower k m [] le all = tt
from-lower k m (e ∷ es) le all = (le-trans k m e.0 le all.0, from-lower k m es le all.1)

up_to-higher : (k m : ℤ) (es : List (ℤ × ℕ)) → k ≤ℤ m → AreUpTo k es → AreUpTo m es
up_to-higher k m [] le all = tt
up_to-higher k m (e ∷ es) le all = (le-trans e.0 k m all.0 le, up_to-higher k m es le all.1)

from-append : (k : ℤ) (xs ys : List (ℤ × ℕ)) → AreFrom k xs → AreFrom k ys → AreFrom k (xs ++ ys)
from-append k [] ys all rest = rest
from-append k (x ∷ xs) ys all rest = (all.0, from-append k xs ys all.1 rest)

from-right : (k : ℤ) (xs ys : List (ℤ × ℕ)) → AreFrom k (xs ++ ys) → AreFrom k ys
from-right k [] ys all = all
from-right k (x ∷ xs) ys all = from-right k xs ys all.1

up_to-append : (k : ℤ) (xs ys : List (ℤ × ℕ)) → AreUpTo k xs → AreUpTo k ys → AreUpTo k (xs ++ ys)
up_to-append k [] ys all rest = rest
up_to-append k (x ∷ xs) ys all rest = (all.0, up_to-append k xs ys all.1 rest)

rise-right : (xs ys : List (ℤ × ℕ)) → Rise (xs ++ ys) → Rise ys
rise-right [] ys rise = rise
rise-right (x ∷ xs) ys rise = rise-right xs ys rise.1

from-left : (k : ℤ) (xs ys : List (ℤ × ℕ)) → AreFrom k (xs ++ ys) → AreFrom k xs
from-left k [] ys all = tt
from-left k (x ∷ xs) ys all = (all.0, from-left k xs ys all.1)

rise-left : (xs ys : List (ℤ × ℕ)) → Rise (xs ++ ys) → Rise xs
rise-left [] ys rise = tt
rise-left (x ∷ xs) ys rise = (from-left x.0 xs ys rise.0, rise-left xs ys rise.1)

-- those before an entry aren't above it
up_to-before : (k : ℤ) (n : ℕ) (xs ys : List (ℤ × ℕ)) → Rise (xs ++ (k, n) ∷ ys) → AreUpTo k xs
up_to-before k n [] ys rise = tt
up_to-before k n (x ∷ xs) ys rise =
    let above : AreFrom x.0 ((k, n) ∷ ys) = from-right x.0 xs ((k, n) ∷ ys) rise.0 in
    (above.0, up_to-before k n xs ys rise.1)

from-insert : (low k : ℤ) (n : ℕ) (xs ys : List (ℤ × ℕ)) → low ≤ℤ k → AreFrom low (xs ++ ys) → AreFrom low (xs ++ (k, n) ∷ ys)
from-insert low k n [] ys le all = (le, all)
from-insert low k n (x ∷ xs) ys le all = (all.0, from-insert low k n xs ys le all.1)

rise-insert : (k : ℤ) (n : ℕ) (xs ys : List (ℤ × ℕ)) → AreUpTo k xs → AreFrom k ys → Rise (xs ++ ys) → Rise (xs ++ (k, n) ∷ ys)
rise-insert k n [] ys low high rise = (high, rise)
rise-insert k n (x ∷ xs) ys low high rise = (from-insert x.0 k n xs ys low.0 rise.0, rise-insert k n xs ys low.1 high rise.1)

from-recount : (low k : ℤ) (m n : ℕ) (xs ys : List (ℤ × ℕ)) → AreFrom low (xs ++ (k, m) ∷ ys) → AreFrom low (xs ++ (k, n) ∷ ys)
from-recount low k m n [] ys all = all
from-recount low k m n (x ∷ xs) ys all = (all.0, from-recount low k m n xs ys all.1)

rise-recount : (k : ℤ) (m n : ℕ) (xs ys : List (ℤ × ℕ)) → Rise (xs ++ (k, m) ∷ ys) → Rise (xs ++ (k, n) ∷ ys)
rise-recount k m n [] ys rise = rise
rise-recount k m n (x ∷ xs) ys rise = (from-recount x.0 k m n xs ys rise.0, rise-recount k m n xs ys rise.1)

-- ---- a value that is there more often

pub raised-left : (value : ℤ) (count : ℕ) (xs old new : List (ℤ × ℕ)) → AreUpTo value xs → IsRaised value count old new → IsRaised value count (xs ++ old) (xs ++ new)
raised-left value count xs old new low raised =
    let more : List (ℤ × ℕ) → List (ℤ × ℕ) = λ es. xs ++ es in
    record {
      front = xs ++ raised.front;
      back = raised.back;
      held = raised.held;
      was = ⊎_elim
          (λ is. inl (ap more is ∙ sym (append_assoc xs raised.front ((value, raised.held) ∷ raised.back))))
          (λ is. inr (ap more is.0 ∙ sym (append_assoc xs raised.front raised.back), is.1, up_to-append value xs raised.front low is.2, is.3))
          raised.was;
      is = ap more raised.is ∙ sym (append_assoc xs raised.front ((value, raised.held + count) ∷ raised.back));
    }

pub raised-right : (value : ℤ) (count : ℕ) (old new ys : List (ℤ × ℕ)) → AreFrom value ys → IsRaised value count old new → IsRaised value count (old ++ ys) (new ++ ys)
raised-right value count old new ys high raised =
    let more : List (ℤ × ℕ) → List (ℤ × ℕ) = λ es. es ++ ys in
    record {
      front = raised.front;
      back = raised.back ++ ys;
      held = raised.held;
      was = ⊎_elim
          (λ is. inl (ap more is ∙ append_assoc raised.front ((value, raised.held) ∷ raised.back) ys))
          (λ is. inr (ap more is.0 ∙ append_assoc raised.front raised.back ys, is.1, is.2, from-append value raised.back ys is.3 high))
          raised.was;
      is = ap more raised.is ∙ append_assoc raised.front ((value, raised.held + count) ∷ raised.back) ys;
    }

copies-append : (v : ℤ) (xs ys : List (ℤ × ℕ)) → copies v (xs ++ ys) ≡ copies v xs + copies v ys
copies-append v xs ys =
    ap (count_by (int_eq v)) (flat_map-append (λ (e : ℤ × ℕ). replicate e.1 e.0) xs ys)
    ∙ sum_by-append (λ x. cond (int_eq v x) 1 0) (repeated xs) (repeated ys)

copies-around : (v k : ℤ) (n : ℕ) (xs ys : List (ℤ × ℕ)) → copies v (xs ++ (k, n) ∷ ys) ≡ copies v xs + (cond (int_eq v k) n 0 + copies v ys)
copies-around v k n xs ys = copies-append v xs ((k, n) ∷ ys) ∙ ap (λ m. copies v xs + m) (copies-cons v k n ys)

cond-sum : (b : Bool) (m n : ℕ) → cond b (m + n) 0 ≡ cond b m 0 + cond b n 0
cond-sum true m n = refl
cond-sum false m n = refl

cond-none : (b : Bool) (m : ℕ) → m ≡ 0 → cond b m 0 ≡ 0
cond-none true m none = none
cond-none false m none = refl

pub raised-copies : (v value : ℤ) (count : ℕ) (old new : List (ℤ × ℕ)) → IsRaised value count old new → copies v new ≡ copies v old + cond (int_eq v value) count 0
raised-copies v value count old new raised =
    let b = int_eq v value in
    let f = raised.front in
    let k = raised.back in
    let after : copies v new ≡ copies v f + (cond b (raised.held + count) 0 + copies v k) = ap (copies v) raised.is ∙ copies-around v value (raised.held + count) f k in
    ⊎_elim
    (λ is. omega (arith, after, cond-sum b raised.held count, ap (copies v) is ∙ copies-around v value raised.held f k))
    (λ is. omega (arith, after, cond-sum b raised.held count, cond-none b raised.held is.1, ap (copies v) is.0 ∙ copies-append v f k))
    raised.was

pub raised-rise : (value : ℤ) (count : ℕ) (old new : List (ℤ × ℕ)) → IsRaised value count old new → Rise old → Rise new
raised-rise value count old new raised rise =
    subst Rise (sym raised.is) (
    ⊎_elim
    (λ is. rise-recount value raised.held (raised.held + count) raised.front raised.back (subst Rise is rise))
    (λ is. rise-insert value (raised.held + count) raised.front raised.back is.2 is.3 (subst Rise is.0 rise))
    raised.was
    )

-- ---- an entry of a list, between those before it and those behind it

module _ {X : Type 0} where
  pub parted : (xs : List X) (i : ℕ) (x : X) → slice_get xs i ≡ Some x → xs ≡ take i xs ++ x ∷ drop (suc i) xs
  parted [] i x at = cc
  parted (y ∷ xs) zero x at = let is : y ≡ x = cc at in ap (λ z. z ∷ xs) is
  parted (y ∷ xs) (suc i) x at = ap (λ zs. y ∷ zs) (parted xs i x at)

  pub parted-set : (xs : List X) (i : ℕ) (x y : X) → slice_get xs i ≡ Some x → slice_set xs i y ≡ take i xs ++ y ∷ drop (suc i) xs
  parted-set [] i x y at = cc
  parted-set (z ∷ xs) zero x y at = refl
  parted-set (z ∷ xs) (suc i) x y at = ap (λ zs. z ∷ zs) (parted-set xs i x y at)

  pub parted-split : (xs : List X) (i : ℕ) (x a b : X) → slice_get xs i ≡ Some x → slice_set (insert xs (suc i) a) i b ≡ take i xs ++ b ∷ a ∷ drop (suc i) xs
  parted-split [] i x a b at = cc
  parted-split (z ∷ xs) zero x a b at = refl
  parted-split (z ∷ xs) (suc i) x a b at = ap (λ zs. z ∷ zs) (parted-split xs i x a b at)

  pub if_some-at : (P : X → Type 0) (xs : List X) (i : ℕ) → ((d : X) → i < length xs → P (get_or xs i d)) → IfSome (slice_get xs i) P
  if_some-at P [] i all = tt
  if_some-at P (x ∷ xs) zero all = all x (omega arith)
  if_some-at P (x ∷ xs) (suc i) all = if_some-at P xs i (λ d lt. all d (omega arith))

-- ---- the place of a value among entries

pub raised-found : (value : ℤ) (count : ℕ) (es : List (ℤ × ℕ)) (i : ℕ) (e : ℤ × ℕ) → slice_get es i ≡ Some e → int_cmp e.0 value ≡ Equal → IsRaised value count es (slice_set es i (e.0, e.1 + count))
raised-found value count es i e at equal =
    let own : e.0 ≡ value = same-equal e.0 value equal in
    record {
      front = take i es;
      back = drop (suc i) es;
      held = e.1;
      was = inl (parted es i e at ∙ ap (λ k. take i es ++ (k, e.1) ∷ drop (suc i) es) own);
      is = parted-set es i e (e.0, e.1 + count) at ∙ ap (λ k. take i es ++ (k, e.1 + count) ∷ drop (suc i) es) own;
    }

lesser-before : (value : ℤ) (es : List (ℤ × ℕ)) (i : ℕ) → ((k : ℕ) (d : ℤ × ℕ) → k < i → k < length es → int_cmp (get_or es k d).0 value ≡ Less) → AreUpTo value (take i es)
lesser-before value es zero all = tt
lesser-before value [] (suc i) all = tt
lesser-before value (e ∷ es) (suc i) all =
    (le-less e.0 value (all 0 e (omega arith) (omega arith)), lesser-before value es i (λ k d lt within. all (suc k) d (omega arith) (omega arith)))

greater-behind : (value : ℤ) (es : List (ℤ × ℕ)) (i : ℕ) → ((k : ℕ) (d : ℤ × ℕ) → i ≤ k → k < length es → int_cmp (get_or es k d).0 value ≡ Greater) → AreFrom value (drop i es)
greater-behind value [] zero all = tt
greater-behind value (e ∷ es) zero all =
    (le-greater e.0 value (all 0 e (omega arith) (omega arith)), greater-behind value es zero (λ k d le within. all (suc k) d (omega arith) (omega arith)))
greater-behind value [] (suc i) all = tt
greater-behind value (e ∷ es) (suc i) all = greater-behind value es i (λ k d le within. all (suc k) d (omega arith) (omega arith))

pub raised-new : (value : ℤ) (count : ℕ) (es : List (ℤ × ℕ)) (i : ℕ) → IsPartitionPoint (λ e. int_cmp e.0 value ≡ Less) (λ e. int_cmp e.0 value ≡ Greater) es i → IsRaised value count es (insert es i (value, count))
raised-new value count es i point = record {
  front = take i es;
  back = drop i es;
  held = 0;
  was = inr (sym (take-append-drop i es), refl, lesser-before value es i (λ k d lt within. point.0 k d (omega arith) lt), greater-behind value es i (λ k d le within. point.1 k d le within));
  is = ap (λ n. take i es ++ (value, n) ∷ drop i es) (sym (zero-add count));
}

-- entries in order, as a search asks for them
from-at : (k : ℤ) (es : List (ℤ × ℕ)) (i : ℕ) (d : ℤ × ℕ) → AreFrom k es → i < length es → k ≤ℤ (get_or es i d).0
from-at k [] i d all within = absurd (omega (arith, within))
from-at k (e ∷ es) zero d all within = all.0
from-at k (e ∷ es) (suc i) d all within = from-at k es i d all.1 (omega (arith, within))

rises-to : (es : List (ℤ × ℕ)) (i j : ℕ) (d : ℤ × ℕ) → Rise es → i ≤ j → j < length es → (get_or es i d).0 ≤ℤ (get_or es j d).0
rises-to [] i j d rise le within = absurd (omega (arith, within))
rises-to (e ∷ es) zero zero d rise le within = le-self e.0
rises-to (e ∷ es) zero (suc j) d rise le within = from-at e.0 es j d rise.0 (omega (arith, within))
rises-to (e ∷ es) (suc i) zero d rise le within = absurd (omega (arith, le))
rises-to (e ∷ es) (suc i) (suc j) d rise le within = rises-to es i j d rise.1 (omega (arith, le)) (omega (arith, within))

index-rises : (a b v : ℤ) → a ≤ℤ b → ordering_index (int_cmp a v) ≤ ordering_index (int_cmp b v)
index-rises a b v le = by (int_cmp a v) (int_cmp b v) (int_ranked a v (int_cmp a v) refl) (int_ranked b v (int_cmp b v) refl)
  where
    by : (r s : Ordering) → MatchOrdering r (a <ℤ v) (a ≡ v) (v <ℤ a) → MatchOrdering s (b <ℤ v) (b ≡ v) (v <ℤ b) → ordering_index r ≤ ordering_index s
    by Less s x y = omega arith
    by Equal Less x y = absurd (below (subst (λ z. z ≤ℤ b) x le) y)
      where
        below : v ≤ℤ b → b <ℤ v → ⊥
        below h k = omega (arith, ints)
    by Equal Equal x y = omega arith
    by Equal Greater x y = omega arith
    by Greater Less x y = absurd (omega (arith, ints))
    by Greater Equal x y = absurd (above x (subst (λ z. a ≤ℤ z) y le))
      where
        above : v <ℤ a → a ≤ℤ v → ⊥
        above h k = omega (arith, ints)
    by Greater Greater x y = omega arith

pub searchable : (value : ℤ) (es : List (ℤ × ℕ)) → Rise es → (i j : ℕ) (d : ℤ × ℕ) → i ≤ j → j < length es → ordering_index (int_cmp (get_or es i d).0 value) ≤ ordering_index (int_cmp (get_or es j d).0 value)
searchable value es rise i j d le within = index-rises (get_or es i d).0 (get_or es j d).0 value (rises-to es i j d rise le within)

-- ---- chunks one behind another

repeated-append : (xs ys : List (ℤ × ℕ)) → repeated (xs ++ ys) ≡ repeated xs ++ repeated ys
repeated-append xs ys = flat_map-append (λ (e : ℤ × ℕ). replicate e.1 e.0) xs ys

entries-around : (front back : List Chunk) (chunk : Chunk) → entries_of (front ++ chunk ∷ back) ≡ entries_of front ++ (marked chunk ++ entries_of back)
entries-around front back chunk = flat_map-append marked front (chunk ∷ back)

entries-at : (cs : List Chunk) (i : ℕ) (chunk : Chunk) → slice_get cs i ≡ Some chunk → entries_of cs ≡ entries_of (take i cs) ++ (marked chunk ++ entries_of (drop (suc i) cs))
entries-at cs i chunk at = ap entries_of (parted cs i chunk at) ∙ entries-around (take i cs) (drop (suc i) cs) chunk

entries-set : (cs : List Chunk) (i : ℕ) (chunk new : Chunk) → slice_get cs i ≡ Some chunk → entries_of (slice_set cs i new) ≡ entries_of (take i cs) ++ (marked new ++ entries_of (drop (suc i) cs))
entries-set cs i chunk new at = ap entries_of (parted-set cs i chunk new at) ∙ entries-around (take i cs) (drop (suc i) cs) new

counted-around : (front back : List Chunk) (chunk : Chunk) → AreCounted (front ++ chunk ∷ back) → chunk.count ≡ length (repeated chunk.entries.items)
counted-around [] back chunk counted = counted.0
counted-around (c ∷ front) back chunk counted = counted-around front back chunk counted.1

counted-behind : (front back : List Chunk) (chunk : Chunk) → AreCounted (front ++ chunk ∷ back) → AreCounted back
counted-behind [] back chunk counted = counted.1
counted-behind (c ∷ front) back chunk counted = counted-behind front back chunk counted.1

counted-change : (front back new : List Chunk) (chunk : Chunk) → AreCounted (front ++ chunk ∷ back) → AreCounted new → AreCounted (front ++ new)
counted-change [] back new chunk counted all = all
counted-change (c ∷ front) back new chunk counted all = (counted.0, counted-change front back new chunk counted.1 all)

pub counted-at : (cs : List Chunk) (i : ℕ) (chunk : Chunk) → slice_get cs i ≡ Some chunk → AreOrdered cs → chunk.count ≡ length (repeated chunk.entries.items)
counted-at cs i chunk at ordered = counted-around (take i cs) (drop (suc i) cs) chunk (subst AreCounted (parted cs i chunk at) ordered.counted)

pub rise-at : (cs : List Chunk) (i : ℕ) (chunk : Chunk) → slice_get cs i ≡ Some chunk → AreOrdered cs → Rise chunk.entries.items
rise-at cs i chunk at ordered =
    let all = subst Rise (entries-at cs i chunk at) ordered.rise in
    (rise-left (marked chunk) (entries_of (drop (suc i) cs)) (rise-right (entries_of (take i cs)) (marked chunk ++ entries_of (drop (suc i) cs)) all)).1

length-around : (xs ys zs : List (ℤ × ℕ)) → length (repeated ys) ≤ length (repeated (xs ++ (ys ++ zs)))
length-around xs ys zs =
    let outer = ap length (repeated-append xs (ys ++ zs)) ∙ length-append (repeated xs) (repeated (ys ++ zs)) in
    let inner = ap length (repeated-append ys zs) ∙ length-append (repeated ys) (repeated zs) in
    omega (arith, outer, inner)

pub length-at : (cs : List Chunk) (i : ℕ) (chunk : Chunk) → slice_get cs i ≡ Some chunk → length (repeated chunk.entries.items) ≤ length (repeated (entries_of cs))
length-at cs i chunk at =
    omega (arith, length-around (entries_of (take i cs)) (marked chunk) (entries_of (drop (suc i) cs)), ap (λ es. length (repeated es)) (entries-at cs i chunk at))

pub entry-within : (es : List (ℤ × ℕ)) (i : ℕ) (e : ℤ × ℕ) → slice_get es i ≡ Some e → e.1 ≤ length (repeated es)
entry-within [] i e at = cc
entry-within (x ∷ es) zero e at =
    let is : x ≡ e = cc at in
    omega (arith, ap (λ (y : ℤ × ℕ). y.1) is, length-append (replicate x.1 x.0) (repeated es), length-replicate x.1 x.0)
entry-within (x ∷ es) (suc i) e at =
    omega (arith, entry-within es i e at, length-append (replicate x.1 x.0) (repeated es))

-- ---- the place of a value among chunks

begins-next : (k : ℤ) (cs : List Chunk) (i : ℕ) (d : Chunk) → AreFrom k (entries_of cs) → i < length cs → k ≤ℤ (get_or cs i d).least
begins-next k [] i d all within = absurd (omega (arith, within))
begins-next k (c ∷ cs) zero d all within = all.0
begins-next k (c ∷ cs) (suc i) d all within = begins-next k cs i d (from-right k c.entries.items (entries_of cs) all.1) (omega (arith, within))

begins-rise : (cs : List Chunk) (i j : ℕ) (d : Chunk) → Rise (entries_of cs) → i ≤ j → j < length cs → (get_or cs i d).least ≤ℤ (get_or cs j d).least
begins-rise [] i j d rise le within = absurd (omega (arith, within))
begins-rise (c ∷ cs) zero zero d rise le within = le-self c.least
begins-rise (c ∷ cs) zero (suc j) d rise le within = begins-next c.least cs j d (from-right c.least c.entries.items (entries_of cs) rise.0) (omega (arith, within))
begins-rise (c ∷ cs) (suc i) zero d rise le within = absurd (omega (arith, le))
begins-rise (c ∷ cs) (suc i) (suc j) d rise le within = begins-rise cs i j d (rise-right (marked c) (entries_of cs) rise) (omega (arith, le)) (omega (arith, within))

le-shown : (a b : ℤ) → a ≤ℤ b → int_le a b ≡ true
le-shown a b le = grind (arith, ints)

pub partitioned : (value : ℤ) (cs : List Chunk) → AreOrdered cs → IsPartitionedBy (λ chunk. int_le chunk.least value) cs
partitioned value cs ordered = λ i j d le within passes.
    let up = begins-rise cs i j d ordered.rise le within in
    le-shown (get_or cs i d).least value (le-trans (get_or cs i d).least (get_or cs j d).least value up (le-tested (get_or cs j d).least value passes))

pub place-found : (value : ℤ) (cs : List Chunk) (n : ℕ) → IsPartitionPoint (λ chunk. int_le chunk.least value ≡ true) (λ chunk. int_le chunk.least value ≡ false) cs n → n ≤ length cs → 0 < n → IsPlace value cs (n - 1)
place-found value cs n point bound some = record {
  within = omega arith;
  begins = if_some-at (λ chunk. chunk.least ≤ℤ value) cs (n - 1) (λ d lt. le-tested (get_or cs (n - 1) d).least value (point.0 (n - 1) d (omega arith) (omega arith)));
  ends = if_some-at (λ chunk. value ≤ℤ chunk.least) cs (n - 1 + 1) (λ d lt. ge-tested (get_or cs (n - 1 + 1) d).least value (point.1 (n - 1 + 1) d (omega arith) lt));
}

-- the first begins at a lesser value
pub first-ordered : (value : ℤ) (cs : List Chunk) (first : Chunk) → slice_get cs 0 ≡ Some first → value ≤ℤ first.least → AreOrdered cs → AreOrdered (slice_set cs 0 (record { least = value; entries = first.entries; count = first.count }))
first-ordered value [] first at le ordered = cc
first-ordered value (c ∷ cs) first at le ordered =
    let is : c ≡ first = cc at in
    let same : AreOrdered (first ∷ cs) = subst (λ f. AreOrdered (f ∷ cs)) is ordered in
    record {
      rise = (from-lower value first.least (first.entries.items ++ entries_of cs) le same.rise.0, same.rise.1);
      counted = same.counted;
    }

pub first-place : (value : ℤ) (cs : List Chunk) (first : Chunk) → slice_get cs 0 ≡ Some first → value ≤ℤ first.least → AreOrdered cs → IsPlace value (slice_set cs 0 (record { least = value; entries = first.entries; count = first.count })) 0
first-place value [] first at le ordered = cc
first-place value (c ∷ cs) first at le ordered =
    let is : c ≡ first = cc at in
    let low : value ≤ℤ c.least = subst (λ f. value ≤ℤ f.least) (sym is) le in
    record {
      within = omega arith;
      begins = le-self value;
      ends = if_some-at (λ chunk. value ≤ℤ chunk.least) cs 0 (λ d lt. begins-next value cs 0 d (from-lower value c.least (entries_of cs) low (from-right c.least c.entries.items (entries_of cs) ordered.rise.0)) lt);
    }

pub first-above : (value : ℤ) (cs : List Chunk) (n : ℕ) (first : Chunk) → IsPartitionPoint (λ chunk. int_le chunk.least value ≡ true) (λ chunk. int_le chunk.least value ≡ false) cs n → n ≤ 0 → slice_get cs 0 ≡ Some first → value ≤ℤ first.least
first-above value [] n first point none at = cc
first-above value (c ∷ cs) n first point none at =
    let is : c ≡ first = cc at in
    subst (λ f. value ≤ℤ f.least) is (ge-tested c.least value (point.1 0 c (omega arith) (omega arith)))

-- ---- the walk to a rank

pub walk-here : (es : List (ℤ × ℕ)) (i left : ℕ) (d : ℤ × ℕ) → i < length es → 1 ≤ left → left ≤ (get_or es i d).1 → slice_get (repeated (drop i es)) (left - 1) ≡ Some (get_or es i d).0
walk-here es i left d within least here =
    let e = get_or es i d in
    ap (λ l. slice_get (repeated l) (left - 1)) (drop-cons es i d within) ∙ walked-here e.0 e.1 (drop (suc i) es) left least here

pub walk-past : (es : List (ℤ × ℕ)) (i left : ℕ) (d : ℤ × ℕ) → i < length es → (get_or es i d).1 < left → slice_get (repeated (drop i es)) (left - 1) ≡ slice_get (repeated (drop (i + 1) es)) (left - (get_or es i d).1 - 1)
walk-past es i left d within past =
    let e = get_or es i d in
    let next : suc i ≡ i + 1 = omega arith in
    ap (λ l. slice_get (repeated l) (left - 1)) (drop-cons es i d within)
    ∙ walked-past e.0 e.1 (drop (suc i) es) left past
    ∙ ap (λ k. slice_get (repeated (drop k es)) (left - e.1 - 1)) next

module _ {X : Type 0} where
  at-front : (xs ys : List X) (i : ℕ) → i < length xs → slice_get (xs ++ ys) i ≡ slice_get xs i
  at-front [] ys i within = absurd (omega (arith, within))
  at-front (x ∷ xs) ys zero within = refl
  at-front (x ∷ xs) ys (suc i) within = at-front xs ys i (omega (arith, within))

  at-back : (xs ys : List X) (i : ℕ) → length xs ≤ i → slice_get (xs ++ ys) i ≡ slice_get ys (i - length xs)
  at-back [] ys i past = ap (slice_get ys) (omega arith)
  at-back (x ∷ xs) ys zero past = absurd (omega (arith, past))
  at-back (x ∷ xs) ys (suc i) past =
      let step : i - length xs ≡ suc i - suc (length xs) = omega arith in
      at-back xs ys i (omega (arith, past)) ∙ ap (slice_get ys) step

  drop-at : (xs : List X) (i : ℕ) (x : X) → slice_get xs i ≡ Some x → drop i xs ≡ x ∷ drop (suc i) xs
  drop-at [] i x at = cc
  drop-at (y ∷ xs) zero x at = let is : y ≡ x = cc at in ap (λ z. z ∷ xs) is
  drop-at (y ∷ xs) (suc i) x at = drop-at xs i x at

values-at : (cs : List Chunk) (i : ℕ) (chunk : Chunk) → slice_get cs i ≡ Some chunk → repeated (entries_of (drop i cs)) ≡ repeated chunk.entries.items ++ repeated (entries_of (drop (suc i) cs))
values-at cs i chunk at =
    ap (λ l. repeated (entries_of l)) (drop-at cs i chunk at) ∙ repeated-append chunk.entries.items (entries_of (drop (suc i) cs))

pub chunk-here : (cs : List Chunk) (i left : ℕ) (chunk : Chunk) → slice_get cs i ≡ Some chunk → AreOrdered cs → 1 ≤ left → left ≤ chunk.count → slice_get (repeated (entries_of (drop i cs))) (left - 1) ≡ slice_get (repeated chunk.entries.items) (left - 1)
chunk-here cs i left chunk at ordered least here =
    ap (λ vs. slice_get vs (left - 1)) (values-at cs i chunk at)
    ∙ at-front (repeated chunk.entries.items) (repeated (entries_of (drop (suc i) cs))) (left - 1) (omega (arith, counted-at cs i chunk at ordered))

pub chunk-past : (cs : List Chunk) (i left : ℕ) (chunk : Chunk) → slice_get cs i ≡ Some chunk → AreOrdered cs → chunk.count < left → slice_get (repeated (entries_of (drop i cs))) (left - 1) ≡ slice_get (repeated (entries_of (drop (i + 1) cs))) (left - chunk.count - 1)
chunk-past cs i left chunk at ordered past =
    let count = counted-at cs i chunk at ordered in
    let next : suc i ≡ i + 1 = omega arith in
    let rest : left - 1 - length (repeated chunk.entries.items) ≡ left - chunk.count - 1 = omega (arith, count) in
    ap (λ vs. slice_get vs (left - 1)) (values-at cs i chunk at)
    ∙ at-back (repeated chunk.entries.items) (repeated (entries_of (drop (suc i) cs))) (left - 1) (omega (arith, count))
    ∙ (λ j. slice_get (repeated (entries_of (drop (next j) cs))) (rest j))

-- ---- a chunk whose value is raised

-- the new chunk stands where one stood
set-ordered : (cs : List Chunk) (i : ℕ) (chunk new : Chunk) → slice_get cs i ≡ Some chunk → AreOrdered cs → Rise (entries_of (slice_set cs i new)) → new.count ≡ length (repeated new.entries.items) → AreOrdered (slice_set cs i new)
set-ordered cs i chunk new at ordered rise own =
    let counted = subst AreCounted (parted cs i chunk at) ordered.counted in
    let behind = counted-behind (take i cs) (drop (suc i) cs) chunk counted in
    record {
      rise = rise;
      counted = subst AreCounted (sym (parted-set cs i chunk new at)) (counted-change (take i cs) (drop (suc i) cs) (new ∷ drop (suc i) cs) chunk counted (own, behind));
    }

from-behind : (value : ℤ) (back : List Chunk) → Rise (entries_of back) → IfSome (slice_get back 0) (λ chunk. value ≤ℤ chunk.least) → AreFrom value (entries_of back)
from-behind value [] rise ends = tt
from-behind value (c ∷ back) rise ends = (ends, from-lower value c.least (c.entries.items ++ entries_of back) ends rise.0)

get-behind : (cs : List Chunk) (i : ℕ) → slice_get cs (i + 1) ≡ slice_get (drop (suc i) cs) 0
get-behind cs i =
    let next : i + 1 ≡ suc i = omega arith in
    ap (slice_get cs) next ∙ by cs (suc i)
  where
    by : (xs : List Chunk) (k : ℕ) → slice_get xs k ≡ slice_get (drop k xs) 0
    by xs zero = refl
    by [] (suc k) = refl
    by (x ∷ xs) (suc k) = by xs k

pub raised-chunk : (value : ℤ) (count : ℕ) (cs : List Chunk) (i : ℕ) (chunk new : Chunk) → slice_get cs i ≡ Some chunk → AreOrdered cs → IsPlace value cs i → new.least ≡ chunk.least → IsRaised value count chunk.entries.items new.entries.items
    → IsRaised value count (entries_of cs) (entries_of (slice_set cs i new))
raised-chunk value count cs i chunk new at ordered place same raised =
    let before = entries_of (take i cs) in
    let behind = entries_of (drop (suc i) cs) in
    let rise = subst Rise (entries-at cs i chunk at) ordered.rise in
    let begins : chunk.least ≤ℤ value = subst (λ o. IfSome o (λ c. c.least ≤ℤ value)) at place.begins in
    let low : AreUpTo value before = up_to-higher chunk.least value before begins (up_to-before chunk.least 0 before (chunk.entries.items ++ behind) rise) in
    let rest : Rise behind = rise-right (marked chunk) behind (rise-right before (marked chunk ++ behind) rise) in
    let high : AreFrom value behind = from-behind value (drop (suc i) cs) rest (subst (λ o. IfSome o (λ c. value ≤ℤ c.least)) (get-behind cs i) place.ends) in
    let own : IsRaised value count (marked chunk) ((chunk.least, 0) ∷ new.entries.items) = raised-left value count ((chunk.least, 0) ∷ []) chunk.entries.items new.entries.items (begins, tt) raised in
    let all = raised-left value count before (marked chunk ++ behind) (((chunk.least, 0) ∷ new.entries.items) ++ behind) low (raised-right value count (marked chunk) ((chunk.least, 0) ∷ new.entries.items) behind high own) in
    let new_is : entries_of (slice_set cs i new) ≡ before ++ (((chunk.least, 0) ∷ new.entries.items) ++ behind) = entries-set cs i chunk new at ∙ ap (λ k. before ++ (((k, 0) ∷ new.entries.items) ++ behind)) same in
    subst (λ es. IsRaised value count es (entries_of (slice_set cs i new))) (sym (entries-at cs i chunk at))
    (subst (IsRaised value count (before ++ (marked chunk ++ behind))) (sym new_is) all)

pub raised-length : (value : ℤ) (count : ℕ) (old new : List (ℤ × ℕ)) → IsRaised value count old new → length (repeated new) ≡ length (repeated old) + count
raised-length value count old new raised = length-put value count old new (λ v. raised-copies v value count old new raised)

pub raised-ordered : (value : ℤ) (count : ℕ) (cs : List Chunk) (i : ℕ) (chunk new : Chunk) → slice_get cs i ≡ Some chunk → AreOrdered cs → IsPlace value cs i → new.least ≡ chunk.least → IsRaised value count chunk.entries.items new.entries.items
    → new.count ≡ chunk.count + count → AreOrdered (slice_set cs i new)
raised-ordered value count cs i chunk new at ordered place same raised sum =
    set-ordered cs i chunk new at ordered
    (raised-rise value count (entries_of cs) (entries_of (slice_set cs i new)) (raised-chunk value count cs i chunk new at ordered place same raised) ordered.rise)
    (omega (arith, sum, counted-at cs i chunk at ordered, raised-length value count chunk.entries.items new.entries.items raised))

-- a chunk with the same entries stands where one stood
pub same-entries : (cs : List Chunk) (i : ℕ) (chunk new : Chunk) → slice_get cs i ≡ Some chunk → new.least ≡ chunk.least → new.entries.items ≡ chunk.entries.items → entries_of (slice_set cs i new) ≡ entries_of cs
same-entries cs i chunk new at least items =
    entries-set cs i chunk new at
    ∙ (λ j. entries_of (take i cs) ++ (((least j, 0) ∷ items j) ++ entries_of (drop (suc i) cs)))
    ∙ sym (entries-at cs i chunk at)

pub same-ordered : (cs : List Chunk) (i : ℕ) (chunk new : Chunk) → slice_get cs i ≡ Some chunk → AreOrdered cs → new.least ≡ chunk.least → new.entries.items ≡ chunk.entries.items → new.count ≡ chunk.count → AreOrdered (slice_set cs i new)
same-ordered cs i chunk new at ordered least items count =
    set-ordered cs i chunk new at ordered (subst Rise (sym (same-entries cs i chunk new at least items)) ordered.rise)
    (count ∙ counted-at cs i chunk at ordered ∙ ap (λ es. length (repeated es)) (sym items))

-- ---- a chunk that is split

pub length-halves : (half : ℕ) (es : List (ℤ × ℕ)) → length (repeated (take half es)) + length (repeated (drop half es)) ≡ length (repeated es)
length-halves half es =
    sym (length-append (repeated (take half es)) (repeated (drop half es)))
    ∙ ap length (sym (repeated-append (take half es) (drop half es)))
    ∙ ap (λ l. length (repeated l)) (take-append-drop half es)

-- where a chunk begins
rise-begin : (k : ℤ) (n : ℕ) (xs ys zs : List (ℤ × ℕ)) → slice_get ys 0 ≡ Some (k, n) → Rise (xs ++ (ys ++ zs)) → Rise (xs ++ (k, 0) ∷ (ys ++ zs))
rise-begin k n xs [] zs at rise = cc
rise-begin k n xs (y ∷ ys) zs at rise =
    let is : y ≡ (k, n) = cc at in
    let here : Rise (xs ++ (k, n) ∷ (ys ++ zs)) = subst (λ e. Rise (xs ++ e ∷ (ys ++ zs))) is rise in
    let more : Rise (xs ++ (k, 0) ∷ (k, n) ∷ (ys ++ zs)) = rise-insert k 0 xs ((k, n) ∷ (ys ++ zs)) (up_to-before k n xs (ys ++ zs) here) (le-self k, (rise-right xs ((k, n) ∷ (ys ++ zs)) here).0) here in
    subst (λ e. Rise (xs ++ (k, 0) ∷ e ∷ (ys ++ zs))) (sym is) more

module _ (k : ℤ) (n : ℕ) (cs : List Chunk) (i half : ℕ) (chunk below above : Chunk) (at : slice_get cs i ≡ Some chunk) (low : IsChunkOf chunk.least (take half chunk.entries.items) below) (high : IsChunkOf k (drop half chunk.entries.items) above) where
  abbrev front : List (ℤ × ℕ)
  front = entries_of (take i cs) ++ ((chunk.least, 0) ∷ take half chunk.entries.items)

  abbrev back : List (ℤ × ℕ)
  back = drop half chunk.entries.items ++ entries_of (drop (suc i) cs)

  split-is : slice_set (insert cs (i + 1) above) i below ≡ take i cs ++ below ∷ above ∷ drop (suc i) cs
  split-is = let next : i + 1 ≡ suc i = omega arith in ap (λ m. slice_set (insert cs m above) i below) next ∙ parted-split cs i chunk above below at

  entries-split : entries_of (slice_set (insert cs (i + 1) above) i below) ≡ front ++ (k, 0) ∷ back
  entries-split =
      ap entries_of split-is
      ∙ entries-around (take i cs) (above ∷ drop (suc i) cs) below
      ∙ (λ j. entries_of (take i cs) ++ (((low.least j, 0) ∷ low.entries j) ++ (((high.least j, 0) ∷ high.entries j) ++ entries_of (drop (suc i) cs))))
      ∙ sym (append_assoc (entries_of (take i cs)) ((chunk.least, 0) ∷ take half chunk.entries.items) ((k, 0) ∷ back))

  entries-whole : entries_of cs ≡ front ++ back
  entries-whole =
      entries-at cs i chunk at
      ∙ (λ j. entries_of (take i cs) ++ ((chunk.least, 0) ∷ (sym (take-append-drop half chunk.entries.items) j ++ entries_of (drop (suc i) cs))))
      ∙ ap (λ es. entries_of (take i cs) ++ ((chunk.least, 0) ∷ es)) (append_assoc (take half chunk.entries.items) (drop half chunk.entries.items) (entries_of (drop (suc i) cs)))
      ∙ sym (append_assoc (entries_of (take i cs)) ((chunk.least, 0) ∷ take half chunk.entries.items) back)

  pub split-same : repeated (entries_of (slice_set (insert cs (i + 1) above) i below)) ≡ repeated (entries_of cs)
  split-same =
      ap repeated entries-split
      ∙ repeated-append front ((k, 0) ∷ back)
      ∙ sym (repeated-append front back)
      ∙ ap repeated (sym entries-whole)

  pub split-ordered : slice_get (drop half chunk.entries.items) 0 ≡ Some (k, n) → AreOrdered cs → AreOrdered (slice_set (insert cs (i + 1) above) i below)
  split-ordered first ordered =
      let counted = subst AreCounted (parted cs i chunk at) ordered.counted in
      let behind = counted-behind (take i cs) (drop (suc i) cs) chunk counted in
      let below_own = low.count ∙ ap (λ es. length (repeated es)) (sym low.entries) in
      let above_own = high.count ∙ ap (λ es. length (repeated es)) (sym high.entries) in
      record {
        rise = subst Rise (sym entries-split) (rise-begin k n front (drop half chunk.entries.items) (entries_of (drop (suc i) cs)) first (subst Rise entries-whole ordered.rise));
        counted = subst AreCounted (sym split-is) (counted-change (take i cs) (drop (suc i) cs) (below ∷ above ∷ drop (suc i) cs) chunk counted (below_own, (above_own, behind)));
      }

-- ---- in order, the values stand as they would be put in order

at_most_from : (k : ℤ) (es : List (ℤ × ℕ)) → AreFrom k es → AtMostFirst k (repeated es)
at_most_from k [] all = tt
at_most_from k ((l, zero) ∷ es) all = at_most_from k es all.1
at_most_from k ((l, suc n) ∷ es) all = not-less l k all.0

pub ascending-risen : (es : List (ℤ × ℕ)) → Rise es → ascending (repeated es) ≡ repeated es
ascending-risen [] rise = refl
ascending-risen (e ∷ es) rise =
    ascending-copies e.0 e.1 (repeated es) (at_most_from e.0 es rise.0) (ascending-risen es rise.1)

-- ---- all entries added one after another

pub copies-next : (v : ℤ) (es : List (ℤ × ℕ)) (i : ℕ) (d : ℤ × ℕ) → i < length es → copies v (take (i + 1) es) ≡ copies v (take i es) + cond (int_eq v (get_or es i d).0) (get_or es i d).1 0
copies-next v es i d within =
    let e = get_or es i d in
    let none : copies v [] ≡ 0 = refl in
    omega (arith, ap (copies v) (take_more es i d within), copies-around v e.0 e.1 (take i es) [], none)

pub length-next : (es : List (ℤ × ℕ)) (i : ℕ) (d : ℤ × ℕ) → i < length es → length (repeated (take i es)) + (get_or es i d).1 ≤ length (repeated es)
length-next es i d within =
    let e = get_or es i d in
    omega (arith, length-flat_map-take (λ (e : ℤ × ℕ). replicate e.1 e.0) es i d within, length-replicate e.1 e.0)

pub copies-next_chunk : (v : ℤ) (cs : List Chunk) (i : ℕ) (chunk : Chunk) → chunk ≡ get_or cs i chunk → i < length cs → copies v (entries_of (take (i + 1) cs)) ≡ copies v (entries_of (take i cs)) + copies v chunk.entries.items
copies-next_chunk v cs i chunk own within =
    ap (λ l. copies v (entries_of l)) (take_more cs i chunk within ∙ ap (λ c. take i cs ++ c ∷ []) (sym own))
    ∙ ap (copies v) (entries-around (take i cs) [] chunk ∙ ap (λ es. entries_of (take i cs) ++ es) (append-nil (marked chunk)))
    ∙ copies-append v (entries_of (take i cs)) (marked chunk)

pub length-next_chunk : (cs : List Chunk) (i : ℕ) (chunk : Chunk) → slice_get cs i ≡ Some chunk → length (repeated (entries_of (take i cs))) + length (repeated chunk.entries.items) ≤ length (repeated (entries_of cs))
length-next_chunk cs i chunk at =
    let behind = entries_of (drop (suc i) cs) in
    let outer = ap length (repeated-append (entries_of (take i cs)) (marked chunk ++ behind)) ∙ length-append (repeated (entries_of (take i cs))) (repeated (marked chunk ++ behind)) in
    let inner = ap length (repeated-append chunk.entries.items behind) ∙ length-append (repeated chunk.entries.items) (repeated behind) in
    omega (arith, ap (λ es. length (repeated es)) (entries-at cs i chunk at), outer, inner)

-- ---- quantiles

pub quantile-at : (q count : ℕ) (chunks : List Chunk) (values : List ℤ) → HasValues count chunks → ascending (repeated (entries_of chunks)) ≡ values
    → option_map of_billionths (slice_get (repeated (entries_of chunks)) (rank q count - 1)) ≡ option_map of_billionths (nearest_rank q values)
quantile-at q count chunks values has view =
    let vs = repeated (entries_of chunks) in
    ap (λ n. option_map of_billionths (slice_get vs (rank q n - 1))) has.counted
    ∙ ap (λ vs. option_map of_billionths (slice_get vs (rank q (length (repeated (entries_of chunks))) - 1))) (sym (ascending-risen (entries_of chunks) has.ordered.rise))
    ∙ ap (option_map of_billionths) (sym (nearest_rank-ascending q vs))
    ∙ ap (λ vs. option_map of_billionths (nearest_rank q vs)) view
