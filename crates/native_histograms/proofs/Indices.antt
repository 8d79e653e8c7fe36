-- The bucket of a magnitude at one schema lower is that with its index halved upwards.
use Rattle.std.proofs.Common.{◌≡◌, ℕ, zero, suc, ◌+◌, ◌-◌, ◌*◌, ◌/◌, ◌^◌, ◌<◌, ◌≤◌, Bool, true, false, cond, map, Some, None, refl, sym, ap, subst, ◌∙◌, inl, inr, arith}
use Rattle.std.specs.Prelude.{ℤ, pos, negsuc, ◌+ℤ◌, ◌-ℤ◌, ◌≤ℤ◌, ◌<ℤ◌, nat_le, find, unwrap_or, Option}
use Rattle.std.specs.List.{range_with_len}
use Rattle.std.proofs.lemmas.Bool.{leb-true, le-leb, cases_lt, false≢true}
use Rattle.std.proofs.lemmas.Int.{ints, by_lt_z}
use Rattle.std.proofs.lemmas.Nat.{pow-add, pow_pos}
use Rattle.std.proofs.Math.Pow.{pow_mono}
use Rattle.std.proofs.Math.Nat.{pow-suc, mul_assoc, mul_comm, mul-one, mul-le-mul_left, mul-le-mul_right, le_of_mul-le-mul_right}
use Rattle.metrics_core.specs.Numbers.{one}
use Rattle.native_histograms.specs.Native.{is_within, indices, index_of}
use Rattle.native_histograms.specs.Placed.{half_up, IsIndex}

-- ---- two of an index

abbrev pub double : ℤ → ℤ
double (pos j) = pos (2 * j)
double (negsuc j) = negsuc (2 * j + 1)

double-sum : (j : ℤ) → double j ≡ j +ℤ j
double-sum (pos j) = omega (arith, ints)
double-sum (negsuc j) = omega (arith, ints)

half_up-bounds : (j : ℤ) → (j ≤ℤ double (half_up j)) × (double (half_up j) ≤ℤ (j +ℤ pos 1))
half_up-bounds j = (omega (arith, ints, double-sum (half_up j), (by j).0), omega (arith, ints, double-sum (half_up j), (by j).1))
  where
    by : (i : ℤ) → (i ≤ℤ (half_up i +ℤ half_up i)) × ((half_up i +ℤ half_up i) ≤ℤ (i +ℤ pos 1))
    by (pos i) = (omega (arith, ints), omega (arith, ints))
    by (negsuc i) = (omega (arith, ints), omega (arith, ints))

exponent : (j d : ℕ) → j * 2 ^ suc d ≡ (2 * j) * 2 ^ d
exponent j d = ap (λ p. j * p) (pow-suc 2 d ∙ mul_comm (2 ^ d) 2) ∙ sym (mul_assoc j 2 (2 ^ d)) ∙ ap (λ x. x * 2 ^ d) (mul_comm j 2)

within-double : (d m : ℕ) (j : ℤ) → is_within (suc d) m j ≡ is_within d m (double j)
within-double d m (pos j) = ap (λ e. nat_le m (one * 2 ^ e)) (exponent j d)
within-double d m (negsuc j) = ap (λ e. nat_le (m * 2 ^ e) one) (exponent (j + 1) d ∙ ap (λ x. x * 2 ^ d) (omega arith))

-- ---- a greater index is within too

at_most : (m x y : ℕ) → nat_le m x ≡ true → x ≤ y → nat_le m y ≡ true
at_most m x y h le = let l : m ≤ x = leb-true m x h in le-leb m y (omega arith)

at_least : (l m x : ℕ) → nat_le m x ≡ true → l ≤ m → nat_le l x ≡ true
at_least l m x h le = let n : m ≤ x = leb-true m x h in le-leb l x (omega arith)

times_power : (m e : ℕ) → m ≤ m * 2 ^ e
times_power m e =
    let p : 1 ≤ 2 ^ e = let q = pow_pos e in omega arith in
    let r : m * 1 ≤ m * 2 ^ e = mul-le-mul_left m p in
    omega (arith, mul-one m)

power_more : (m i j d : ℕ) → i ≤ j → m * 2 ^ (i * 2 ^ d) ≤ m * 2 ^ (j * 2 ^ d)
power_more m i j d le = mul-le-mul_left m (pow_mono (mul-le-mul_right (2 ^ d) le))

within-more : (d m : ℕ) (j i : ℤ) → is_within d m j ≡ true → j ≤ℤ i → is_within d m i ≡ true
within-more d m (pos j) (pos i) h le = at_most m (one * 2 ^ (j * 2 ^ d)) (one * 2 ^ (i * 2 ^ d)) h (power_more one j i d (omega (arith, ints)))
within-more d m (pos j) (negsuc i) h le = absurd (omega (arith, ints))
within-more d m (negsuc j) (pos i) h le =
    at_most m one (one * 2 ^ (i * 2 ^ d)) (at_least m (m * 2 ^ ((j + 1) * 2 ^ d)) one h (times_power m ((j + 1) * 2 ^ d))) (times_power one (i * 2 ^ d))
within-more d m (negsuc j) (negsuc i) h le =
    at_least (m * 2 ^ ((i + 1) * 2 ^ d)) (m * 2 ^ ((j + 1) * 2 ^ d)) one h (power_more m (i + 1) (j + 1) d (omega (arith, ints)))

-- ---- the least index

pub record IsLeast (d m : ℕ) (j : ℤ) : Type 0 where
  pub within : is_within d m j ≡ true
  pub least : (i : ℤ) → is_within d m i ≡ true → j ≤ℤ i

pub least-unique : {d m : ℕ} {i j : ℤ} → IsLeast d m i → IsLeast d m j → i ≡ j
least-unique {d} {m} {i} {j} a b = omega (arith, ints, a.least j b.within, b.least i a.within)

-- at one schema lower
pub least-halved : {d m : ℕ} {j : ℤ} → IsLeast d m j → IsLeast (suc d) m (half_up j)
least-halved {d} {m} {j} is = record {
  within = within-double d m (half_up j) ∙ within-more d m j (double (half_up j)) is.within (half_up-bounds j).0;
  least = λ i within. omega (arith, ints, (half_up-bounds j).1, is.least (double i) (sym (within-double d m i) ∙ within), double-sum i, double-sum (half_up j));
}

-- ---- the index found

abbrev pub place : ℕ → ℤ
place k = pos k -ℤ pos 29

record IsFirst (p : ℤ → Bool) (a n : ℕ) (x : ℤ) : Type 0 where
  within : p x ≡ true
  least : (k : ℕ) → a ≤ k → p (place k) ≡ true → x ≤ℤ place k
  found : (k : ℕ) × (k ≤ a + n) × (x ≡ place k)

first_here : (p : ℤ → Bool) (a n : ℕ) → p (place a) ≡ true → IsFirst p a n (place a)
first_here p a n h = record { within = h; least = λ k le within. omega (arith, ints); found = (a, omega arith, refl) }

first_later : (p : ℤ → Bool) (a n : ℕ) (x : ℤ) → p (place a) ≡ false → IsFirst p (a + 1) n x → IsFirst p a (suc n) x
first_later p a n x apart is = record { within = is.within; least = by; found = (is.found.0, let h : is.found.0 ≤ a + 1 + n = is.found.1 in omega arith, is.found.2) }
  where
    by : (k : ℕ) → a ≤ k → p (place k) ≡ true → x ≤ℤ place k
    by k le within = elim (cases_lt a k) [
      | inl lt ↦ is.least k (omega arith) within
      | inr ge ↦ absurd (false≢true (sym apart ∙ ap (λ q. p (place q)) (omega arith) ∙ within))
    ]

first_from : (p : ℤ → Bool) (a n : ℕ) (rest : Option ℤ) (b : Bool) → p (place a) ≡ b → (p (place a) ≡ false → IsFirst p (a + 1) n (unwrap_or rest (pos 0)))
    → IsFirst p a (suc n) (unwrap_or (cond b (Some (place a)) rest) (pos 0))
first_from p a n rest true is later = first_here p a (suc n) is
first_from p a n rest false is later = first_later p a n (unwrap_or rest (pos 0)) is (later is)

first_last : (p : ℤ → Bool) (a : ℕ) (b : Bool) → p (place a) ≡ b → p (place a) ≡ true → IsFirst p a zero (unwrap_or (cond b (Some (place a)) None) (pos 0))
first_last p a true is h = first_here p a zero h
first_last p a false is h = absurd (false≢true (sym is ∙ h))

first : (p : ℤ → Bool) (a n : ℕ) → p (place (a + n)) ≡ true → IsFirst p a n (unwrap_or (find p (map place (range_with_len a (suc n)))) (pos 0))
first p a zero h = first_last p a (p (place a)) refl (ap (λ q. p (place q)) (omega arith) ∙ h)
first p a (suc n) h =
    first_from p a n (find p (map place (range_with_len (a + 1) (suc n)))) (p (place a)) refl (λ _. first p (a + 1) n (ap (λ q. p (place q)) (omega arith) ∙ h))

first_index : (d m : ℕ) → m ≤ 2 ^ 63 → IsFirst (is_within d m) 0 63 (index_of d m)
unfolding index_of indices
first_index d m most = first (is_within d m) 0 63 (le-leb m (one * 2 ^ (34 * 2 ^ d)) (omega (arith, most, top)))
  where
    least_power : 1 ≤ 2 ^ d
    least_power = let q = pow_pos d in omega arith

    top : one * 2 ^ 34 ≤ one * 2 ^ (34 * 2 ^ d)
    top = mul-le-mul_left one (pow_mono {i = 34} {j = 34 * 2 ^ d} (omega (arith, least_power)))

under_all : (d m i : ℕ) → 1 ≤ m → 29 ≤ i → is_within d m (negsuc i) ≡ true → ⊥
under_all d m i least under within =
    let power : 1 ≤ 2 ^ d = let q = pow_pos d in omega arith in
    let most : m * 2 ^ ((i + 1) * 2 ^ d) ≤ one = leb-true (m * 2 ^ ((i + 1) * 2 ^ d)) one within in
    let step : (i + 1) * 1 ≤ (i + 1) * 2 ^ d = mul-le-mul_left (i + 1) power in
    let steps : 30 ≤ (i + 1) * 2 ^ d = omega arith in
    let large : 2 ^ 30 ≤ 2 ^ ((i + 1) * 2 ^ d) = pow_mono steps in
    let once : 1 * 2 ^ ((i + 1) * 2 ^ d) ≤ m * 2 ^ ((i + 1) * 2 ^ d) = mul-le-mul_right (2 ^ ((i + 1) * 2 ^ d)) least in
    omega arith

pub least-index_of : (d m : ℕ) → 1 ≤ m → m ≤ 2 ^ 63 → IsLeast d m (index_of d m)
least-index_of d m least most = record { within = (first_index d m most).within; least = by }
  where
    by : (i : ℤ) → is_within d m i ≡ true → index_of d m ≤ℤ i
    by (pos i) within =
        let same : place (i + 29) ≡ pos i = omega (arith, ints) in
        omega (arith, ints, same, (first_index d m most).least (i + 29) (omega arith) (ap (is_within d m) same ∙ within))
    by (negsuc i) within = elim (cases_lt i 29) [
      | inl lt ↦
          let same : place (28 - i) ≡ negsuc i = omega (arith, ints) in
          omega (arith, ints, same, (first_index d m most).least (28 - i) (omega arith) (ap (is_within d m) same ∙ within))
      | inr ge ↦ absurd (under_all d m i least ge within)
    ]

pub IsIndex-index_of : (d m : ℕ) → m ≤ 2 ^ 63 → IsIndex (index_of d m)
IsIndex-index_of d m most = let found = (first_index d m most).found in (found.0, let h = found.1 in omega arith, found.2)

pub index_of-halved : (d m : ℕ) → 1 ≤ m → m ≤ 2 ^ 63 → index_of (suc d) m ≡ half_up (index_of d m)
index_of-halved d m least most = least-unique (least-index_of (suc d) m least most) (least-halved (least-index_of d m least most))

pub IsIndex-half_up : (i : ℤ) → IsIndex i → IsIndex (half_up i)
IsIndex-half_up (pos j) is = let h : is.0 < 64 = is.1 in let same : pos j ≡ place is.0 = is.2 in ((j + 1) / 2 + 29, omega (arith, ints), omega (arith, ints))
IsIndex-half_up (negsuc j) is = let h : is.0 < 64 = is.1 in let same : negsuc j ≡ place is.0 = is.2 in (29 - (j + 1) / 2, omega (arith, ints), omega (arith, ints))

-- ---- the search at depth 0

within_from_start : (m k : ℕ) → m * 2 ^ 29 ≤ one * 2 ^ k → is_within 0 m (place k) ≡ true
within_from_start m k le = elim (cases_lt k 29) [
  | inl lt ↦
      let same : place k ≡ negsuc (28 - k) = omega (arith, ints) in
      let sum : 29 ≡ (28 - k + 1) * 1 + k = omega arith in
      let powers : 2 ^ 29 ≡ 2 ^ ((28 - k + 1) * 1) * 2 ^ k = ap (λ e. 2 ^ e) sum ∙ pow-add 2 ((28 - k + 1) * 1) k in
      let more : m * 2 ^ ((28 - k + 1) * 1) * 2 ^ k ≤ one * 2 ^ k = subst (λ x. x ≤ one * 2 ^ k) (ap (λ p. m * p) powers ∙ sym (mul_assoc m (2 ^ ((28 - k + 1) * 1)) (2 ^ k))) le in
      ap (is_within 0 m) same ∙ le-leb (m * 2 ^ ((28 - k + 1) * 1)) one (le_of_mul-le-mul_right more (pow_pos k))
  | inr ge ↦
      let same : place k ≡ pos (k - 29) = omega (arith, ints) in
      let sum : k ≡ 29 + (k - 29) * 1 = omega arith in
      let powers : 2 ^ k ≡ 2 ^ 29 * 2 ^ ((k - 29) * 1) = ap (λ e. 2 ^ e) sum ∙ pow-add 2 29 ((k - 29) * 1) in
      ap (is_within 0 m) same ∙ le-leb m (one * 2 ^ ((k - 29) * 1)) (omega arith)
]

within_to_start : (m k : ℕ) → is_within 0 m (place k) ≡ true → m * 2 ^ 29 ≤ one * 2 ^ k
within_to_start m k within = elim (cases_lt k 29) [
  | inl lt ↦
      let same : place k ≡ negsuc (28 - k) = omega (arith, ints) in
      let sum : 29 ≡ (28 - k + 1) * 1 + k = omega arith in
      let powers : 2 ^ 29 ≡ 2 ^ ((28 - k + 1) * 1) * 2 ^ k = ap (λ e. 2 ^ e) sum ∙ pow-add 2 ((28 - k + 1) * 1) k in
      let less : m * 2 ^ ((28 - k + 1) * 1) ≤ one = leb-true (m * 2 ^ ((28 - k + 1) * 1)) one (sym (ap (is_within 0 m) same) ∙ within) in
      subst (λ x. x ≤ one * 2 ^ k) (sym (ap (λ p. m * p) powers ∙ sym (mul_assoc m (2 ^ ((28 - k + 1) * 1)) (2 ^ k)))) (mul-le-mul_right (2 ^ k) less)
  | inr ge ↦
      let same : place k ≡ pos (k - 29) = omega (arith, ints) in
      let sum : k ≡ 29 + (k - 29) * 1 = omega arith in
      let powers : 2 ^ k ≡ 2 ^ 29 * 2 ^ ((k - 29) * 1) = ap (λ e. 2 ^ e) sum ∙ pow-add 2 29 ((k - 29) * 1) in
      let less : m ≤ one * 2 ^ ((k - 29) * 1) = leb-true m (one * 2 ^ ((k - 29) * 1)) (sym (ap (is_within 0 m) same) ∙ within) in
      omega arith
]

-- the first place whose bound isn't under the magnitude
pub start_index : (m k : ℕ) → 1 ≤ m → m ≤ 2 ^ 63 → m * 2 ^ 29 ≤ one * 2 ^ k → ((j : ℕ) → suc j ≡ k → one * 2 ^ j < m * 2 ^ 29) → place k ≡ index_of 0 m
start_index m k least most within before = least-unique (record { within = within_from_start m k within; least = by }) (least-index_of 0 m least most)
  where
    under : (i : ℤ) → is_within 0 m i ≡ true → (j : ℕ) → j ≡ k → i <ℤ place j → ⊥
    under i here zero none lt = under_all 0 m 29 least (omega arith) (within-more 0 m i (negsuc 29) here (omega (arith, ints)))
    under i here (suc j) is lt =
        let small = before j is in
        let large : m * 2 ^ 29 ≤ one * 2 ^ j = within_to_start m j (within-more 0 m i (place j) here (omega (arith, ints))) in
        omega arith

    by : (i : ℤ) → is_within 0 m i ≡ true → place k ≤ℤ i
    by i here = by_lt_z i (place k) (λ lt. absurd (under i here k refl lt)) (λ le. le)
