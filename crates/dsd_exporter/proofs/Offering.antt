-- Values that are handed to a reservoir one after the other.
use Rattle.std.proofs.Common.{◌≡◌, ℕ, zero, suc, take, replicate, slice_index_or, ◌+◌, ◌-◌, ◌*◌, ◌/◌, ◌<◌, ◌≤◌, Bool, true, false, cond, List, [], ◌∷◌, ◌++◌, length, drop, Option, refl, sym, ap, subst, ◌∙◌, arith}
use Rattle.std.specs.Prelude.{nat_lt, nat_le, min, max, pos}
use Rattle.std.proofs.lemmas.Bool.{ltb-true, ltb-false, leb-true}
use Rattle.std.proofs.Math.Nat.{div-eq_of_lt}
use Rattle.std.proofs.lemmas.List.{append-nil, take_more, replicate-append-replicate}
use Rattle.std.proofs.lemmas.Grind.{flat_map-append}
use Rattle.sample_queue.specs.declared.calls.SampleEntry.{SampleEntry}
use Rattle.dsd_exporter.specs.Samples.{samples_in}
use Rattle.metrics_core.specs.declared.numbers.Fixed.{Fixed as FixedOf}
use Rattle.metrics_core.specs.Numbers.{one as billionths}
use Rattle.metrics_core.specs.Words.{Draws}
use Rattle.metrics_registry.specs.Reservoirs.{ReservoirText, empty_reservoir, with_kept, with_sampled, with_values, first_word, sample_rate}
use Rattle.dsd_exporter.specs.Flushing.{Offers, IsSample}

abbrev pub Beside : Type 0
Beside = ReservoirText × Option (ℕ → ℕ)

pub offers_then : (p q r : Beside) (a b : List FixedOf) → Offers p a q → Offers q b r → Offers p (a ++ b) r
offers_then p q r [] b first then = subst (λ x. Offers x b r) (sym first) then
offers_then p q r (v ∷ a) b first then = (first.0, first.1, offers_then first.0 q r a b first.2 then)

-- what a reservoir has then
pub record Offered (p : Beside) (values : List FixedOf) (q : Beside) : Type 0 where
  pub words : List ℕ
  pub drawn : Draws p.1 words q.1
  pub many : length words ≡ length values - (p.0.size - p.0.count)
  pub kept : (more : List ℕ) → q.0 ≡ with_values p.0 (words ++ more) values
  pub size : q.0.size ≡ p.0.size
  pub count : q.0.count ≡ min (p.0.count + length values) 18446744073709551615

pub offered : (p q : Beside) (values : List FixedOf) → p.0.size ≤ 4294967295 → p.0.count ≤ 18446744073709551615 → Offers p values q → Offered p values q
offered p q [] short few is = record {
  words = [];
  drawn = sym (ap (λ (x : Beside). x.1) is);
  many = omega arith;
  kept = λ more. ap (λ (x : Beside). x.0) (sym is);
  size = ap (λ (x : Beside). x.0.size) (sym is);
  count = (let same : q.0.count ≡ p.0.count = ap (λ (x : Beside). x.0.count) (sym is) in omega (arith, same, few));
}
offered p q (v ∷ vs) short few offers = by (nat_lt p.0.count p.0.size) refl (λ a b. offered offers.0 q vs a b offers.2)
  where
    by : (b : Bool) → nat_lt p.0.count p.0.size ≡ b → (offers.0.0.size ≤ 4294967295 → offers.0.0.count ≤ 18446744073709551615 → Offered offers.0 vs q) → Offered p (v ∷ vs) q
    by true lt rest =
        let below = ltb-true p.0.count p.0.size lt in
        let k = offers.1.0 below in
        let size : offers.0.0.size ≡ p.0.size = ap (λ (r : ReservoirText). r.size) k.0 in
        let count : offers.0.0.count ≡ min (p.0.count + 1) 18446744073709551615 = ap (λ (r : ReservoirText). r.count) k.0 in
        let next = rest (omega (arith, size, short)) (omega (arith, count)) in
        record {
          words = next.words;
          drawn = subst (λ t. Draws t next.words q.1) k.1 next.drawn;
          many = (let more = next.many in omega (arith, more, size, count, below, short));
          kept = λ more.
              next.kept more ∙ ap (λ r. with_values r (next.words ++ more) vs) k.0
              ∙ (λ i. with_values (cond (sym lt i) (with_kept p.0 v) (with_sampled p.0 (first_word (next.words ++ more)) v)) (drop (cond (sym lt i) 0 1) (next.words ++ more)) vs);
          size = next.size ∙ size;
          count = (let more = next.count in omega (arith, more, count, few));
        }
    by false lt rest =
        let above = ltb-false p.0.count p.0.size lt in
        let k = offers.1.1 above in
        let size : offers.0.0.size ≡ p.0.size = ap (λ (r : ReservoirText). r.size) k.2 in
        let count : offers.0.0.count ≡ min (p.0.count + 1) 18446744073709551615 = ap (λ (r : ReservoirText). r.count) k.2 in
        let next = rest (omega (arith, size, short)) (omega (arith, count)) in
        record {
          words = k.0 ∷ next.words;
          drawn = (offers.0.1, k.1, next.drawn);
          many = (let more = next.many in omega (arith, more, size, count, above, short));
          kept = λ more.
              next.kept more ∙ ap (λ r. with_values r (next.words ++ more) vs) k.2
              ∙ (λ i. with_values (cond (sym lt i) (with_kept p.0 v) (with_sampled p.0 k.0 v)) (drop (cond (sym lt i) 0 1) (k.0 ∷ (next.words ++ more))) vs);
          size = next.size ∙ size;
          count = (let more = next.count in omega (arith, more, count, few));
        }

-- past 64 bits the rate of a sample stays at its least
passes : (n size : ℕ) → size < n → nat_le n size ≡ false
passes n size h = by (nat_le n size) refl
  where
    by : (b : Bool) → nat_le n size ≡ b → nat_le n size ≡ false
    by true e = absurd (let le = leb-true n size e in omega (arith, h, le))
    by false e = e

rate_same : (size n : ℕ) → size ≤ 4294967295 → sample_rate size (min (0 + n) 18446744073709551615) ≡ sample_rate size n
rate_same size n short = by (nat_lt 18446744073709551615 n) refl
  where
    by : (b : Bool) → nat_lt 18446744073709551615 n ≡ b → sample_rate size (min (0 + n) 18446744073709551615) ≡ sample_rate size n
    by false e = (let within = ltb-false 18446744073709551615 n e in ap (sample_rate size) (omega (arith, within)))
    by true e =
        let past = ltb-true 18446744073709551615 n e in
        let most : min (0 + n) 18446744073709551615 ≡ 18446744073709551615 = omega (arith, past) in
        let none_most : size * billionths / 18446744073709551615 ≡ 0 = div-eq_of_lt (omega (arith, short)) in
        let none_n : size * billionths / n ≡ 0 = div-eq_of_lt (omega (arith, short, past)) in
        ap (sample_rate size) most
        ∙ (λ j. record { 0 = cond (passes 18446744073709551615 size (omega (arith, short)) j) (pos billionths) (pos (max 1 (none_most j))) })
        ∙ (λ j. record { 0 = cond (sym (passes n size (omega (arith, short, past))) j) (pos billionths) (pos (max 1 (sym none_n j))) })

pub is_sample : (size : ℕ) (samples : List FixedOf) (kept : ReservoirText) (to_come left : Option (ℕ → ℕ)) → size ≤ 4294967295 → Offers (empty_reservoir size, to_come) samples (kept, left) → IsSample size samples kept to_come left
is_sample size samples kept to_come left short offers =
    let made = offered (empty_reservoir size, to_come) (kept, left) samples short (omega arith) offers in
    record {
      words = made.words;
      drawn = made.drawn;
      many = (let many = made.many in omega (arith, many));
      rate = (λ j. sample_rate (made.size j) (made.count j)) ∙ rate_same size (length samples) short;
      values = λ more. ap (λ (r : ReservoirText). r.values) (made.kept more);
    }

-- ---- entries and their samples

pub replicate_more : (n : ℕ) (value : FixedOf) → replicate n value ++ value ∷ [] ≡ replicate (n + 1) value
replicate_more n value = replicate-append-replicate n 1 value

pub samples_more : (es : List (SampleEntry FixedOf)) (i : ℕ) (e : SampleEntry FixedOf) → i < length es → samples_in (take i es) ++ replicate (slice_index_or es i e).count (slice_index_or es i e).item ≡ samples_in (take (i + 1) es)
samples_more es i e here =
    let x = slice_index_or es i e in
    sym (ap samples_in (take_more es i e here)
    ∙ flat_map-append (λ (y : SampleEntry FixedOf). replicate y.count y.item) (take i es) (x ∷ [])
    ∙ ap (λ l. samples_in (take i es) ++ l) (append-nil (replicate x.count x.item)))

pub take_whole : {X : Type 0} (xs : List X) (n : ℕ) → length xs ≤ n → take n xs ≡ xs
take_whole [] zero h = refl
take_whole [] (suc n) h = refl
take_whole (x ∷ xs) zero h = absurd (omega (arith, h))
take_whole (x ∷ xs) (suc n) h = ap (λ l. x ∷ l) (take_whole xs n (omega (arith, h)))
