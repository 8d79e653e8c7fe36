-- The steps of fitting all bags.
use Rattle.std.proofs.Common.{◌≡◌, ℕ, Bool, suc, List, [], ◌∷◌, ◌++◌, map, length, slice_get, Option, Some, refl, sym, ap, ◌∙◌, subst, append_assoc, append-nil}
use Rattle.std.specs.Option.{unwrap_or}
use Rattle.std.specs.Map.{values_of}
use Rattle.metrics_core.proofs.Lists.{AllZip-push}
use Rattle.indexmap.specs.Layout.{set_value_at}
use Rattle.value_bags.specs.declared.bag.BagForm.{BagForm}
use Rattle.value_bags.specs.Bags.{fitted}
use Rattle.value_bags.specs.Entries.{with_keys}
use Rattle.evmap_contents.specs.declared.write.Write.TheVariants.{FitAll}
use Rattle.evmap_contents.specs.Fold.{after}
use Rattle.evmap_contents.specs.Fitting.{AreFitted, fit_entry}

-- how far the first loop has come: these bags are done
pub record IsDone {V : Type 0} (all rest : List (BagForm V)) (shorts : List (Option (BagForm V))) : Type 0 where
  pub done : List (BagForm V)
  pub whole : all ≡ done ++ rest
  pub fits : AreFitted done shorts

pub one_more : {V : Type 0} (all rest : List (BagForm V)) (shorts : List (Option (BagForm V))) (b : BagForm V) (left : List (BagForm V)) (s : Option (BagForm V)) → IsDone all rest shorts → rest ≡ b ∷ left → unwrap_or s b ≡ fitted b → IsDone all left (shorts ++ s ∷ [])
one_more all rest shorts b left s h step is = record {
  done = h.done ++ b ∷ [];
  whole = h.whole ∙ ap (λ l. h.done ++ l) step ∙ sym (append_assoc h.done (b ∷ []) left);
  fits = AllZip-push (λ bag short. unwrap_or short bag ≡ fitted bag) h.done shorts b s h.fits is;
}

-- how far the second loop has come: the bags behind `front` are fitted
pub record IsFittedBehind {K V : Type 0} (was now : List (K × BagForm V)) (shorts : List (Option (BagForm V))) : Type 0 where
  pub front : List (K × BagForm V)
  pub back : List (K × BagForm V)
  pub whole : was ≡ front ++ back
  pub after : now ≡ front ++ map fit_entry back
  pub fits : AreFitted (values_of front) shorts

module _ {K V : Type 0} where
  slice_get-seam : (xs : List (K × BagForm V)) (e : K × BagForm V) (ys : List (K × BagForm V)) → slice_get (values_of (xs ++ e ∷ ys)) (length xs) ≡ Some e.1
  slice_get-seam [] e ys = refl
  slice_get-seam (x ∷ xs) e ys = slice_get-seam xs e ys

  set_value_at-seam : (xs : List (K × BagForm V)) (e : K × BagForm V) (ys : List (K × BagForm V)) (w : BagForm V) → set_value_at (xs ++ e ∷ ys) (length xs) w ≡ xs ++ (e.0, w) ∷ ys
  set_value_at-seam [] e ys w = refl
  set_value_at-seam (x ∷ xs) e ys w = ap (λ l. x ∷ l) (set_value_at-seam xs e ys w)

  -- the last of the entries that are still to be fitted
  record Last (es : List (K × BagForm V)) (ys : List (Option (BagForm V))) (y : Option (BagForm V)) : Type 0 where
    others : List (K × BagForm V)
    entry : K × BagForm V
    whole : es ≡ others ++ entry ∷ []
    same : length others ≡ length ys
    fits : AreFitted (values_of others) ys
    stands : unwrap_or y entry.1 ≡ fitted entry.1

  last_of : (es : List (K × BagForm V)) (ys : List (Option (BagForm V))) (y : Option (BagForm V)) → AreFitted (values_of es) (ys ++ y ∷ []) → Last es ys y
  last_of [] [] y h = absurd h
  last_of [] (b ∷ ys) y h = absurd h
  last_of (e ∷ []) [] y h = record { others = []; entry = e; whole = refl; same = refl; fits = tt; stands = h.0 }
  last_of (e ∷ d ∷ es) [] y h = absurd h.1
  last_of (e ∷ es) (b ∷ ys) y h =
      let r = last_of es ys y h.1 in
      record { others = e ∷ r.others; entry = r.entry; whole = ap (λ l. e ∷ l) r.whole; same = ap suc r.same; fits = (h.0, r.fits); stands = r.stands }

  -- one turn of the second loop
  pub record Turn (was now : List (K × BagForm V)) (shorts : List (Option (BagForm V))) (i : ℕ) (s : Option (BagForm V)) : Type 0 where
    pub bag : BagForm V
    pub there : slice_get (values_of now) i ≡ Some bag
    pub stands : unwrap_or s bag ≡ fitted bag
    pub put : (w : BagForm V) → w ≡ fitted bag → IsFittedBehind was (set_value_at now i w) shorts

  pub turn : (was now : List (K × BagForm V)) (all shorts : List (Option (BagForm V))) (i : ℕ) (s : Option (BagForm V)) → IsFittedBehind was now all → all ≡ shorts ++ s ∷ [] → i ≡ length shorts → Turn was now shorts i s
  turn was now all shorts i s h split at =
      let l = last_of h.front shorts s (subst (AreFitted (values_of h.front)) split h.fits) in
      let seam : now ≡ l.others ++ l.entry ∷ map fit_entry h.back = h.after ∙ ap (λ f. f ++ map fit_entry h.back) l.whole ∙ append_assoc l.others (l.entry ∷ []) (map fit_entry h.back) in
      let place : i ≡ length l.others = at ∙ sym l.same in
      record {
        bag = l.entry.1;
        there = (λ j. slice_get (values_of (seam j)) (place j)) ∙ slice_get-seam l.others l.entry (map fit_entry h.back);
        stands = l.stands;
        put = λ w is. record {
          front = l.others;
          back = l.entry ∷ h.back;
          whole = h.whole ∙ ap (λ f. f ++ h.back) l.whole ∙ append_assoc l.others (l.entry ∷ []) h.back;
          after = (λ j. set_value_at (seam j) (place j) w) ∙ set_value_at-seam l.others l.entry (map fit_entry h.back) w ∙ ap (λ b. l.others ++ (l.entry.0, b) ∷ map fit_entry h.back) is;
          fits = l.fits;
        };
      }

  -- nothing is left to be fitted
  pub all_fitted : (was now : List (K × BagForm V)) (shorts : List (Option (BagForm V))) → IsFittedBehind was now shorts → shorts ≡ [] → now ≡ map fit_entry was
  all_fitted was now shorts h none = by h.front (subst (AreFitted (values_of h.front)) none h.fits) h.whole h.after
    where
      by : (front : List (K × BagForm V)) → AreFitted (values_of front) [] → was ≡ front ++ h.back → now ≡ front ++ map fit_entry h.back → now ≡ map fit_entry was
      by [] f whole after = after ∙ ap (map fit_entry) (sym whole)
      by (e ∷ front) f whole after = absurd f

  pub starts_whole : (es : List (K × BagForm V)) (shorts : List (Option (BagForm V))) → AreFitted (values_of es) shorts → IsFittedBehind es es shorts
  starts_whole es shorts h = record { front = es; back = []; whole = sym (append-nil es); after = sym (append-nil es); fits = h }

fit-with_keys : {K L V : Type 0} (plain : K → L) (es : List (K × BagForm V)) → with_keys plain (map fit_entry es) ≡ map fit_entry (with_keys plain es)
fit-with_keys plain [] = refl
fit-with_keys plain (e ∷ es) = ap (λ l. (plain e.0, fitted e.1) ∷ l) (fit-with_keys plain es)

-- fitting all bags is the write that says so
pub contents-fitted : {K L V M P : Type 0} (plain : K → L) (same : L → L → Bool) (eq : V → V → Bool) (keeps : P → V → Bool) (es new : List (K × BagForm V)) (m : M) (r : Bool) → new ≡ map fit_entry es
    → record { entries = with_keys plain new; meta = m; ready = r } ≡ after same eq keeps (record { entries = with_keys plain es; meta = m; ready = r }) FitAll
contents-fitted plain same eq keeps es new m r is = λ j. record { entries = (ap (with_keys plain) is ∙ fit-with_keys plain es) j; meta = m; ready = r }
