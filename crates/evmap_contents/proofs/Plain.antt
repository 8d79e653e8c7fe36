-- The fold with forms and the fold of plain lists, write by write.
use Rattle.std.proofs.Common.{◌≡◌, ℕ, ◌+◌, ◌-◌, suc, zero, Bool, true, false, cond, List, [], ◌∷◌, ◌++◌, length, map, take, get_or, set, filter, fold, count_by, slice_get, position, Option, Some, None, refl, sym, ap, ◌∙◌, subst}
use Rattle.std.specs.List.{AllZip, swap_remove}
use Rattle.std.specs.Option.{option_map_or}
use Rattle.std.specs.Map.{keys_of}
use Rattle.std.specs.Cmp.{IsEquivalence}
use Rattle.std.proofs.lemmas.List.Sums.{sum_by_push}
use Rattle.indexmap.specs.IndexMap.{swap_remove_entry}
use Rattle.value_bags.specs.declared.bag.BagForm.{BagForm}
use Rattle.value_bags.specs.declared.bag.BagForm.TheVariants.{Short}
use Rattle.value_bags.specs.Entries.{change, alter}
use Rattle.value_bags.specs.Bags.{pushed, removed, cleared, retained, fitted, reserved, roomy, without_first, times, IsProperBag}
use Rattle.value_bags.proofs.Times as bags
use Rattle.evmap_contents.specs.declared.write.Write.{Write}
use Rattle.evmap_contents.specs.declared.write.Write.TheVariants.{Insert, Update, Clear, RemoveValue, RemoveEntry, Purge, Retain, Fit, FitAll, Reserve, RemovePlaces, SetMeta, Ready}
use Rattle.evmap_contents.specs.declared.write.Contents.{Contents}
use Rattle.evmap_contents.specs.Fold.{entries_after, after, after_all, made_with, without_place}
use Rattle.evmap_contents.specs.PlainFold.{plain_after, plain_after_all, HoldAlike}

-- lists whose items are tied in pairs
module _ {A B : Type 0} (R : A → B → Type 0) where
  pick : (b : Bool) (xs xs' : List A) (ys ys' : List B) → AllZip R xs ys → AllZip R xs' ys' → AllZip R (cond b xs xs') (cond b ys ys')
  pick true xs xs' ys ys' h h' = h
  pick false xs xs' ys ys' h h' = h'

  pick-left : (b : Bool) (xs xs' : List A) (ys : List B) → AllZip R xs ys → AllZip R xs' ys → AllZip R (cond b xs xs') ys
  pick-left true xs xs' ys h h' = h
  pick-left false xs xs' ys h h' = h'

  zip-length : (xs : List A) (ys : List B) → AllZip R xs ys → length xs ≡ length ys
  zip-length [] [] h = refl
  zip-length (x ∷ xs) (y ∷ ys) h = ap suc (zip-length xs ys h.1)
  zip-length [] (y ∷ ys) h = absurd h
  zip-length (x ∷ xs) [] h = absurd h

  zip-set : (xs : List A) (ys : List B) (i : ℕ) (x : A) (y : B) → AllZip R xs ys → R x y → AllZip R (set xs i x) (set ys i y)
  zip-set [] [] i x y h r = tt
  zip-set (a ∷ xs) (b ∷ ys) zero x y h r = (r, h.1)
  zip-set (a ∷ xs) (b ∷ ys) (suc i) x y h r = (h.0, zip-set xs ys i x y h.1 r)
  zip-set [] (b ∷ ys) i x y h r = absurd h
  zip-set (a ∷ xs) [] i x y h r = absurd h

  zip-take : (n : ℕ) (xs : List A) (ys : List B) → AllZip R xs ys → AllZip R (take n xs) (take n ys)
  zip-take zero xs ys h = tt
  zip-take (suc n) [] [] h = tt
  zip-take (suc n) (a ∷ xs) (b ∷ ys) h = (h.0, zip-take n xs ys h.1)
  zip-take (suc n) [] (b ∷ ys) h = absurd h
  zip-take (suc n) (a ∷ xs) [] h = absurd h

  zip-get : (xs : List A) (ys : List B) (i : ℕ) (x : A) (y : B) → AllZip R xs ys → R x y → R (get_or xs i x) (get_or ys i y)
  zip-get [] [] i x y h r = r
  zip-get (a ∷ xs) (b ∷ ys) zero x y h r = h.0
  zip-get (a ∷ xs) (b ∷ ys) (suc i) x y h r = zip-get xs ys i x y h.1 r
  zip-get [] (b ∷ ys) i x y h r = absurd h
  zip-get (a ∷ xs) [] i x y h r = absurd h

  zip-swap_remove : (xs : List A) (ys : List B) (i : ℕ) (x : A) (y : B) → AllZip R xs ys → R x y → AllZip R (swap_remove xs i x) (swap_remove ys i y)
  zip-swap_remove xs ys i x y h r =
      subst (λ n. AllZip R (swap_remove xs i x) (take (n - 1) (set ys i (get_or ys (n - 1) y)))) (zip-length xs ys h)
      (zip-take (length xs - 1) (set xs i (get_or xs (length xs - 1) x)) (set ys i (get_or ys (length xs - 1) y))
      (zip-set xs ys i (get_or xs (length xs - 1) x) (get_or ys (length xs - 1) y) h (zip-get xs ys (length xs - 1) x y h r)))

  -- what is at a place of both
  AreBoth : Option A → Option B → Type 0
  AreBoth (Some x) (Some y) = R x y
  AreBoth None None = Unit {0}
  AreBoth (Some x) None = ⊥
  AreBoth None (Some y) = ⊥

  zip-slice_get : (xs : List A) (ys : List B) (i : ℕ) → AllZip R xs ys → AreBoth (slice_get xs i) (slice_get ys i)
  unfolding AreBoth
  zip-slice_get [] [] i h = tt
  zip-slice_get (a ∷ xs) (b ∷ ys) zero h = h.0
  zip-slice_get (a ∷ xs) (b ∷ ys) (suc i) h = zip-slice_get xs ys i h.1
  zip-slice_get [] (b ∷ ys) i h = absurd h
  zip-slice_get (a ∷ xs) [] i h = absurd h

  zip-without_place : (xs : List A) (ys : List B) (i : ℕ) → AllZip R xs ys → AllZip R (without_place xs i) (without_place ys i)
  unfolding AreBoth
  zip-without_place xs ys i h = by (slice_get xs i) (slice_get ys i) (zip-slice_get xs ys i h)
    where
      by : (o : Option A) (p : Option B) → AreBoth o p → AllZip R (option_map_or (λ x. swap_remove xs i x) o xs) (option_map_or (λ y. swap_remove ys i y) p ys)
      by (Some x) (Some y) r = zip-swap_remove xs ys i x y h r
      by None None r = h
      by (Some x) None r = absurd r
      by None (Some y) r = absurd r

  zip-without_places : (places : List ℕ) (xs : List A) (ys : List B) → AllZip R xs ys → AllZip R (fold without_place xs places) (fold without_place ys places)
  zip-without_places [] xs ys h = h
  zip-without_places (i ∷ places) xs ys h = zip-without_places places (without_place xs i) (without_place ys i) (zip-without_place xs ys i h)

module _ {V : Type 0} (eq : V → V → Bool) where
  -- a change of a bag and of its list
  abbrev pub Follows : (BagForm V → BagForm V) → (List V → List V) → Type 0
  Follows f g = (b : BagForm V) (vs : List V) → IsProperBag eq b → ((v : V) → times eq b v ≡ count_by (eq v) vs) → IsProperBag eq (f b) × ((v : V) → times eq (f b) v ≡ count_by (eq v) (g vs))

module _ {K V : Type 0} (eq : V → V → Bool) where
  -- the same key, a bag as it should be, and each value as often in the bag as in the list
  abbrev pub Tied : K × BagForm V → K × List V → Type 0
  Tied e p = (e.0 ≡ p.0) × (IsProperBag eq e.1) × ((v : V) → times eq e.1 v ≡ count_by (eq v) p.1)

  same_keys : (es : List (K × BagForm V)) (ps : List (K × List V)) → AllZip Tied es ps → keys_of es ≡ keys_of ps
  same_keys [] [] h = refl
  same_keys (e ∷ es) (p ∷ ps) h = λ j. h.0.0 j ∷ same_keys es ps h.1 j
  same_keys [] (p ∷ ps) h = absurd h
  same_keys (e ∷ es) [] h = absurd h

  tied-entry : (test : K → Bool) (es : List (K × BagForm V)) (ps : List (K × List V)) → AllZip Tied es ps → AllZip Tied (swap_remove_entry test es) (swap_remove_entry test ps)
  tied-entry test [] [] h = tt
  tied-entry test (e ∷ es) (p ∷ ps) h =
      subst (λ ks. AllZip Tied (swap_remove_entry test (e ∷ es)) (option_map_or (λ i. swap_remove (p ∷ ps) i p) (position test ks) (p ∷ ps))) (same_keys (e ∷ es) (p ∷ ps) h)
      (by (position test (keys_of (e ∷ es))))
    where
      by : (o : Option ℕ) → AllZip Tied (option_map_or (λ i. swap_remove (e ∷ es) i e) o (e ∷ es)) (option_map_or (λ i. swap_remove (p ∷ ps) i p) o (p ∷ ps))
      by None = h
      by (Some i) = zip-swap_remove Tied (e ∷ es) (p ∷ ps) i e p h h.0
  tied-entry test [] (p ∷ ps) h = absurd h
  tied-entry test (e ∷ es) [] h = absurd h

  module _ (f : BagForm V → BagForm V) (g : List V → List V) (step : Follows eq f g) (test : K → Bool) where
    one : (e : K × BagForm V) (p : K × List V) → Tied e p → Tied (e.0, f e.1) (p.0, g p.1)
    one e p h = let s = step e.1 p.1 h.1 h.2 in (h.0, s.0, s.1)

    tied-change : (k : K) (made : BagForm V) (list : List V) → Tied (k, made) (k, list) → (es : List (K × BagForm V)) (ps : List (K × List V)) → AllZip Tied es ps → AllZip Tied (change test k f made es) (change test k g list ps)
    tied-change k made list new [] [] h = (new, tt)
    tied-change k made list new (e ∷ es) (p ∷ ps) h =
        subst (λ t. AllZip Tied (change test k f made (e ∷ es)) (cond t ((p.0, g p.1) ∷ ps) (p ∷ change test k g list ps))) (ap test h.0.0)
        (pick Tied (test e.0) ((e.0, f e.1) ∷ es) (e ∷ change test k f made es) ((p.0, g p.1) ∷ ps) (p ∷ change test k g list ps) (one e p h.0, h.1) (h.0, tied-change k made list new es ps h.1))
    tied-change k made list new [] (p ∷ ps) h = absurd h
    tied-change k made list new (e ∷ es) [] h = absurd h

    tied-alter : (es : List (K × BagForm V)) (ps : List (K × List V)) → AllZip Tied es ps → AllZip Tied (alter test f es) (alter test g ps)
    tied-alter [] [] h = tt
    tied-alter (e ∷ es) (p ∷ ps) h =
        subst (λ t. AllZip Tied (alter test f (e ∷ es)) (cond t ((p.0, g p.1) ∷ ps) (p ∷ alter test g ps))) (ap test h.0.0)
        (pick Tied (test e.0) ((e.0, f e.1) ∷ es) (e ∷ alter test f es) ((p.0, g p.1) ∷ ps) (p ∷ alter test g ps) (one e p h.0, h.1) (h.0, tied-alter es ps h.1))
    tied-alter [] (p ∷ ps) h = absurd h
    tied-alter (e ∷ es) [] h = absurd h

  module _ (f : BagForm V → BagForm V) (step : Follows eq f (λ vs. vs)) where
    tied-left : (test : K → Bool) (es : List (K × BagForm V)) (ps : List (K × List V)) → AllZip Tied es ps → AllZip Tied (alter test f es) ps
    tied-left test [] [] h = tt
    tied-left test (e ∷ es) (p ∷ ps) h =
        pick-left Tied (test e.0) ((e.0, f e.1) ∷ es) (e ∷ alter test f es) (p ∷ ps) ((h.0.0, (step e.1 p.1 h.0.1 h.0.2).0, (step e.1 p.1 h.0.1 h.0.2).1), h.1) (h.0, tied-left test es ps h.1)
    tied-left test [] (p ∷ ps) h = absurd h
    tied-left test (e ∷ es) [] h = absurd h

    tied-all : (es : List (K × BagForm V)) (ps : List (K × List V)) → AllZip Tied es ps → AllZip Tied (map (λ e. (e.0, f e.1)) es) ps
    tied-all [] [] h = tt
    tied-all (e ∷ es) (p ∷ ps) h = ((h.0.0, (step e.1 p.1 h.0.1 h.0.2).0, (step e.1 p.1 h.0.1 h.0.2).1), tied-all es ps h.1)
    tied-all [] (p ∷ ps) h = absurd h
    tied-all (e ∷ es) [] h = absurd h

  forgets : (es : List (K × BagForm V)) (ps : List (K × List V)) → AllZip Tied es ps → HoldAlike eq es ps
  forgets [] [] h = tt
  forgets (e ∷ es) (p ∷ ps) h = ((h.0.0, h.0.2), forgets es ps h.1)
  forgets [] (p ∷ ps) h = absurd h
  forgets (e ∷ es) [] h = absurd h

fits : {V : Type 0} (eq : V → V → Bool) → IsEquivalence eq → Follows eq fitted (λ vs. vs)
fits eq laws b vs h t = (bags.proper-fitted eq laws b h, λ w. bags.times-fitted eq laws b w h ∙ t w)

module _ {K V M P : Type 0} (same : K → K → Bool) (eq : V → V → Bool) (keeps : P → V → Bool) (laws : IsEquivalence eq) (kept : (p : P) (a b : V) → eq a b ≡ true → keeps p a ≡ keeps p b) where
  -- one write
  step : (w : Write K V M P) (es : List (K × BagForm V)) (ps : List (K × List V)) → AllZip (Tied eq) es ps → AllZip (Tied eq) (entries_after same eq keeps es w) (plain_after same eq keeps ps w)
  step (Insert k v) es ps h =
      tied-change eq (λ b. pushed eq b v) (λ vs. vs ++ v ∷ []) (λ b vs p t. (bags.proper-pushed eq laws b v p, λ w. bags.times-pushed eq laws b v w ∙ ap (λ n. n + cond (eq w v) 1 0) (t w) ∙ sym (sum_by_push (λ (y : V). cond (eq w y) 1 0) vs v)))
      (same k) k (Short (v ∷ [])) (v ∷ []) (refl, tt, λ w. refl) es ps h
  step (Update k v) es ps h = tied-change eq (λ _. Short (v ∷ [])) (λ _. v ∷ []) (λ b vs p t. (tt, λ w. refl)) (same k) k (Short (v ∷ [])) (v ∷ []) (refl, tt, λ w. refl) es ps h
  step (Clear k) es ps h = tied-change eq cleared (λ _. []) (λ b vs p t. (bags.proper-cleared eq laws b, λ w. bags.times-cleared eq laws b w)) (same k) k (Short []) [] (refl, tt, λ w. refl) es ps h
  step (RemoveValue k v) es ps h =
      tied-alter eq (λ b. removed eq b v) (without_first (eq v))
      (λ b vs p t. (bags.proper-removed eq laws b v p, λ w. bags.times-removed eq laws b v w p ∙ ap (λ n. n - cond (eq w v) 1 0) (t w) ∙ sym (bags.times-without_first eq laws vs v w))) (same k) es ps h
  step (RemoveEntry k) es ps h = tied-entry eq (same k) es ps h
  step Purge es ps h = tt
  step (Retain k p) es ps h =
      tied-alter eq (retained (keeps p)) (filter (keeps p))
      (λ b vs q t. (bags.proper-retained eq laws (keeps p) b q, λ w. bags.times-retained eq laws (keeps p) (kept p) b w ∙ ap (λ n. cond (keeps p w) n 0) (t w) ∙ sym (bags.count-filter eq laws (keeps p) (kept p) vs w))) (same k) es ps h
  step (Fit k) es ps h = tied-left eq fitted (fits eq laws) (same k) es ps h
  step FitAll es ps h = tied-all eq fitted (fits eq laws) es ps h
  step (Reserve k n) es ps h =
      tied-change eq (reserved eq n) (λ vs. vs) (λ b vs p t. (bags.proper-reserved eq laws n b p, λ w. bags.times-reserved eq laws n b w ∙ t w)) (same k) k (roomy n) [] (refl, bags.proper-roomy eq laws n, bags.times-roomy eq laws n) es ps h
  step (RemovePlaces places) es ps h = zip-without_places (Tied eq) places es ps h
  step (SetMeta m) es ps h = h
  step Ready es ps h = h

  steps : (ws : List (Write K V M P)) (c : Contents K V M) (ps : List (K × List V)) → AllZip (Tied eq) c.entries ps → AllZip (Tied eq) (after_all same eq keeps c ws).entries (fold (plain_after same eq keeps) ps ws)
  steps [] c ps h = h
  steps (w ∷ ws) c ps h = steps ws (after same eq keeps c w) (plain_after same eq keeps ps w) (step w c.entries ps h)

  -- after any list of writes
  pub holds_alike : (m : M) (ws : List (Write K V M P)) → HoldAlike eq (after_all same eq keeps (made_with m) ws).entries (plain_after_all same eq keeps ws)
  holds_alike m ws = forgets eq (after_all same eq keeps (made_with m) ws).entries (plain_after_all same eq keeps ws) (steps ws (made_with m) [] tt)
