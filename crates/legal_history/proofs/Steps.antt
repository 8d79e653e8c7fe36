-- Each step of a pass keeps the history legal.
use Rattle.std.proofs.Common.{◌≡◌, ◌≢◌, ℕ, zero, suc, ◌+◌, ◌<◌, ◌≤◌, ◌==◌, ◌⊎◌, Bool, true, false, List, [], ◌∷◌, ◌++◌, length, set, refl, sym, ap, ◌∙◌, subst, inl, inr, ⊎_elim, arith, eq-eqb, ne_eqb, length-append, true≢false}
use Rattle.std.proofs.Math.ListN.{length-set}
use Rattle.std.proofs.lemmas.List.{append-nil}
use Rattle.std.proofs.lemmas.Bool.{eqb-true}
use mathlib.Core.Option.{some, some-ne-none, some-injective}
use mathlib.Core.Logic.{dite}
use mathlib.Core.List.{IsPrefix}
use native.Mathlib.Decide.{ℕ_discrete}
use lib.ListN.{get_elem?}
use Rattle.atomic_table.proofs.Lists.{at_set, set_here, set_else, at_longer, at_last}
use Rattle.legal_history.specs.declared.history.Entry.{Entry}
use Rattle.legal_history.specs.declared.history.Held.{Held}
use Rattle.legal_history.specs.declared.history.View.{View}
use Rattle.legal_history.specs.History.{In, without, keep_unless, held, keep, calls_by, said, Among, Joined, numbers, Distinct, first, nobody, after, looked, lender, child, longer, taker, Fits, Returned, IsRoot, Owned, Legal, Settled, Sees}
use Rattle.legal_history.proofs.Prefixes.{prefix_self, prefix_trans}
use Rattle.legal_history.proofs.Lists.{calls_by-append, none_before, between}

pub some_below : {A : Type 0} (l : List A) (i : ℕ) (a : A) → get_elem? l i ≡ some a → i < length l
some_below [] i a e = absurd (some-ne-none a (sym e))
some_below (x ∷ xs) zero a e = omega arith
some_below (x ∷ xs) (suc i) a e = let h = some_below xs i a e in omega arith

pub one_at : {A : Type 0} (l : List A) (i : ℕ) (a b : A) → get_elem? l i ≡ some a → get_elem? l i ≡ some b → a ≡ b
one_at l i a b e f = some-injective a b (sym e ∙ f)

pub at_snoc_index : {A : Type 0} (l : List A) (a b : A) (j : ℕ) → get_elem? (l ++ a ∷ []) j ≡ some b → (get_elem? l j ≡ some b) ⊎ ((j ≡ length l) × (a ≡ b))
at_snoc_index [] a b zero e = inr (refl, some-injective a b e)
at_snoc_index [] a b (suc j) e = absurd (some-ne-none b (sym e))
at_snoc_index (x ∷ xs) a b zero e = inl e
at_snoc_index (x ∷ xs) a b (suc j) e = ⊎_elim (λ q. inl q) (λ (q : (j ≡ length xs) × (a ≡ b)). inr (ap suc q.0, q.1)) (at_snoc_index xs a b j e)

pub in_front : (t : ℕ) (xs ys : List ℕ) → In t xs → In t (xs ++ ys)
in_front t [] ys q = absurd q
in_front t (x ∷ xs) ys q = ⊎_elim (λ (e : t ≡ x). inl e) (λ (r : In t xs). inr (in_front t xs ys r)) q

pub in_last : (t : ℕ) (xs : List ℕ) → In t (xs ++ t ∷ [])
in_last t [] = inl refl
in_last t (x ∷ xs) = inr (in_last t xs)

in_kept : (b : Bool) (t k x : ℕ) (xs rest : List ℕ) → t ≢ k → (x == k) ≡ b → In t (x ∷ xs) → (In t xs → In t rest) → In t (keep_unless b x rest)
in_kept true t k x xs rest ne e q f = ⊎_elim (λ (z : t ≡ x). absurd (ne (z ∙ eqb-true x k e))) (λ (r : In t xs). f r) q
in_kept false t k x xs rest ne e q f = ⊎_elim (λ (z : t ≡ x). inl z) (λ (r : In t xs). inr (f r)) q

-- another number stays
pub in_without : (t k : ℕ) (xs : List ℕ) → t ≢ k → In t xs → In t (without k xs)
in_without t k [] ne q = absurd q
in_without t k (x ∷ xs) ne q = in_kept (x == k) t k x xs (without k xs) ne refl q (in_without t k xs ne)

without_kept : (b : Bool) (t k x : ℕ) (xs rest : List ℕ) → (x == k) ≡ b → (In t rest → (t ≢ k) × In t xs) → In t (keep_unless b x rest) → (t ≢ k) × In t (x ∷ xs)
without_kept true t k x xs rest e f q = let r = f q in (r.0, inr r.1)
without_kept false t k x xs rest e f q = ⊎_elim (λ (z : t ≡ x). ((λ (h : t ≡ k). true≢false (sym (eq-eqb x k (sym z ∙ h)) ∙ e)), inl z)) (λ (y : In t rest). let r = f y in (r.0, inr r.1)) q

pub without_is : (t k : ℕ) (xs : List ℕ) → In t (without k xs) → (t ≢ k) × In t xs
without_is t k [] q = absurd q
without_is t k (x ∷ xs) q = without_kept (x == k) t k x xs (without k xs) refl (without_is t k xs) q

pub in_snoc : (t : ℕ) (xs : List ℕ) (k : ℕ) → In t (xs ++ k ∷ []) → In t xs ⊎ (t ≡ k)
in_snoc t [] k q = ⊎_elim (λ (e : t ≡ k). inr e) (λ (f : ⊥). absurd f) q
in_snoc t (x ∷ xs) k q = ⊎_elim (λ (e : t ≡ x). inl (inl e)) (λ (r : In t (xs ++ k ∷ [])). ⊎_elim (λ (y : In t xs). inl (inr y)) (λ (z : t ≡ k). inr z) (in_snoc t xs k r)) q

pub empty_list : {A : Type 0} (xs : List A) → length xs ≡ 0 → xs ≡ []
empty_list [] e = refl
empty_list (x ∷ xs) e = absurd (omega arith)

pub distinct_last : (xs : List ℕ) (k : ℕ) → (In k xs → ⊥) → Distinct xs → Distinct (xs ++ k ∷ [])
distinct_last [] k far d = ((λ q. q), tt)
distinct_last (x ∷ xs) k far d =
    ((λ q. ⊎_elim (λ (r : In x xs). d.0 r) (λ (e : x ≡ k). far (inl (sym e))) (in_snoc x xs k q)), distinct_last xs k (λ q. far (inr q)) d.1)

-- a number that is not there is not taken away
without_absent : (k : ℕ) (xs : List ℕ) → (In k xs → ⊥) → without k xs ≡ xs
without_absent k [] far = refl
without_absent k (x ∷ xs) far = ap (λ b. keep_unless b x (without k xs)) (ne_eqb x k (λ e. far (inl (sym e)))) ∙ ap (λ l. x ∷ l) (without_absent k xs (λ q. far (inr q)))

without_length : (k : ℕ) (xs : List ℕ) → Distinct xs → In k xs → length (without k xs) + 1 ≡ length xs
without_length k [] d q = absurd q
without_length k (x ∷ xs) d q = dite (ℕ_discrete x k)
    (λ (e : x ≡ k). let f : length (without k (x ∷ xs)) ≡ length xs = ap (λ b. length (keep_unless b x (without k xs))) (eq-eqb x k e) ∙ ap length (without_absent k xs (subst (λ n. In n xs → ⊥) e d.0)) in omega arith)
    (λ (ne : ¬ (x ≡ k)).
    let f : length (without k (x ∷ xs)) ≡ length (x ∷ without k xs) = ap (λ b. length (keep_unless b x (without k xs))) (ne_eqb x k ne) in
    let r = without_length k xs d.1 (⊎_elim (λ (z : k ≡ x). absurd (ne (sym z))) (λ (y : In k xs). y) q) in omega arith)

distinct_kept : (b : Bool) (x : ℕ) (rest : List ℕ) → ¬ (In x rest) → Distinct rest → Distinct (keep_unless b x rest)
distinct_kept true x rest far d = d
distinct_kept false x rest far d = (far, d)

without_distinct : (k : ℕ) (xs : List ℕ) → Distinct xs → Distinct (without k xs)
without_distinct k [] d = tt
without_distinct k (x ∷ xs) d = distinct_kept (x == k) x (without k xs) (λ q. d.0 (without_is x k xs q).1) (without_distinct k xs d.1)

module _ {C : Type 0} where
  pub own_calls : (t : ℕ) (cs : List C) → calls_by t (said t cs) ≡ cs
  own_calls t [] = refl
  own_calls t (c ∷ cs) = ap (λ b. keep b c (calls_by t (said t cs))) (eq-eqb t t refl) ∙ ap (λ l. c ∷ l) (own_calls t cs)

  pub other_calls : (t by : ℕ) (cs : List C) → by ≢ t → calls_by t (said by cs) ≡ []
  other_calls t by [] ne = refl
  other_calls t by (c ∷ cs) ne = ap (λ b. keep b c (calls_by t (said by cs))) (ne_eqb by t ne) ∙ other_calls t by cs ne

  -- the calls of another pass stay
  pub others_stay : (log : List (Entry C)) (t by : ℕ) (cs : List C) → by ≢ t → calls_by t (log ++ said by cs) ≡ calls_by t log
  others_stay log t by cs ne = calls_by-append t log (said by cs) ∙ (ap (λ l. calls_by t log ++ l) (other_calls t by cs ne) ∙ append-nil (calls_by t log))

  pub own_grow : (log : List (Entry C)) (t : ℕ) (cs : List C) → calls_by t (log ++ said t cs) ≡ calls_by t log ++ cs
  own_grow log t cs = calls_by-append t log (said t cs) ∙ ap (λ l. calls_by t log ++ l) (own_calls t cs)

  -- a pass sees the history and then makes calls
  module _ (log : List (Entry C)) (views : List (View C)) (i : ℕ) (v : View C) (cs : List C) (k : Legal log views) (at : get_elem? views i ≡ some v) (live : v.live ≡ true) where
    fits : Fits log k.children i v
    fits = k.each i v at live

    now : List (Entry C)
    now = log ++ said v.number cs

    the_seat : (t : ℕ) → ¬ (i ≡ t) → v.number ≢ t
    the_seat t ne e = ne (sym fits.number ∙ e)

    own : calls_by i (log ++ said v.number cs) ≡ v.mine ++ cs
    own = ap (λ n. calls_by i (log ++ said n cs)) fits.number ∙ (own_grow log i cs ∙ ap (λ l. l ++ cs) fits.mine)

    length_is : length (set views i (after v log cs)) ≡ length views
    length_is = length-set views i (after v log cs)

    root_kept : (u : View C) → get_elem? (set views i (after v log cs)) 0 ≡ some u → IsRoot k.joined k.children (length (set views i (after v log cs))) u
    root_kept u e = ⊎_elim
        (λ (t : (0 ≡ i) × (after v log cs ≡ u)).
        let r = k.root v (subst (λ n. get_elem? views n ≡ some v) (sym t.0) at) in
        subst (IsRoot k.joined k.children (length (set views i (after v log cs)))) t.1
        (record {
          live = live;
          joined_is = r.joined_is;
          children_is = r.children_is;
          made_is = r.made_is ∙ sym length_is;
          out_is = r.out_is;
          back = λ h a. let b = r.back h a in record { begins = prefix_trans h.seen v.seen (log ++ said v.number cs) b.begins (prefix_trans v.seen log (log ++ said v.number cs) fits.seen (said v.number cs, refl)); told = b.told };
        }))
        (λ (t : (0 ≢ i) × (get_elem? views 0 ≡ some u)).
        let r = k.root u t.1 in
        record { live = r.live; joined_is = r.joined_is; children_is = r.children_is; made_is = r.made_is ∙ sym length_is; out_is = r.out_is; back = r.back })
        (at_set views i 0 (after v log cs) u e)

    each_kept : (j : ℕ) (u : View C) → get_elem? (set views i (after v log cs)) j ≡ some u → u.live ≡ true → Fits (log ++ said v.number cs) k.children j u
    each_kept j u e alive = ⊎_elim
        (λ (t : (j ≡ i) × (after v log cs ≡ u)).
        subst (λ (p : ℕ × View C). Fits (log ++ said v.number cs) k.children p.0 p.1) (λ x. (sym t.0 x, t.1 x))
        (record { number = fits.number; seen = prefix_self (log ++ said v.number cs); mine = own; told = own; out = fits.out; alone = fits.alone }))
        (λ (t : (j ≢ i) × (get_elem? views j ≡ some u)).
        let f = k.each j u t.1 alive in
        record {
          number = f.number;
          seen = prefix_trans u.seen log (log ++ said v.number cs) f.seen (said v.number cs, refl);
          mine = others_stay log j v.number cs (the_seat j (λ q. t.0 (sym q))) ∙ f.mine;
          told = f.told;
          out = f.out;
          alone = f.alone;
        })
        (at_set views i j (after v log cs) u e)

    back_kept : (h : Held C) → Among h k.joined → (calls_by h.by (log ++ said v.number cs) ≡ h.calls) × ((u : View C) × (get_elem? (set views i (after v log cs)) h.by ≡ some u) × (u.live ≡ false))
    back_kept h a =
        let b = k.back h a in
        let ne : ¬ (i ≡ h.by) = λ q. true≢false (sym live ∙ (ap (λ (u : View C). u.live) (one_at views h.by v b.1.0 (subst (λ n. get_elem? views n ≡ some v) q at) b.1.1) ∙ b.1.2)) in
        (others_stay log h.by v.number cs (the_seat h.by ne) ∙ b.0, (b.1.0, set_else views i h.by (after v log cs) (λ q. ne (sym q)) ∙ b.1.1, b.1.2))

    cover_kept : (t : ℕ) → (calls_by t (log ++ said v.number cs) ≡ []) ⊎ Owned k.joined k.children t
    cover_kept t = dite (ℕ_discrete i t)
        (λ (e : i ≡ t). inr (dite (ℕ_discrete t 0) (λ (z : t ≡ 0). inl z) (λ (z : ¬ (t ≡ 0)). inr (inl (subst (λ n. In n k.children) e (fits.out (λ q. z (sym e ∙ q))))))))
        (λ (ne : ¬ (i ≡ t)). ⊎_elim (λ (none : calls_by t log ≡ []). inl (others_stay log t v.number cs (the_seat t ne) ∙ none)) (λ (o : Owned k.joined k.children t). inr o) (k.cover t))

    pub step : Legal (log ++ said v.number cs) (set views i (after v log cs))
    step =
        let below = some_below views i v at in
        record {
          joined = k.joined;
          children = k.children;
          root = root_kept;
          each = each_kept;
          back = back_kept;
          cover = cover_kept;
          fresh = λ t le. let le' : length views ≤ t = subst (λ n. n ≤ t) length_is le in others_stay log t v.number cs (the_seat t (omega arith)) ∙ k.fresh t le';
          distinct = k.distinct;
          is_out = λ t q. let u = k.is_out t q in dite (ℕ_discrete t i)
              (λ (e : t ≡ i). (after v log cs, subst (λ n. get_elem? (set views i (after v log cs)) n ≡ some (after v log cs)) (sym e) (set_here views i (after v log cs) below), live))
              (λ (ne : ¬ (t ≡ i)). (u.0, set_else views i t (after v log cs) ne ∙ u.1, u.2));
          apart = k.apart;
          whole = (i, after v log cs, set_here views i (after v log cs) below, live, refl);
        }

  -- a pass that looks alone
  pub look : (log : List (Entry C)) (views : List (View C)) (i : ℕ) (v : View C) → Legal log views → get_elem? views i ≡ some v → v.live ≡ true → Legal log (set views i (looked v log))
  look log views i v k at live =
      subst (λ l. Legal l (set views i (looked v log))) (append-nil log)
      (subst (λ (w : View C). Legal (log ++ []) (set views i w))
      (λ x. record { number = v.number; live = v.live; seen = append-nil log x; mine = append-nil v.mine x; joined = v.joined; made = v.made; children = v.children; out = v.out })
      (step log views i v [] k at live))

  -- the root with no pass out has seen all, and knows whose each call is
  pub settled : (log : List (Entry C)) (views : List (View C)) (v : View C) → Legal log views → get_elem? views 0 ≡ some v → v.live ≡ true → v.out ≡ 0 → (log ≡ v.seen) × Settled v
  settled log views v k at live none =
      let r = k.root v at in
      let f = k.each 0 v at live in
      let no_children : k.children ≡ [] = empty_list k.children (sym r.out_is ∙ none) in
      let alone : k.whole.0 ≡ 0 = dite (ℕ_discrete k.whole.0 0) (λ e. e) (λ ne. absurd (subst (In k.whole.0) no_children ((k.each k.whole.0 k.whole.1 k.whole.2 k.whole.3).out ne))) in
      let same : k.whole.1 ≡ v = one_at views 0 k.whole.1 v (subst (λ n. get_elem? views n ≡ some k.whole.1) alone k.whole.2) at in
      let all : log ≡ v.seen = sym k.whole.4 ∙ ap (λ (u : View C). u.seen) same in (
        all,
        record {
          own = ap (calls_by 0) (sym all) ∙ f.mine;
          back = λ h a. ap (calls_by h.by) (sym all) ∙ (k.back h (subst (Among h) r.joined_is a)).0;
          cover = λ t. ⊎_elim (λ (e : calls_by t log ≡ []). inl (ap (calls_by t) (sym all) ∙ e))
              (λ (o : Owned k.joined k.children t). inr (⊎_elim (λ (z : t ≡ 0). inl z) (λ (y : In t k.children ⊎ Joined t k.joined). ⊎_elim (λ (q : In t k.children). absurd (subst (In t) no_children q)) (λ (q : Joined t k.joined). inr (subst (Joined t) (sym r.joined_is) q)) y) o))
              (k.cover t);
          apart = subst (λ (hs : List (Held C)). Distinct (0 ∷ numbers hs)) (sym r.joined_is) k.apart;
        },
      )

  -- what a look, or the step before a call, tells the pass
  pub sees : (log : List (Entry C)) (views : List (View C)) (i : ℕ) (v : View C) → Legal log views → get_elem? views i ≡ some v → v.live ≡ true → Sees v log
  sees log views i v k at live =
      let f = k.each i v at live in
      let known : (h : Held C) → Among h v.joined → (calls_by h.by log ≡ h.calls) × Returned v h = λ h a. dite (ℕ_discrete i 0)
      (λ (z : i ≡ 0). let r = k.root v (subst (λ n. get_elem? views n ≡ some v) z at) in let b = subst (Among h) r.joined_is a in ((k.back h b).0, r.back h b))
      (λ (ne : ¬ (i ≡ 0)). absurd (subst (Among h) (f.alone ne) a)) in
      record {
        begins = f.seen;
        own = ap (λ n. calls_by n log) f.number ∙ f.mine;
        own_seen = ap (λ n. calls_by n v.seen) f.number ∙ f.told;
        back = λ h a. (known h a).0;
        returned = λ h a. (known h a).1;
        whole = λ z none. settled log views v k (subst (λ n. get_elem? views n ≡ some v) (sym f.number ∙ z) at) live none;
      }

  -- the root lends a pass
  module _ (log : List (Entry C)) (views : List (View C)) (v : View C) (k : Legal log views) (at : get_elem? views 0 ≡ some v) (live : v.live ≡ true) where
    root_is : IsRoot k.joined k.children (length views) v
    root_is = k.root v at

    root_fits : Fits log k.children 0 v
    root_fits = k.each 0 v at live

    lent_length : length (set views 0 (lender v) ++ child v ∷ []) ≡ length views + 1
    lent_length = length-append (set views 0 (lender v)) (child v ∷ []) ∙ ap (λ n. n + 1) (length-set views 0 (lender v))

    lent_at : (j : ℕ) (u : View C) → get_elem? (set views 0 (lender v) ++ child v ∷ []) j ≡ some u
        → ((j ≡ 0) × (lender v ≡ u)) ⊎ (((j ≢ 0) × (get_elem? views j ≡ some u)) ⊎ ((j ≡ length views) × (child v ≡ u)))
    lent_at j u e = ⊎_elim
        (λ (q : get_elem? (set views 0 (lender v)) j ≡ some u). ⊎_elim (λ (t : (j ≡ 0) × (lender v ≡ u)). inl t) (λ (t : (j ≢ 0) × (get_elem? views j ≡ some u)). inr (inl t)) (at_set views 0 j (lender v) u q))
        (λ (q : (j ≡ length (set views 0 (lender v))) × (child v ≡ u)). inr (inr (q.0 ∙ length-set views 0 (lender v), q.1)))
        (at_snoc_index (set views 0 (lender v)) (child v) u j e)

    in_more : (t : ℕ) → In t k.children → In t (k.children ++ length views ∷ [])
    in_more t q = in_front t k.children (length views ∷ []) q

    root_lent : (u : View C) → get_elem? (set views 0 (lender v) ++ child v ∷ []) 0 ≡ some u → IsRoot k.joined (k.children ++ length views ∷ []) (length (set views 0 (lender v) ++ child v ∷ [])) u
    root_lent u e =
        let n = some_below views 0 v at in
        ⊎_elim
        (λ (t : (0 ≡ 0) × (lender v ≡ u)). subst (IsRoot k.joined (k.children ++ length views ∷ []) (length (set views 0 (lender v) ++ child v ∷ []))) t.1
        (record { live = live; joined_is = root_is.joined_is; children_is = λ x. root_is.children_is x ++ root_is.made_is x ∷ []; made_is = ap (λ m. m + 1) root_is.made_is ∙ sym lent_length; out_is = let o = root_is.out_is in omega (arith, length-append k.children (length views ∷ [])); back = λ h a. let b = root_is.back h a in record { begins = b.begins; told = b.told } }))
        (λ (t : ((0 ≢ 0) × (get_elem? views 0 ≡ some u)) ⊎ ((0 ≡ length views) × (child v ≡ u))).
        ⊎_elim (λ (q : (0 ≢ 0) × (get_elem? views 0 ≡ some u)). absurd (q.0 refl)) (λ (q : (0 ≡ length views) × (child v ≡ u)). absurd (omega arith)) t)
        (lent_at 0 u e)

    each_lent : (j : ℕ) (u : View C) → get_elem? (set views 0 (lender v) ++ child v ∷ []) j ≡ some u → u.live ≡ true → Fits log (k.children ++ length views ∷ []) j u
    each_lent j u e alive = ⊎_elim
        (λ (t : (j ≡ 0) × (lender v ≡ u)). subst (λ (p : ℕ × View C). Fits log (k.children ++ length views ∷ []) p.0 p.1) (λ x. (sym t.0 x, t.1 x))
        (record { number = root_fits.number; seen = root_fits.seen; mine = root_fits.mine; told = root_fits.told; out = λ z. absurd (z refl); alone = λ z. absurd (z refl) }))
        (λ (t : ((j ≢ 0) × (get_elem? views j ≡ some u)) ⊎ ((j ≡ length views) × (child v ≡ u))). ⊎_elim
        (λ (q : (j ≢ 0) × (get_elem? views j ≡ some u)). let f = k.each j u q.1 alive in record { number = f.number; seen = f.seen; mine = f.mine; told = f.told; out = λ z. in_more j (f.out z); alone = f.alone })
        (λ (q : (j ≡ length views) × (child v ≡ u)). subst (λ (p : ℕ × View C). Fits log (k.children ++ length views ∷ []) p.0 p.1) (λ x. (sym q.0 x, q.1 x))
        (record { number = root_is.made_is; seen = root_fits.seen; mine = k.fresh (length views) (omega arith); told = none_before (length views) v.seen log root_fits.seen (k.fresh (length views) (omega arith)); out = λ z. in_last (length views) k.children; alone = λ z. refl }))
        t)
        (lent_at j u e)

    pub lend : Legal log (set views 0 (lender v) ++ child v ∷ [])
    lend = record {
      joined = k.joined;
      children = k.children ++ length views ∷ [];
      root = root_lent;
      each = each_lent;
      back = λ h a. let b = k.back h a in (b.0, (b.1.0, at_longer (set views 0 (lender v)) (child v ∷ []) h.by b.1.0 (set_else views 0 h.by (lender v) (λ (z : h.by ≡ 0). true≢false (sym live ∙ (ap (λ (u : View C). u.live) (one_at views 0 v b.1.0 at (subst (λ n. get_elem? views n ≡ some b.1.0) z b.1.1)) ∙ b.1.2))) ∙ b.1.1), b.1.2));
      cover = λ t. ⊎_elim (λ (none : calls_by t log ≡ []). inl none) (λ (o : Owned k.joined k.children t). inr (⊎_elim (λ (z : t ≡ 0). inl z) (λ (y : In t k.children ⊎ Joined t k.joined). inr (⊎_elim (λ (q : In t k.children). inl (in_more t q)) (λ (q : Joined t k.joined). inr q) y)) o)) (k.cover t);
      fresh = λ t le. k.fresh t (let le' : length views + 1 ≤ t = subst (λ n. n ≤ t) lent_length le in omega arith);
      distinct = distinct_last k.children (length views) (λ q. let u = k.is_out (length views) q in let b = some_below views (length views) u.0 u.1 in absurd (omega arith)) k.distinct;
      is_out = λ t q. ⊎_elim
          (λ (r : In t k.children). let u = k.is_out t r in dite (ℕ_discrete t 0)
          (λ (z : t ≡ 0). (lender v, subst (λ n. get_elem? (set views 0 (lender v) ++ child v ∷ []) n ≡ some (lender v)) (sym z) (at_longer (set views 0 (lender v)) (child v ∷ []) 0 (lender v) (set_here views 0 (lender v) (some_below views 0 v at))), live))
          (λ (ne : ¬ (t ≡ 0)). (u.0, at_longer (set views 0 (lender v)) (child v ∷ []) t u.0 (set_else views 0 t (lender v) ne ∙ u.1), u.2)))
          (λ (r : t ≡ length views). (child v, subst (λ n. get_elem? (set views 0 (lender v) ++ child v ∷ []) n ≡ some (child v)) (sym r) (at_last (set views 0 (lender v)) (child v) (length views) (length-set views 0 (lender v))), refl))
          (in_snoc t k.children (length views) q);
      apart = k.apart;
      whole = whole_lent;
    }
      where
        whole_lent : (i : ℕ) × (u : View C) × (get_elem? (set views 0 (lender v) ++ child v ∷ []) i ≡ some u) × (u.live ≡ true) × (u.seen ≡ log)
        whole_lent = dite (ℕ_discrete k.whole.0 0)
            (λ (z : k.whole.0 ≡ 0). (
              0,
              lender v,
              at_longer (set views 0 (lender v)) (child v ∷ []) 0 (lender v) (set_here views 0 (lender v) (some_below views 0 v at)),
              live,
              ap (λ (u : View C). u.seen) (one_at views 0 v k.whole.1 at (subst (λ n. get_elem? views n ≡ some k.whole.1) z k.whole.2)) ∙ k.whole.4,
            ))
            (λ (ne : ¬ (k.whole.0 ≡ 0)). (k.whole.0, k.whole.1, at_longer (set views 0 (lender v)) (child v ∷ []) k.whole.0 k.whole.1 (set_else views 0 k.whole.0 (lender v) ne ∙ k.whole.2), k.whole.3, k.whole.4))

  longer_nil : (ys : List (Entry C)) → longer [] ys ≡ ys
  longer_nil [] = refl
  longer_nil (y ∷ ys) = refl

  pub longer_begins : (xs ys log : List (Entry C)) → IsPrefix xs log → IsPrefix ys log → IsPrefix (longer xs ys) log
  longer_begins xs [] log p q = p
  longer_begins [] (y ∷ ys) log p q = q
  longer_begins (x ∷ xs) (y ∷ ys) [] p q = absurd (cc (p.1))
  longer_begins (x ∷ xs) (y ∷ ys) (z ∷ zs) p q =
      let r = longer_begins xs ys zs (p.0, cc (p.1)) (q.0, cc (q.1)) in
      (r.0, cc (p.1, r.1))

  pub longer_first : (xs ys : List (Entry C)) → IsPrefix xs (longer xs ys)
  longer_first xs [] = prefix_self xs
  longer_first [] (y ∷ ys) = (y ∷ ys, refl)
  longer_first (x ∷ xs) (y ∷ ys) = let r = longer_first xs ys in (r.0, ap (λ l. x ∷ l) r.1)

  pub longer_last : (xs ys log : List (Entry C)) → IsPrefix xs log → IsPrefix ys log → IsPrefix ys (longer xs ys)
  longer_last xs [] log p q = (xs, refl)
  longer_last [] (y ∷ ys) log p q = prefix_self (y ∷ ys)
  longer_last (x ∷ xs) (y ∷ ys) [] p q = absurd (cc (p.1))
  longer_last (x ∷ xs) (y ∷ ys) (z ∷ zs) p q =
      let r = longer_last xs ys zs (p.0, cc (p.1)) (q.0, cc (q.1)) in
      (r.0, cc (p.1, q.1, r.1))

  longer_whole_first : (xs ys : List (Entry C)) → IsPrefix ys xs → longer xs ys ≡ xs
  longer_whole_first xs [] p = refl
  longer_whole_first [] (y ∷ ys) p = absurd (cc (p.1))
  longer_whole_first (x ∷ xs) (y ∷ ys) p = ap (λ l. x ∷ l) (longer_whole_first xs ys (p.0, cc (p.1)))

  longer_whole_last : (xs ys : List (Entry C)) → IsPrefix xs ys → longer xs ys ≡ ys
  longer_whole_last [] ys p = longer_nil ys
  longer_whole_last (x ∷ xs) [] p = absurd (cc (p.1))
  longer_whole_last (x ∷ xs) (y ∷ ys) p =
      let r = longer_whole_last xs ys (p.0, cc (p.1)) in cc (p.1, r)

  pub numbers-append : (hs ks : List (Held C)) → numbers (hs ++ ks) ≡ numbers hs ++ numbers ks
  numbers-append [] ks = refl
  numbers-append (h ∷ hs) ks = ap (λ l. h.by ∷ l) (numbers-append hs ks)

  joined_last : (t : ℕ) (hs : List (Held C)) (h : Held C) → t ≡ h.by → Joined t (hs ++ h ∷ [])
  joined_last t hs h e = subst (In t) (sym (numbers-append hs (h ∷ []))) (subst (λ n. In t (numbers hs ++ n ∷ [])) e (in_last t (numbers hs)))

  joined_more : (t : ℕ) (hs ks : List (Held C)) → Joined t hs → Joined t (hs ++ ks)
  joined_more t hs ks q = subst (In t) (sym (numbers-append hs ks)) (in_front t (numbers hs) (numbers ks) q)

  pub joined_held : (t : ℕ) (hs : List (Held C)) → Joined t hs → (h : Held C) × Among h hs × (t ≡ h.by)
  joined_held t [] q = absurd q
  joined_held t (x ∷ hs) q = ⊎_elim (λ (e : t ≡ x.by). (x, inl refl, e)) (λ (r : Joined t hs). let h = joined_held t hs r in (h.0, inr h.1, h.2)) q

  pub among_snoc : (a : Held C) (hs : List (Held C)) (h : Held C) → Among a (hs ++ h ∷ []) → Among a hs ⊎ (a ≡ h)
  among_snoc a [] h q = ⊎_elim (λ (e : a ≡ h). inr e) (λ (f : ⊥). absurd f) q
  among_snoc a (x ∷ hs) h q = ⊎_elim (λ (e : a ≡ x). inl (inl e)) (λ (r : Among a (hs ++ h ∷ [])). ⊎_elim (λ (y : Among a hs). inl (inr y)) (λ (z : a ≡ h). inr z) (among_snoc a hs h r)) q

  -- the root takes a pass back
  module _ (log : List (Entry C)) (views : List (View C)) (v : View C) (other : ℕ) (w : View C) (k : Legal log views) (at : get_elem? views 0 ≡ some v) (live : v.live ≡ true)
      (apart : ¬ (other ≡ 0)) (there : get_elem? (set views 0 (taker v w)) other ≡ some w) (alive : w.live ≡ true) where
    was_there : get_elem? views other ≡ some w
    was_there = sym (set_else views 0 other (taker v w) apart) ∙ there

    taker_is : IsRoot k.joined k.children (length views) v
    taker_is = k.root v at

    taker_fits : Fits log k.children 0 v
    taker_fits = k.each 0 v at live

    given_fits : Fits log k.children other w
    given_fits = k.each other w was_there alive

    joined_now : v.joined ++ held w.number w.mine w.seen ∷ [] ≡ k.joined ++ held other w.mine w.seen ∷ []
    joined_now = λ x. taker_is.joined_is x ++ held (given_fits.number x) w.mine w.seen ∷ []

    children_now : without w.number v.children ≡ without other k.children
    children_now = λ x. without (given_fits.number x) (taker_is.children_is x)

    taken_length : length (set (set views 0 (taker v w)) other nobody) ≡ length views
    taken_length = length-set (set views 0 (taker v w)) other nobody ∙ length-set views 0 (taker v w)

    taken_at : (j : ℕ) (u : View C) → get_elem? (set (set views 0 (taker v w)) other nobody) j ≡ some u → u.live ≡ true
        → ((j ≡ 0) × (taker v w ≡ u)) ⊎ ((j ≢ 0) × (j ≢ other) × (get_elem? views j ≡ some u))
    taken_at j u e is_live = ⊎_elim
        (λ (t : (j ≡ other) × (nobody ≡ u)). absurd (true≢false (sym is_live ∙ ap (λ (x : View C). x.live) (sym t.1))))
        (λ (t : (j ≢ other) × (get_elem? (set views 0 (taker v w)) j ≡ some u)). ⊎_elim
        (λ (q : (j ≡ 0) × (taker v w ≡ u)). inl q)
        (λ (q : (j ≢ 0) × (get_elem? views j ≡ some u)). inr (q.0, t.0, q.1))
        (at_set views 0 j (taker v w) u t.1))
        (at_set (set views 0 (taker v w)) other j nobody u e)

    root_there : get_elem? (set (set views 0 (taker v w)) other nobody) 0 ≡ some (taker v w)
    root_there = set_else (set views 0 (taker v w)) other 0 nobody (λ z. apart (sym z)) ∙ set_here views 0 (taker v w) (some_below views 0 v at)

    all_seen : IsPrefix (longer v.seen w.seen) log
    all_seen = longer_begins v.seen w.seen log taker_fits.seen given_fits.seen

    back_told : (h : Held C) → Among h (k.joined ++ held other w.mine w.seen ∷ []) → Returned (taker v w) h
    back_told h a = ⊎_elim
        (λ (q : Among h k.joined). let b = taker_is.back h q in record { begins = prefix_trans h.seen v.seen (longer v.seen w.seen) b.begins (longer_first v.seen w.seen); told = b.told })
        (λ (q : h ≡ held other w.mine w.seen). subst (Returned (taker v w)) (sym q) (record { begins = longer_last v.seen w.seen log taker_fits.seen given_fits.seen; told = given_fits.told }))
        (among_snoc h k.joined (held other w.mine w.seen) a)

    root_taken : (u : View C) → get_elem? (set (set views 0 (taker v w)) other nobody) 0 ≡ some u → IsRoot (k.joined ++ held other w.mine w.seen ∷ []) (without other k.children) (length (set (set views 0 (taker v w)) other nobody)) u
    root_taken u e = subst (IsRoot (k.joined ++ held other w.mine w.seen ∷ []) (without other k.children) (length (set (set views 0 (taker v w)) other nobody)))
        (one_at (set (set views 0 (taker v w)) other nobody) 0 (taker v w) u root_there e)
        (record { live = live; joined_is = joined_now; children_is = children_now; made_is = taker_is.made_is ∙ sym taken_length; out_is = let o = taker_is.out_is in let f = without_length other k.children k.distinct (given_fits.out apart) in omega arith; back = back_told })

    each_taken : (j : ℕ) (u : View C) → get_elem? (set (set views 0 (taker v w)) other nobody) j ≡ some u → u.live ≡ true → Fits log (without other k.children) j u
    each_taken j u e is_live = ⊎_elim
        (λ (t : (j ≡ 0) × (taker v w ≡ u)). subst (λ (p : ℕ × View C). Fits log (without other k.children) p.0 p.1) (λ x. (sym t.0 x, t.1 x))
        (record { number = taker_fits.number; seen = all_seen; mine = taker_fits.mine; told = between 0 v.seen (longer v.seen w.seen) log v.mine (longer_first v.seen w.seen) all_seen taker_fits.told taker_fits.mine; out = λ z. absurd (z refl); alone = λ z. absurd (z refl) }))
        (λ (t : (j ≢ 0) × (j ≢ other) × (get_elem? views j ≡ some u)). let f = k.each j u t.2 is_live in
        record { number = f.number; seen = f.seen; mine = f.mine; told = f.told; out = λ z. in_without j other k.children t.1 (f.out z); alone = f.alone })
        (taken_at j u e is_live)

    back_taken : (h : Held C) → Among h (k.joined ++ held other w.mine w.seen ∷ []) → (calls_by h.by log ≡ h.calls) × ((u : View C) × (get_elem? (set (set views 0 (taker v w)) other nobody) h.by ≡ some u) × (u.live ≡ false))
    back_taken h a = ⊎_elim
        (λ (q : Among h k.joined). let b = k.back h q in
        let far : ¬ (h.by ≡ 0) = λ z. true≢false (sym live ∙ (ap (λ (u : View C). u.live) (one_at views 0 v b.1.0 at (subst (λ n. get_elem? views n ≡ some b.1.0) z b.1.1)) ∙ b.1.2)) in
        let gone : ¬ (h.by ≡ other) = λ z. true≢false (sym alive ∙ (ap (λ (u : View C). u.live) (one_at views other w b.1.0 was_there (subst (λ n. get_elem? views n ≡ some b.1.0) z b.1.1)) ∙ b.1.2)) in
        (b.0, (b.1.0, set_else (set views 0 (taker v w)) other h.by nobody gone ∙ (set_else views 0 h.by (taker v w) far ∙ b.1.1), b.1.2)))
        (λ (q : h ≡ held other w.mine w.seen). (
          ap (λ (x : Held C). calls_by x.by log) q ∙ (given_fits.mine ∙ ap (λ (x : Held C). x.calls) (sym q)),
          (nobody, ap (λ (x : Held C). get_elem? (set (set views 0 (taker v w)) other nobody) x.by) q ∙ set_here (set views 0 (taker v w)) other nobody (some_below (set views 0 (taker v w)) other w there), refl),
        ))
        (among_snoc h k.joined (held other w.mine w.seen) a)

    owned_taken : (t : ℕ) → Owned k.joined k.children t → Owned (k.joined ++ held other w.mine w.seen ∷ []) (without other k.children) t
    owned_taken t o = ⊎_elim (λ (z : t ≡ 0). inl z)
        (λ (y : In t k.children ⊎ Joined t k.joined). inr (⊎_elim
        (λ (q : In t k.children). dite (ℕ_discrete t other) (λ (e : t ≡ other). inr (joined_last t k.joined (held other w.mine w.seen) e)) (λ (ne : ¬ (t ≡ other)). inl (in_without t other k.children ne q)))
        (λ (q : Joined t k.joined). inr (joined_more t k.joined (held other w.mine w.seen ∷ []) q)) y))
        o

    whole_taken : (i : ℕ) × (u : View C) × (get_elem? (set (set views 0 (taker v w)) other nobody) i ≡ some u) × (u.live ≡ true) × (u.seen ≡ log)
    whole_taken = dite (ℕ_discrete k.whole.0 0)
        (λ (z : k.whole.0 ≡ 0).
        let same : v.seen ≡ log = ap (λ (u : View C). u.seen) (one_at views 0 v k.whole.1 at (subst (λ n. get_elem? views n ≡ some k.whole.1) z k.whole.2)) ∙ k.whole.4 in
        (0, taker v w, root_there, live, ap (λ l. longer l w.seen) same ∙ longer_whole_first log w.seen given_fits.seen))
        (λ (ne : ¬ (k.whole.0 ≡ 0)). dite (ℕ_discrete k.whole.0 other)
        (λ (z : k.whole.0 ≡ other).
        let same : w.seen ≡ log = ap (λ (u : View C). u.seen) (one_at views other w k.whole.1 was_there (subst (λ n. get_elem? views n ≡ some k.whole.1) z k.whole.2)) ∙ k.whole.4 in
        (0, taker v w, root_there, live, ap (λ l. longer v.seen l) same ∙ longer_whole_last v.seen log taker_fits.seen))
        (λ (far : ¬ (k.whole.0 ≡ other)). (k.whole.0, k.whole.1, set_else (set views 0 (taker v w)) other k.whole.0 nobody far ∙ (set_else views 0 k.whole.0 (taker v w) ne ∙ k.whole.2), k.whole.3, k.whole.4)))

    still_live : Joined other k.joined → ⊥
    still_live q =
        let h = joined_held other k.joined q in
        let b = k.back h.0 h.1 in
        true≢false (sym alive ∙ (ap (λ (u : View C). u.live) (one_at views other w b.1.0 was_there (subst (λ n. get_elem? views n ≡ some b.1.0) (sym h.2) b.1.1)) ∙ b.1.2))

    pub take_back : Legal log (set (set views 0 (taker v w)) other nobody)
    take_back = record {
      joined = k.joined ++ held other w.mine w.seen ∷ [];
      children = without other k.children;
      root = root_taken;
      each = each_taken;
      back = back_taken;
      cover = λ t. ⊎_elim (λ (none : calls_by t log ≡ []). inl none) (λ (o : Owned k.joined k.children t). inr (owned_taken t o)) (k.cover t);
      fresh = λ t le. k.fresh t (subst (λ n. n ≤ t) taken_length le);
      distinct = without_distinct other k.children k.distinct;
      is_out = λ t q. let r = without_is t other k.children q in let u = k.is_out t r.1 in dite (ℕ_discrete t 0)
          (λ (z : t ≡ 0). (taker v w, subst (λ n. get_elem? (set (set views 0 (taker v w)) other nobody) n ≡ some (taker v w)) (sym z) root_there, live))
          (λ (ne : ¬ (t ≡ 0)). (u.0, set_else (set views 0 (taker v w)) other t nobody r.0 ∙ (set_else views 0 t (taker v w) ne ∙ u.1), u.2));
      apart = subst (λ l. Distinct (0 ∷ l)) (sym (numbers-append k.joined (held other w.mine w.seen ∷ [])))
          (distinct_last (0 ∷ numbers k.joined) other (λ q. ⊎_elim (λ (z : other ≡ 0). apart z) (λ (r : Joined other k.joined). still_live r) q) k.apart);
      whole = whole_taken;
    }

  -- at the start
  pub begins : Legal {C = C} [] (first ∷ [])
  begins = record {
    joined = [];
    children = [];
    root = λ v e. subst (IsRoot [] [] 1) (some-injective first v e) (record { live = refl; joined_is = refl; children_is = refl; made_is = refl; out_is = refl; back = λ h a. absurd a });
    each = one;
    back = λ h a. absurd a;
    cover = λ t. inl refl;
    fresh = λ t le. refl;
    distinct = tt;
    is_out = λ t q. absurd q;
    apart = ((λ q. q), tt);
    whole = (0, first, refl, refl, refl);
  }
    where
      one : (i : ℕ) (v : View C) → get_elem? (first ∷ []) i ≡ some v → v.live ≡ true → Fits [] [] i v
      one zero v e live = subst (Fits [] [] 0) (some-injective first v e) (record { number = refl; seen = ([], refl); mine = refl; told = refl; out = λ z. absurd (z refl); alone = λ z. absurd (z refl) })
      one (suc i) v e live = absurd (some-ne-none v (sym e))

  pub first_settled : Settled {C = C} first
  first_settled = record { own = refl; back = λ h a. absurd a; cover = λ t. inl refl; apart = ((λ q. q), tt) }
