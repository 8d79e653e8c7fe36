-- What a round adds to a history.
use Rattle.std.proofs.Common.{◌≡◌, ◌≢◌, ℕ, ◌==◌, ◌⊎◌, Bool, true, false, List, [], ◌∷◌, ◌++◌, length, refl, sym, ap, ◌∙◌, subst, inl, inr, ⊎_elim, eq-eqb, ne_eqb}
use mathlib.Core.Logic.{dite}
use native.Mathlib.Decide.{ℕ_discrete}
use Rattle.legal_history.specs.declared.history.Entry.{Entry}
use Rattle.legal_history.specs.declared.history.Held.{Held}
use Rattle.legal_history.specs.declared.history.View.{View}
use Rattle.legal_history.specs.History.{In, Distinct, calls, keep, calls_by, Among, numbers, Joined, Settled}
use Rattle.legal_history.specs.Order.{GrewInOrder}
use Rattle.legal_history.specs.News.{helds, lanes, calls_if, lane_calls, TookIn}
use Rattle.legal_history.proofs.Steps.{numbers-append, joined_held}
use Rattle.legal_history.proofs.Lists.{calls-append, calls_by-append, no_more, end_empty}
use Rattle.legal_history.proofs.Orders.{picked, lanes_of, takes_all, counts_all, keep_none, not_kept}

abbrev pub Mem : {A : Type 0} → A → List A → Type 0
Mem x [] = ⊥
Mem x (y ∷ ys) = (x ≡ y) ⊎ Mem x ys

abbrev keys : {A : Type 0} → (A → ℕ) → List A → List ℕ
keys k [] = []
keys k (x ∷ xs) = k x ∷ keys k xs

in_keys : {A : Type 0} (k : A → ℕ) (xs : List A) (x : A) → Mem x xs → In (k x) (keys k xs)
in_keys k [] x m = absurd m
in_keys k (y ∷ ys) x m = ⊎_elim (λ (e : x ≡ y). inl (ap k e)) (λ (r : Mem x ys). inr (in_keys k ys x r)) m

-- members with one key are one, where keys differ
one_key : {A : Type 0} (k : A → ℕ) (xs : List A) (x y : A) → Distinct (keys k xs) → Mem x xs → Mem y xs → k x ≡ k y → x ≡ y
one_key k [] x y d m n e = absurd m
one_key k (z ∷ zs) x y d m n e = ⊎_elim
    (λ (p : x ≡ z). ⊎_elim (λ (q : y ≡ z). p ∙ sym q) (λ (r : Mem y zs). absurd (d.0 (subst (λ t. In t (keys k zs)) (sym e ∙ ap k p) (in_keys k zs y r)))) n)
    (λ (s : Mem x zs). ⊎_elim (λ (q : y ≡ z). absurd (d.0 (subst (λ t. In t (keys k zs)) (e ∙ ap k q) (in_keys k zs x s)))) (λ (r : Mem y zs). one_key k zs x y d.1 s r e) n)
    m

distinct_behind : (xs ys : List ℕ) → Distinct (xs ++ ys) → ((t : ℕ) → In t ys → In t xs → ⊥) × Distinct ys
distinct_behind [] ys d = ((λ t q r. r), d)
distinct_behind (x ∷ xs) ys d =
    let r = distinct_behind xs ys d.1 in
    ((λ t q m. ⊎_elim (λ (e : t ≡ x). d.0 (in_back x xs ys (subst (λ n. In n ys) e q))) (λ (h : In t xs). r.0 t q h) m), r.1)
  where
    in_back : (t : ℕ) (xs ys : List ℕ) → In t ys → In t (xs ++ ys)
    in_back t [] ys q = q
    in_back t (x ∷ xs) ys q = inr (in_back t xs ys q)

abbrev lane_if : Bool → ℕ → ℕ → ℕ
lane_if true a b = a
lane_if false a b = b

in_parts : (t : ℕ) (xs ys : List ℕ) → In t (xs ++ ys) → In t xs ⊎ In t ys
in_parts t [] ys q = inr q
in_parts t (x ∷ xs) ys q = ⊎_elim (λ (e : t ≡ x). inl (inl e)) (λ (r : In t (xs ++ ys)). ⊎_elim (λ (a : In t xs). inl (inr a)) (λ (b : In t ys). inr b) (in_parts t xs ys r)) q

module _ {C : Type 0} where
  -- the lane whose pass has this number
  abbrev lane_of : List (ℕ × Held C) → ℕ → ℕ
  lane_of [] t = 0
  lane_of (x ∷ xs) t = lane_if (x.1.by == t) x.0 (lane_of xs t)

  lanes_keys : (news : List (ℕ × Held C)) → keys (λ x. x.0) news ≡ lanes news
  lanes_keys [] = refl
  lanes_keys (x ∷ xs) = ap (λ l. x.0 ∷ l) (lanes_keys xs)

  number_keys : (news : List (ℕ × Held C)) → keys (λ x. x.1.by) news ≡ numbers (helds news)
  number_keys [] = refl
  number_keys (x ∷ xs) = ap (λ l. x.1.by ∷ l) (number_keys xs)

  mem_held : (news : List (ℕ × Held C)) (x : ℕ × Held C) → Mem x news → Among x.1 (helds news)
  mem_held [] x m = absurd m
  mem_held (y ∷ ys) x m = ⊎_elim (λ (e : x ≡ y). inl (ap (λ (z : ℕ × Held C). z.1) e)) (λ (r : Mem x ys). inr (mem_held ys x r)) m

  held_mem : (news : List (ℕ × Held C)) (t : ℕ) → Joined t (helds news) → (x : ℕ × Held C) × Mem x news × (t ≡ x.1.by)
  held_mem [] t q = absurd q
  held_mem (y ∷ ys) t q = ⊎_elim (λ (e : t ≡ y.1.by). (y, inl refl, e)) (λ (r : Joined t (helds ys)). let h = held_mem ys t r in (h.0, inr h.1, h.2)) q

  lane_is : (news : List (ℕ × Held C)) (x : ℕ × Held C) → Distinct (numbers (helds news)) → Mem x news → lane_of news x.1.by ≡ x.0
  lane_is [] x d m = absurd m
  lane_is (y ∷ ys) x d m = ⊎_elim
      (λ (e : x ≡ y). ap (λ b. lane_if b y.0 (lane_of ys x.1.by)) (eq-eqb y.1.by x.1.by (ap (λ (z : ℕ × Held C). z.1.by) (sym e))) ∙ ap (λ (z : ℕ × Held C). z.0) (sym e))
      (λ (r : Mem x ys).
      let far : y.1.by ≢ x.1.by = λ q. d.0 (subst (λ l. In y.1.by l) (number_keys ys) (subst (λ n. In n (keys (λ z. z.1.by) ys)) (sym q) (in_keys (λ (z : ℕ × Held C). z.1.by) ys x r))) in
      ap (λ b. lane_if b y.0 (lane_of ys x.1.by)) (ne_eqb y.1.by x.1.by far) ∙ lane_is ys x d.1 r)
      m

  pub calls_is : (news : List (ℕ × Held C)) (x : ℕ × Held C) → Distinct (lanes news) → Mem x news → lane_calls news x.0 ≡ x.1.calls
  calls_is [] x d m = absurd m
  calls_is (y ∷ ys) x d m = ⊎_elim
      (λ (e : x ≡ y). ap (λ b. calls_if b y.1.calls (lane_calls ys x.0)) (eq-eqb y.0 x.0 (ap (λ (z : ℕ × Held C). z.0) (sym e))) ∙ ap (λ (z : ℕ × Held C). z.1.calls) (sym e))
      (λ (r : Mem x ys).
      let far : y.0 ≢ x.0 = λ q. d.0 (subst (λ l. In y.0 l) (lanes_keys ys) (subst (λ n. In n (keys (λ z. z.0) ys)) (sym q) (in_keys (λ (z : ℕ × Held C). z.0) ys x r))) in
      ap (λ b. calls_if b y.1.calls (lane_calls ys x.0)) (ne_eqb y.0 x.0 far) ∙ calls_is ys x d.1 r)
      m

  -- a lane gave a pass back, or has no calls
  pub find_lane : (news : List (ℕ × Held C)) (l : ℕ) → ((x : ℕ × Held C) × Mem x news × (x.0 ≡ l)) ⊎ (((x : ℕ × Held C) → Mem x news → x.0 ≢ l) × (lane_calls news l ≡ []))
  find_lane [] l = inr ((λ x m e. m), refl)
  find_lane (y ∷ ys) l = dite (ℕ_discrete y.0 l)
      (λ (e : y.0 ≡ l). inl (y, inl refl, e))
      (λ (ne : ¬ (y.0 ≡ l)). ⊎_elim
      (λ (h : (x : ℕ × Held C) × Mem x ys × (x.0 ≡ l)). inl (h.0, inr h.1, h.2))
      (λ (h : ((x : ℕ × Held C) → Mem x ys → x.0 ≢ l) × (lane_calls ys l ≡ [])).
      inr ((λ x m. ⊎_elim (λ (e : x ≡ y). λ q. ne (ap (λ (z : ℕ × Held C). z.0) (sym e) ∙ q)) (λ (r : Mem x ys). h.0 x r) m), ap (λ b. calls_if b y.1.calls (lane_calls ys l)) (ne_eqb y.0 l ne) ∙ h.1))
      (find_lane ys l))

  abbrev Covers : List (ℕ × Held C) → List (Entry C) → Type 0
  Covers news es = (t : ℕ) → (calls_by t es ≡ []) ⊎ ((x : ℕ × Held C) × Mem x news × (t ≡ x.1.by))

  covers_rest : (news : List (ℕ × Held C)) (e : Entry C) (es : List (Entry C)) → Covers news (e ∷ es) → Covers news es
  covers_rest news e es cover t = ⊎_elim (λ (none : calls_by t (e ∷ es) ≡ []). inl (keep_none (e.by == t) e.call (calls_by t es) none)) (λ (h : (x : ℕ × Held C) × Mem x news × (t ≡ x.1.by)). inr h) (cover t)

  whose : (news : List (ℕ × Held C)) (e : Entry C) (es : List (Entry C)) → Covers news (e ∷ es) → (x : ℕ × Held C) × Mem x news × (e.by ≡ x.1.by)
  whose news e es cover = ⊎_elim (λ (none : calls_by e.by (e ∷ es) ≡ []). absurd (not_kept (e.by == e.by) e.call (calls_by e.by es) (eq-eqb e.by e.by refl) none)) (λ (h : (x : ℕ × Held C) × Mem x news × (e.by ≡ x.1.by)). h) (cover e.by)

  module _ (news : List (ℕ × Held C)) (apart : Distinct (lanes news)) (differ : Distinct (numbers (helds news))) where
    -- the entries of a lane are those of its pass
    picked_pass : (es : List (Entry C)) → Covers news es → (x : ℕ × Held C) → Mem x news → picked (λ e. lane_of news e.by) x.0 es ≡ calls_by x.1.by es
    picked_pass [] cover x m = refl
    picked_pass (e ∷ es) cover x m =
        let y = whose news e es cover in
        let lane : lane_of news e.by ≡ y.0.0 = ap (lane_of news) y.2 ∙ lane_is news y.0 differ y.1 in
        let test : (lane_of news e.by == x.0) ≡ (e.by == x.1.by) = dite (ℕ_discrete e.by x.1.by)
        (λ (q : e.by ≡ x.1.by). eq-eqb (lane_of news e.by) x.0 (ap (lane_of news) q ∙ lane_is news x differ m) ∙ sym (eq-eqb e.by x.1.by q))
        (λ (ne : ¬ (e.by ≡ x.1.by)).
        ne_eqb (lane_of news e.by) x.0 (λ q. ne (y.2 ∙ ap (λ (z : ℕ × Held C). z.1.by) (one_key (λ z. z.0) news y.0 x (subst Distinct (sym (lanes_keys news)) apart) y.1 m (sym lane ∙ q))))
        ∙ sym (ne_eqb e.by x.1.by ne)) in
        ap (λ b. keep b e.call (picked (λ e. lane_of news e.by) x.0 es)) test ∙ ap (keep (e.by == x.1.by) e.call) (picked_pass es (covers_rest news e es cover) x m)

    picked_none : (es : List (Entry C)) → Covers news es → (l : ℕ) → ((x : ℕ × Held C) → Mem x news → x.0 ≢ l) → picked (λ e. lane_of news e.by) l es ≡ []
    picked_none [] cover l far = refl
    picked_none (e ∷ es) cover l far =
        let y = whose news e es cover in
        let lane : lane_of news e.by ≡ y.0.0 = ap (lane_of news) y.2 ∙ lane_is news y.0 differ y.1 in
        ap (λ b. keep b e.call (picked (λ e. lane_of news e.by) l es)) (ne_eqb (lane_of news e.by) l (λ q. far y.0 y.1 (sym lane ∙ q))) ∙ picked_none es (covers_rest news e es cover) l far

  among_front : (h : Held C) (hs ks : List (Held C)) → Among h hs → Among h (hs ++ ks)
  among_front h [] ks q = absurd q
  among_front h (x ∷ hs) ks q = ⊎_elim (λ (e : h ≡ x). inl e) (λ (r : Among h hs). inr (among_front h hs ks r)) q

  among_back : (h : Held C) (hs ks : List (Held C)) → Among h ks → Among h (hs ++ ks)
  among_back h [] ks q = q
  among_back h (x ∷ hs) ks q = inr (among_back h hs ks q)

  module _ (v w : View C) (news : List (ℕ × Held C)) (known : Settled v) (all : Settled w) (took : TookIn news v w) where
    added : List (Entry C)
    added = took.grows.0

    all_numbers : numbers w.joined ≡ numbers v.joined ++ numbers (helds news)
    all_numbers = ap numbers took.joined ∙ numbers-append v.joined (helds news)

    split_numbers : ((t : ℕ) → In t (numbers (helds news)) → In t (0 ∷ numbers v.joined) → ⊥) × Distinct (numbers (helds news))
    split_numbers = distinct_behind (0 ∷ numbers v.joined) (numbers (helds news)) (subst (λ l. Distinct (0 ∷ l)) all_numbers all.apart)

    parts : (t : ℕ) → calls_by t v.seen ++ calls_by t added ≡ calls_by t w.seen
    unfolding added
    parts t = sym (calls_by-append t v.seen took.grows.0) ∙ ap (calls_by t) took.grows.1

    old_none : (t : ℕ) → calls_by t v.seen ≡ calls_by t w.seen → calls_by t added ≡ []
    old_none t e = no_more (calls_by t v.seen) (calls_by t added) (parts t ∙ sym e)

    of_old : (t : ℕ) → Joined t v.joined → calls_by t added ≡ []
    of_old t q =
        let h = joined_held t v.joined q in
        let old = known.back h.0 h.1 in
        let now = all.back h.0 (subst (Among h.0) (sym took.joined) (among_front h.0 v.joined (helds news) h.1)) in
        old_none t (ap (λ x. calls_by x v.seen) h.2 ∙ (old ∙ (sym now ∙ sym (ap (λ x. calls_by x w.seen) h.2))))

    of_root : calls_by 0 added ≡ []
    of_root = old_none 0 (known.own ∙ (sym took.mine ∙ sym all.own))

    covered : Covers news added
    covered t = ⊎_elim
        (λ (e : calls_by t w.seen ≡ []). inl (end_empty (calls_by t v.seen) (calls_by t added) (parts t ∙ e)))
        (λ (o : (t ≡ 0) ⊎ Joined t w.joined). ⊎_elim
        (λ (z : t ≡ 0). inl (subst (λ k. calls_by k added ≡ []) (sym z) of_root))
        (λ (q : Joined t w.joined). ⊎_elim (λ (y : Joined t v.joined). inl (of_old t y)) (λ (y : Joined t (helds news)). inr (held_mem news t y)) (in_parts t (numbers v.joined) (numbers (helds news)) (subst (In t) all_numbers q)))
        o)
        (all.cover t)

    of_new : (x : ℕ × Held C) → Mem x news → calls_by x.1.by added ≡ x.1.calls
    of_new x m =
        let new : In x.1.by (numbers (helds news)) = subst (In x.1.by) (number_keys news) (in_keys (λ (z : ℕ × Held C). z.1.by) news x m) in
        let far = split_numbers.0 x.1.by new in
        let none : calls_by x.1.by v.seen ≡ [] = ⊎_elim (λ (e : calls_by x.1.by v.seen ≡ []). e) (λ (o : (x.1.by ≡ 0) ⊎ Joined x.1.by v.joined). absurd (far o)) (known.cover x.1.by) in
        sym (ap (λ l. l ++ calls_by x.1.by added) none) ∙ (parts x.1.by ∙ all.back x.1 (subst (Among x.1) (sym took.joined) (among_back x.1 v.joined (helds news) (mem_held news x m))))

    each_lane : (l : ℕ) → picked (λ e. lane_of news e.by) l added ≡ lane_calls news l
    each_lane l = ⊎_elim
        (λ (h : (x : ℕ × Held C) × Mem x news × (x.0 ≡ l)).
        subst (λ k. picked (λ e. lane_of news e.by) k added ≡ lane_calls news k) h.2
        (picked_pass news took.apart split_numbers.1 added covered h.0 h.1 ∙ (of_new h.0 h.1 ∙ sym (calls_is news h.0 took.apart h.1))))
        (λ (h : ((x : ℕ × Held C) → Mem x news → x.0 ≢ l) × (lane_calls news l ≡ [])). picked_none news took.apart split_numbers.1 added covered l h.0 ∙ sym h.1)
        (find_lane news l)

    -- the history grew by the calls of all lanes, in one order
    pub grew : (lists : ℕ → List C) → ((l : ℕ) → lane_calls news l ≡ lists l) → GrewInOrder lists v.seen w.seen
    unfolding added
    grew lists is = (
      lanes_of (λ e. lane_of news e.by) took.grows.0,
      (λ l. counts_all (λ e. lane_of news e.by) took.grows.0 l ∙ ap length (each_lane l ∙ is l)),
      sym (ap calls took.grows.1) ∙ (calls-append v.seen took.grows.0 ∙ ap (λ l. calls v.seen ++ l) (sym (takes_all (λ e. lane_of news e.by) took.grows.0 lists (λ l. each_lane l ∙ is l)))),
    )
