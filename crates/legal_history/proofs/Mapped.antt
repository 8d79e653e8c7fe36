-- A history whose calls are seen as others has all that the history has, and grew as it did.
use Rattle.std.proofs.Common.{◌≡◌, ℕ, ◌==◌, ◌⊎◌, Bool, true, false, List, [], ◌∷◌, ◌++◌, length, map, refl, sym, ap, ◌∙◌, subst, inl, inr, ⊎_elim}
use Rattle.std.proofs.lemmas.List.{map-append, length-map}
use mathlib.Core.List.{IsPrefix}
use Rattle.legal_history.specs.declared.history.Entry.{Entry}
use Rattle.legal_history.specs.declared.history.Held.{Held}
use Rattle.legal_history.specs.declared.history.View.{View}
use Rattle.legal_history.specs.History.{In, Distinct, calls, keep, calls_by, said, held, Among, numbers, Joined, first, nobody, after, looked, lender, child, longer, taker, Returned, Settled, Sees}
use Rattle.legal_history.specs.Order.{times, first_of, rest_of, rest_if, without_first, taken, IsOrder, GrewInOrder}
use Rattle.legal_history.specs.Mapped.{IsOneToOne, mapped_entry, mapped_log, mapped_held, mapped_view}

-- ---- lists

pub prefix-mapped : {A B : Type 0} (g : A → B) (xs ys : List A) → IsPrefix xs ys → IsPrefix (map g xs) (map g ys)
prefix-mapped g xs ys p = (map g p.0, sym (map-append g xs p.0) ∙ ap (map g) p.1)

module _ {C D : Type 0} (f : C → D) where
  -- ---- the calls

  pub calls-mapped : (log : List (Entry C)) → calls (mapped_log f log) ≡ map f (calls log)
  calls-mapped [] = refl
  calls-mapped (e ∷ es) = ap (λ l. f e.call ∷ l) (calls-mapped es)

  keep-mapped : (b : Bool) (c : C) (cs : List C) → keep b (f c) (map f cs) ≡ map f (keep b c cs)
  keep-mapped true c cs = refl
  keep-mapped false c cs = refl

  pub calls_by-mapped : (t : ℕ) (log : List (Entry C)) → calls_by t (mapped_log f log) ≡ map f (calls_by t log)
  calls_by-mapped t [] = refl
  calls_by-mapped t (e ∷ es) = ap (keep (e.by == t) (f e.call)) (calls_by-mapped t es) ∙ keep-mapped (e.by == t) e.call (calls_by t es)

  said-mapped : (t : ℕ) (cs : List C) → mapped_log f (said t cs) ≡ said t (map f cs)
  said-mapped t [] = refl
  said-mapped t (c ∷ cs) = ap (λ l. mapped_entry f (record { by = t; call = c }) ∷ l) (said-mapped t cs)

  pub longer-mapped : (xs ys : List (Entry C)) → mapped_log f (longer xs ys) ≡ longer (mapped_log f xs) (mapped_log f ys)
  longer-mapped [] [] = refl
  longer-mapped (x ∷ xs) [] = refl
  longer-mapped [] (y ∷ ys) = refl
  longer-mapped (x ∷ xs) (y ∷ ys) = ap (λ l. mapped_entry f x ∷ l) (longer-mapped xs ys)

  -- ---- passes that were given back

  numbers-mapped : (hs : List (Held C)) → numbers (map (mapped_held f) hs) ≡ numbers hs
  numbers-mapped [] = refl
  numbers-mapped (h ∷ hs) = ap (λ l. h.by ∷ l) (numbers-mapped hs)

  among-mapped : (h : Held D) (hs : List (Held C)) → Among h (map (mapped_held f) hs) → (g : Held C) × Among g hs × (h ≡ mapped_held f g)
  among-mapped h [] among = absurd among
  among-mapped h (g ∷ gs) among = ⊎_elim
      (λ (is : h ≡ mapped_held f g). (g, inl refl, is))
      (λ (more : Among h (map (mapped_held f) gs)). let found = among-mapped h gs more in (found.0, inr found.1, found.2))
      among

  -- ---- what a pass knows

  pub first-mapped : mapped_view f first ≡ first
  first-mapped = refl

  pub lender-mapped : (v : View C) → mapped_view f (lender v) ≡ lender (mapped_view f v)
  lender-mapped v = refl

  pub child-mapped : (v : View C) → mapped_view f (child v) ≡ child (mapped_view f v)
  child-mapped v = refl

  pub looked-mapped : (v : View C) (log : List (Entry C)) → mapped_view f (looked v log) ≡ looked (mapped_view f v) (mapped_log f log)
  looked-mapped v log = refl

  pub after-mapped : (v : View C) (log : List (Entry C)) (cs : List C) → mapped_view f (after v log cs) ≡ after (mapped_view f v) (mapped_log f log) (map f cs)
  after-mapped v log cs i = record (mapped_view f v) {
    seen = (map-append (mapped_entry f) log (said v.number cs) ∙ ap (λ l. mapped_log f log ++ l) (said-mapped v.number cs)) i;
    mine = map-append f v.mine cs i;
  }

  pub taker-mapped : (v w : View C) → mapped_view f (taker v w) ≡ taker (mapped_view f v) (mapped_view f w)
  taker-mapped v w i = record (taker (mapped_view f v) (mapped_view f w)) {
    seen = longer-mapped v.seen w.seen i;
    joined = map-append (mapped_held f) v.joined (held w.number w.mine w.seen ∷ []) i;
  }

  returned-mapped : (v : View C) (h : Held C) → Returned v h → Returned (mapped_view f v) (mapped_held f h)
  returned-mapped v h returned = record {
    begins = prefix-mapped (mapped_entry f) h.seen v.seen returned.begins;
    told = calls_by-mapped h.by h.seen ∙ ap (map f) returned.told;
  }

  pub settled-mapped : (v : View C) → Settled v → Settled (mapped_view f v)
  settled-mapped v settled = record {
    own = calls_by-mapped 0 v.seen ∙ ap (map f) settled.own;
    back = λ h among.
        (let found = among-mapped h v.joined among in
        subst (λ (x : Held D). calls_by x.by (mapped_log f v.seen) ≡ x.calls) (sym found.2) (calls_by-mapped found.0.by v.seen ∙ ap (map f) (settled.back found.0 found.1)));
    cover = λ t. ⊎_elim
        (λ (none : calls_by t v.seen ≡ []). inl (calls_by-mapped t v.seen ∙ ap (map f) none))
        (λ (owned : (t ≡ 0) ⊎ Joined t v.joined). inr (subst (λ l. (t ≡ 0) ⊎ In t l) (sym (numbers-mapped v.joined)) owned))
        (settled.cover t);
    apart = subst (λ l. Distinct (0 ∷ l)) (sym (numbers-mapped v.joined)) settled.apart;
  }

  pub sees-mapped : (v : View C) (log : List (Entry C)) → Sees v log → Sees (mapped_view f v) (mapped_log f log)
  sees-mapped v log sees = record {
    begins = prefix-mapped (mapped_entry f) v.seen log sees.begins;
    own = calls_by-mapped v.number log ∙ ap (map f) sees.own;
    own_seen = calls_by-mapped v.number v.seen ∙ ap (map f) sees.own_seen;
    back = λ h among.
        (let found = among-mapped h v.joined among in
        subst (λ (x : Held D). calls_by x.by (mapped_log f log) ≡ x.calls) (sym found.2) (calls_by-mapped found.0.by log ∙ ap (map f) (sees.back found.0 found.1)));
    returned = λ h among.
        (let found = among-mapped h v.joined among in
        subst (Returned (mapped_view f v)) (sym found.2) (returned-mapped v found.0 (sees.returned found.0 found.1)));
    whole = λ root home. (let whole = sees.whole root home in (ap (mapped_log f) whole.0, settled-mapped v whole.1));
  }

  -- ---- orders of lanes

  first_of-mapped : (cs : List C) → first_of (map f cs) ≡ map f (first_of cs)
  first_of-mapped [] = refl
  first_of-mapped (c ∷ cs) = refl

  rest_if-mapped : (b : Bool) (cs : List C) → rest_if b (map f cs) ≡ map f (rest_if b cs)
  rest_if-mapped true [] = refl
  rest_if-mapped true (c ∷ cs) = refl
  rest_if-mapped false cs = refl

  abbrev mapped_lists : (ℕ → List C) → ℕ → List D
  mapped_lists lists l = map f (lists l)

  pub taken-mapped : (order : List ℕ) (lists : ℕ → List C) → taken order (λ l. map f (lists l)) ≡ map f (taken order lists)
  taken-mapped [] lists = refl
  taken-mapped (l ∷ ls) lists =
      let rest : without_first l (mapped_lists lists) ≡ mapped_lists (without_first l lists) = λ i k. rest_if-mapped (k == l) (lists k) i in
      ap (λ (cs : List D). cs ++ taken ls (without_first l (mapped_lists lists))) (first_of-mapped (lists l))
      ∙ ap (λ (cs : List D). map f (first_of (lists l)) ++ cs) (ap (taken ls) rest ∙ taken-mapped ls (without_first l lists))
      ∙ sym (map-append f (first_of (lists l)) (taken ls (without_first l lists)))

  pub is_order-back : (order : List ℕ) (lists : ℕ → List C) → IsOrder order (λ l. map f (lists l)) → IsOrder order lists
  is_order-back order lists is l = is l ∙ length-map (lists l) f

  -- ---- back to the calls themselves, where no two have one image

  module _ (once : IsOneToOne f) where
    abbrev head_or : D → List D → D
    head_or d [] = d
    head_or d (x ∷ xs) = x

    abbrev tail : List D → List D
    tail [] = []
    tail (x ∷ xs) = xs

    pub map-back : (xs ys : List C) → map f xs ≡ map f ys → xs ≡ ys
    map-back [] [] e = refl
    map-back [] (y ∷ ys) e = absurd cc
    map-back (x ∷ xs) [] e = absurd cc
    map-back (x ∷ xs) (y ∷ ys) e = λ i. once x y (ap (head_or (f x)) e) i ∷ map-back xs ys (ap tail e) i

    -- a history that grew by calls of one kind grew by the calls whose images these are
    pub grown-back : (before now : List (Entry C)) (more : List C) → calls (mapped_log f now) ≡ calls (mapped_log f before) ++ map f more → calls now ≡ calls before ++ more
    grown-back before now more grew =
        map-back (calls now) (calls before ++ more)
        (sym (calls-mapped now) ∙ grew ∙ ap (λ l. l ++ map f more) (calls-mapped before) ∙ sym (map-append f (calls before) more))

    pub grew-back : (lists : ℕ → List C) (before now : List (Entry C)) → GrewInOrder (λ l. map f (lists l)) (mapped_log f before) (mapped_log f now) → GrewInOrder lists before now
    grew-back lists before now grew = (
      grew.0,
      is_order-back grew.0 lists grew.1,
      grown-back before now (taken grew.0 lists) (grew.2 ∙ ap (λ l. calls (mapped_log f before) ++ l) (taken-mapped grew.0 lists)),
    )
