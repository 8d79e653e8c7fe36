-- The calls of histories one behind the other.
use Rattle.std.proofs.Common.{◌≡◌, ℕ, ◌==◌, Bool, true, false, List, [], ◌∷◌, ◌++◌, refl, sym, ap, ◌∙◌, append_assoc}
use Rattle.std.proofs.lemmas.List.{append-nil}
use mathlib.Core.List.{IsPrefix}
use Rattle.legal_history.specs.declared.history.Entry.{Entry}
use Rattle.legal_history.specs.History.{calls, calls_by, keep}

module _ {C : Type 0} where
  pub calls-append : (xs ys : List (Entry C)) → calls (xs ++ ys) ≡ calls xs ++ calls ys
  calls-append [] ys = refl
  calls-append (x ∷ xs) ys = ap (λ l. x.call ∷ l) (calls-append xs ys)

  pub keep-append : (b : Bool) (c : C) (cs ds : List C) → keep b c (cs ++ ds) ≡ keep b c cs ++ ds
  keep-append true c cs ds = refl
  keep-append false c cs ds = refl

  pub calls_by-append : (t : ℕ) (xs ys : List (Entry C)) → calls_by t (xs ++ ys) ≡ calls_by t xs ++ calls_by t ys
  calls_by-append t [] ys = refl
  calls_by-append t (x ∷ xs) ys = ap (keep (x.by == t) x.call) (calls_by-append t xs ys) ∙ keep-append (x.by == t) x.call (calls_by t xs) (calls_by t ys)

  cancel : (xs ys zs : List C) → xs ++ ys ≡ xs ++ zs → ys ≡ zs
  cancel [] ys zs e = e
  cancel (x ∷ xs) ys zs e = cancel xs ys zs (cc)

  -- a list that is as it was had nothing put behind it
  pub no_more : (xs ys : List C) → xs ++ ys ≡ xs → ys ≡ []
  no_more xs ys e = cancel xs ys [] (e ∙ sym (append-nil xs))

  front_empty : (xs ys : List C) → xs ++ ys ≡ [] → xs ≡ []
  front_empty [] ys e = refl
  front_empty (x ∷ xs) ys e = absurd (cc)

  pub end_empty : (xs ys : List C) → xs ++ ys ≡ [] → ys ≡ []
  end_empty [] ys e = e
  end_empty (x ∷ xs) ys e = absurd (cc)

  -- what a longer history adds has no call of a pass that has the same calls in both
  pub none_added : (t : ℕ) (xs ys : List (Entry C)) → calls_by t (xs ++ ys) ≡ calls_by t xs → calls_by t ys ≡ []
  none_added t xs ys e = no_more (calls_by t xs) (calls_by t ys) (sym (calls_by-append t xs ys) ∙ e)

  -- a pass with no call in a history has none in a beginning of it
  pub none_before : (t : ℕ) (xs ys : List (Entry C)) → IsPrefix xs ys → calls_by t ys ≡ [] → calls_by t xs ≡ []
  none_before t xs ys p e = front_empty (calls_by t xs) (calls_by t p.0) (sym (calls_by-append t xs p.0) ∙ (ap (calls_by t) p.1 ∙ e))

  -- a pass that has the same calls in a history and in a longer one has them in each between
  pub between : (t : ℕ) (xs ys zs : List (Entry C)) (cs : List C) → IsPrefix xs ys → IsPrefix ys zs → calls_by t xs ≡ cs → calls_by t zs ≡ cs → calls_by t ys ≡ cs
  between t xs ys zs cs p q a b =
      let first : calls_by t ys ≡ calls_by t xs ++ calls_by t p.0 = ap (calls_by t) (sym p.1) ∙ calls_by-append t xs p.0 in
      let last : calls_by t zs ≡ (calls_by t xs ++ calls_by t p.0) ++ calls_by t q.0 = ap (calls_by t) (sym q.1) ∙ (calls_by-append t ys q.0 ∙ ap (λ l. l ++ calls_by t q.0) first) in
      let none : calls_by t p.0 ≡ [] = front_empty (calls_by t p.0) (calls_by t q.0)
      (no_more (calls_by t xs) (calls_by t p.0 ++ calls_by t q.0) (sym (append_assoc (calls_by t xs) (calls_by t p.0) (calls_by t q.0)) ∙ (sym last ∙ (b ∙ sym a)))) in
      first ∙ (ap (λ l. calls_by t xs ++ l) none ∙ (append-nil (calls_by t xs) ∙ a))
