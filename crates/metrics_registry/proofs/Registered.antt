-- What is left of a registry where a key is registered: the id that is given is new, or that of a series that is there.
use Rattle.std.proofs.Common.{◌≡◌, ℕ, ◌+◌, ◌<◌, Bool, true, false, cond, List, [], ◌∷◌, Some, None, Ok, Err, OnErr, refl, sym, subst, inl, inr, arith}
use Rattle.std.specs.Prelude.{find, option_map, IfOk}
use Rattle.std.specs.declared.result.Result.{Result}
use Rattle.metrics_core.specs.declared.kinds.MetricKind.{MetricKind}
use Rattle.metrics_core.specs.declared.kinds.SeriesId.{SeriesId}
use Rattle.metrics_core.specs.Keys.{KeyText}
use Rattle.metrics_registry.specs.Live.{LiveSeries, Registers, has_key, id_of_key, with_last, AreOf}
use Rattle.metrics_registry.proofs.Found.{are_of-made}

module _ {X : Type 0} where
  -- an id that is found by a key is below the number of series that were made
  pub given_below : (kind : MetricKind) (n : ℕ) (live : List (LiveSeries X)) (key : KeyText) (id : SeriesId) → AreOf kind n live → id_of_key key live ≡ Some id → id.number < n
  given_below kind n [] key id of found = cc
  given_below kind n (x ∷ live) key id of found = by (has_key key x) found (given_below kind n live key id of.2)
    where
      by : (b : Bool) → option_map (λ (series : LiveSeries X). series.id) (cond b (Some x) (find (has_key key) live)) ≡ Some id → (id_of_key key live ≡ Some id → id.number < n) → id.number < n
      by true is rest = let same : x.id ≡ id = cc is in subst (λ (i : SeriesId). i.number < n) same of.1
      by false is rest = rest is

  -- where the new id is given a new series went last
  pub made_new : (IsMade : X → Type 0) (kind : MetricKind) (key : KeyText) (new given : SeriesId) (before now : List (LiveSeries X)) → AreOf kind new.number before → given.number ≡ new.number → Registers IsMade key new given before now
      → (id_of_key key before ≡ None) × (given ≡ new) × ((cell : X) × IsMade cell × (now ≡ with_last before new key cell))
  made_new IsMade kind key new given before now of is (inl (found, same)) =
      absurd (omega (arith, given_below kind new.number before key given of found, is))
  made_new IsMade kind key new given before now of is (inr made) = made

  pub are_of-new : (IsMade : X → Type 0) (kind : MetricKind) (key : KeyText) (new given : SeriesId) (before now : List (LiveSeries X)) → AreOf kind new.number before → new.kind ≡ kind → given.number ≡ new.number
      → Registers IsMade key new given before now → AreOf kind (new.number + 1) now
  are_of-new IsMade kind key new given before now of own is registered =
      let made = made_new IsMade kind key new given before now of is registered in
      subst (AreOf kind (new.number + 1)) (sym made.2.2) (are_of-made kind new.number before (record { id = new; key = key; cell = made.2.0 }) of own refl)

-- what follows both from the value and from an error
pub either_way : {X E : Type 0} (P : X → Type 0) (Q R : Type 0) (r : Result X E) → IfOk r P → OnErr r Q → ((x : X) → P x → R) → (Q → R) → R
either_way P Q R (Ok x) p q f g = f x p
either_way P Q R (Err e) p q f g = g q
